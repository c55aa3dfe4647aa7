-- A history that makes no objects has those that were declared.
use Rattle.std.proofs.Common.{◌≡◌, Bool, true, false, cond, List, [], ◌∷◌, ◌++◌, length, is_none, refl, ap, ◌∙◌, append-nil}
use Rattle.std.specs.List.{filter_map}
use Rattle.std.proofs.lemmas.Bool.{cond-false, false≢true}
use Rattle.block_layout.specs.declared.place.Loc.{Loc}
use Rattle.upc_values.specs.declared.action.Action.{Action}
use Rattle.upc_values.specs.declared.action.Action.TheVariants.{Alloc, Meet, LockMake}
use Rattle.upc_values.specs.declared.journal.Entry.{Entry}
use Rattle.upc_values.specs.Lists.{Each}
use Rattle.upc_values.specs.Drain.{or_else, last_written}
use Rattle.upc_values.specs.Calls.{Other}
use Rattle.upc_values.specs.Openings.{Opening, initial_of}
use Rattle.upc_values.specs.History.{picked_from, asked, meets, leader, led, makes, makes_lock, object_of, objects, locks, held}
use Rattle.upc_values.specs.layer.Basic.{is_basic, AreBasic}
use Rattle.upc_values.proofs.Lists.{each-grow}

-- the action may make an object
abbrev pub is_maker : Action → Bool
is_maker (Alloc n b h s) = true
is_maker (Meet c args) = true
is_maker a = false

made-none : (a : Action) (b : Bool) → is_maker a ≡ false → makes a (cond b (asked a) Other) ≡ false
made-none (Alloc n b h s) c e = cc
made-none (Meet c args) b e = cc
made-none a true e = refl
made-none a false e = refl

pub none-picked : (before es : List Entry) → Each (λ e. is_maker e.action ≡ false) es → picked_from (λ b e. makes e.action (led b e)) before es ≡ []
none-picked before [] h = refl
none-picked before (e ∷ es) h =
    cond-false (makes e.action (led before e)) (e ∷ picked_from (λ b x. makes x.action (led b x)) (before ++ e ∷ []) es)
    (picked_from (λ b x. makes x.action (led b x)) (before ++ e ∷ []) es)
    (made-none e.action (is_none (leader (length (meets e.thread before)) before)) h.0)
    ∙ none-picked (before ++ e ∷ []) es h.1

pub objects-declared : (o : Opening) (es : List Entry) → Each (λ e. is_maker e.action ≡ false) es → objects o es ≡ o.declared
objects-declared o es h =
    ap (λ z. o.declared ++ filter_map object_of z) (none-picked [] es h) ∙ append-nil o.declared

-- a basic action makes neither an object nor a lock
basic-no_maker : (a : Action) → is_basic a ≡ true → is_maker a ≡ false
basic-no_maker (Alloc n b h s) e = absurd (false≢true e)
basic-no_maker (Meet c args) e = absurd (false≢true e)
basic-no_maker a e = refl

-- the objects after basic actions are the declared ones
pub basic-declared : (o : Opening) (es : List Entry) → AreBasic es → objects o es ≡ o.declared
basic-declared o es h = objects-declared o es (each-grow (λ e. is_basic e.action ≡ true) (λ e. is_maker e.action ≡ false) es (λ e. basic-no_maker e.action) h)

lock-none : (a : Action) (b : Bool) → is_basic a ≡ true → makes_lock a (cond b (asked a) Other) ≡ false
lock-none (Meet c args) b e = absurd (false≢true e)
lock-none LockMake b e = absurd (false≢true e)
lock-none a true e = refl
lock-none a false e = refl

none-locked : (before es : List Entry) → AreBasic es → picked_from (λ b e. makes_lock e.action (led b e)) before es ≡ []
none-locked before [] h = refl
none-locked before (e ∷ es) h =
    cond-false (makes_lock e.action (led before e)) (e ∷ picked_from (λ b x. makes_lock x.action (led b x)) (before ++ e ∷ []) es)
    (picked_from (λ b x. makes_lock x.action (led b x)) (before ++ e ∷ []) es)
    (lock-none e.action (is_none (leader (length (meets e.thread before)) before)) h.0)
    ∙ none-locked (before ++ e ∷ []) es h.1

-- and there are no locks
pub basic-no_locks : (es : List Entry) → AreBasic es → locks es ≡ 0
basic-no_locks es h = ap length (none-locked [] es h)

-- a location then holds the last value written to it, else what it began with
pub held-declared : (o : Opening) (es : List Entry) (l : Loc) → Each (λ e. is_maker e.action ≡ false) es → held o es l ≡ or_else (last_written l es) (initial_of o o.declared l)
held-declared o es l h = ap (λ z. or_else (last_written l es) (initial_of o z l)) (objects-declared o es h)
