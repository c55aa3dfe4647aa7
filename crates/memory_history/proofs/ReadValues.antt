-- What a read gives fits its cell: each value written fitted its cell, and cells keep their kinds.
use Rattle.std.proofs.Common.{◌≡◌, ℕ, Bool, true, false, List, [], ◌∷◌, ◌++◌, length, Option, Some, None, is_none, refl, sym, ap, subst, ◌∙◌, append-nil}
use Rattle.std.proofs.lemmas.Bool.{and_parts, and_from, cond_both}
use Rattle.block_layout.specs.declared.place.Loc.{Loc}
use Rattle.block_layout.specs.declared.place.ObjectRef.{ObjectRef}
use Rattle.block_layout.specs.declared.place.SharedPtr.{SharedPtr}
use Rattle.block_layout.specs.declared.kind.Kind.{Kind}
use Rattle.block_layout.specs.declared.kind.Shape.{Shape}
use Rattle.upc_values.specs.declared.scalar.Scalar.{Scalar}
use Rattle.upc_values.specs.declared.scalar.Scalar.TheVariants.{Int, Shared, Lock}
use Rattle.upc_values.specs.declared.action.Action.{Action}
use Rattle.upc_values.specs.declared.action.Action.TheVariants as act
use Rattle.upc_values.specs.declared.action.Reply.{Reply}
use Rattle.upc_values.specs.declared.action.Reply.TheVariants.{Value}
use Rattle.upc_values.specs.declared.journal.Entry.{Entry}
use Rattle.upc_values.specs.Scalars.{same_loc}
use Rattle.upc_values.specs.Shapes.{fits_cell}
use Rattle.upc_values.specs.Drain.{entry_of, written, or_else, last_written}
use Rattle.upc_values.specs.Openings.{Opening, IsOpening, cell_of, is_named, initial_of}
use Rattle.upc_values.specs.History.{objects, meets, leader, held, value_reply, reply, IsLegal}
use Rattle.upc_values.specs.Formed.{is_known, is_read, fits_after, IsWellFormed, AreWellFormed}
use Rattle.upc_values.proofs.Fitting.{lawful-fits, written-fits}
use Rattle.upc_values.proofs.Known.{lawful-known}
use Rattle.upc_values.proofs.Sameness.{same_loc-true}
use Rattle.memory_history.proofs.Growing.{objects-push, last_written-push}
use Rattle.memory_history.proofs.Entries.{Keeps, by_entries}
use Rattle.memory_history.proofs.Objects.{made_by, idle, makes-none}
use Rattle.shared_heap.proofs.Placed.{with_objects, fits-stays}
use Rattle.memory_history.proofs.Placed.{objects-opening}

-- a value, if there is one, fits the cell
abbrev pub FitsIn : Option Kind → Option Scalar → Type 0
FitsIn k (Some v) = fits_cell v k ≡ true
FitsIn k None = Unit {0}

or_else-fits : (k : Option Kind) (a b : Option Scalar) → FitsIn k a → FitsIn k b → FitsIn k (or_else a b)
or_else-fits k (Some v) b h g = h
or_else-fits k None b h g = g

-- ---- what was written

fits-push : (o : Opening) (es : List Entry) (e : Entry) (l : Loc) (v : Option Scalar)
    → FitsIn (cell_of o (objects o es) l) v → FitsIn (cell_of o (objects o (es ++ e ∷ [])) l) v
fits-push o es e l None h = tt
fits-push o es e l (Some v) h =
    subst (λ z. fits_cell v (cell_of o z l) ≡ true) (sym (objects-push o es e))
    (fits-stays o (objects o es) (made_by es e) l v h)

action-fits : (o : Opening) (es : List Entry) (l : Loc) (a : Action) → IsWellFormed o es a
    → FitsIn (cell_of o (objects o es) l) (written l a)
action-fits o es l (act.Write s m v) f =
    let k = cell_of o (objects o es) l in
    cond_both (same_loc m l) (Some v) None (FitsIn k)
    (λ t. subst (λ z. fits_cell v (cell_of o (objects o es) z) ≡ true) (same_loc-true m l t)
    (and_parts (fits_cell v (cell_of o (objects o es) m)) (is_known o es v) f).0)
    (λ t. tt)
action-fits o es l a f = tt

pub last-fits : (o : Opening) (es : List Entry) → IsLegal o es → AreWellFormed o es → (l : Loc)
    → FitsIn (cell_of o (objects o es) l) (last_written l es)
last-fits o es l f =
    by_entries o (λ z. (m : Loc) → FitsIn (cell_of o (objects o z) m) (last_written m z)) (λ m. tt) keep es l f
  where
    keep : Keeps o (λ z. (m : Loc) → FitsIn (cell_of o (objects o z) m) (last_written m z))
    keep es e l f w r all m =
        subst (FitsIn (cell_of o (objects o (es ++ e ∷ [])) m)) (sym (last_written-push m es e))
        (or_else-fits (cell_of o (objects o (es ++ e ∷ [])) m) (written m e.action) (last_written m es)
        (fits-push o es e m (written m e.action) (action-fits o es m e.action w))
        (fits-push o es e m (last_written m es) (all m)))

-- ---- what a cell begins with, and pointers

read-cell : (threads : ℕ) (shapes : List Shape) (k : Option Kind) (v : Scalar) → is_read threads shapes k v ≡ true
    → fits_cell v k ≡ true
read-cell threads shapes k (Int v) h = h
read-cell threads shapes k (Lock l) h = h
read-cell threads shapes k (Shared p) h = (and_parts (fits_cell (Shared p) k) _ h).0

initial-read : (o : Opening) (xs : List ObjectRef) (l : Loc) (v : Scalar) → IsOpening (with_objects o xs)
    → initial_of o xs l ≡ Some v
    → is_read o.threads o.shapes (cell_of o xs l) v ≡ true
initial-read o xs l v i e =
    let p = with_objects o xs in
    subst (λ z. is_read o.threads o.shapes (cell_of o z l) v ≡ true) (append-nil xs)
    (lawful-fits p [] 0 (act.Read l false) (Value v) i tt tt refl
    (ap (λ z. value_reply (initial_of o z l)) (append-nil xs) ∙ ap value_reply e))

initial-fits : (o : Opening) (xs : List ObjectRef) (l : Loc) → IsOpening (with_objects o xs)
    → FitsIn (cell_of o xs l) (initial_of o xs l)
initial-fits o xs l i = go (initial_of o xs l) refl
  where
    go : (v : Option Scalar) → initial_of o xs l ≡ v → FitsIn (cell_of o xs l) v
    go (Some v) e = read-cell o.threads o.shapes (cell_of o xs l) v (initial-read o xs l v i e)
    go None e = tt

-- a pointer that names one of the objects may be read
named-read : (o : Opening) (xs : List ObjectRef) (l : Loc) (p : SharedPtr) → IsOpening (with_objects o xs)
    → fits_cell (Shared p) (cell_of o xs l) ≡ true
    → is_named o.threads xs p ≡ true → is_read o.threads o.shapes (cell_of o xs l) (Shared p) ≡ true
named-read o xs l p i f n =
    let q = with_objects o xs in
    let asks : IsWellFormed q [] (act.Write false l (Shared p)) =
    and_from (fits_cell (Shared p) (cell_of o (xs ++ []) l)) (is_named o.threads (xs ++ []) p)
    (subst (λ z. fits_cell (Shared p) (cell_of o z l) ≡ true) (sym (append-nil xs)) f)
    (subst (λ z. is_named o.threads z p ≡ true) (sym (append-nil xs)) n) in
    subst (λ z. is_read o.threads o.shapes (cell_of o z l) (Shared p) ≡ true) (append-nil xs)
    (written-fits q [] l false false (Shared p) i (append-nil xs) asks)

-- ---- what a location holds

held-fits : (o : Opening) (es : List Entry) → IsOpening o → IsLegal o es → AreWellFormed o es → (l : Loc)
    → FitsIn (cell_of o (objects o es) l) (held o es l)
held-fits o es i g f l =
    or_else-fits (cell_of o (objects o es) l) (last_written l es) (initial_of o (objects o es) l) (last-fits o es g f l)
    (initial-fits o (objects o es) l (objects-opening o es i g f))

value-read : (o : Opening) (es : List Entry) (t : ℕ) (l : Loc) (s : Bool) (v : Scalar) → IsOpening o → IsLegal o es
    → AreWellFormed o es
    → IsWellFormed o es (act.Read l s) → reply o es t (act.Read l s) ≡ Some (Value v)
    → fits_cell v (cell_of o (objects o es) l) ≡ true
    → is_read o.threads o.shapes (cell_of o (objects o es) l) v ≡ true
value-read o es t l s (Int v) i g f w r h = h
value-read o es t l s (Lock n) i g f w r h = h
value-read o es t l s (Shared p) i g f w r h =
    let e = entry_of t 0 (act.Read l s) (Value (Shared p)) in
    let none = idle es e (makes-none (act.Read l s) (is_none (leader (length (meets t es)) es)) refl) in
    let same : objects o (es ++ e ∷ []) ≡ objects o es =
    objects-push o es e ∙ ap (λ z. objects o es ++ z) none ∙ append-nil (objects o es) in
    named-read o (objects o es) l p (objects-opening o es i g f) h
    (subst (λ z. is_named o.threads z p ≡ true) same
    (lawful-known o es t 0 (act.Read l s) (Value (Shared p)) i g f w r))

-- the value that a read gives may be read
pub read-fits : (o : Opening) (es : List Entry) (t : ℕ) (l : Loc) (s : Bool) (r : Reply) → IsOpening o → IsLegal o es
    → AreWellFormed o es
    → IsWellFormed o es (act.Read l s) → reply o es t (act.Read l s) ≡ Some r → fits_after o es (act.Read l s) r ≡ true
read-fits o es t l s r i g f w e = go (held o es l) refl
  where
    go : (v : Option Scalar) → held o es l ≡ v → fits_after o es (act.Read l s) r ≡ true
    go None q = let none : None ≡ Some r = sym (ap value_reply q) ∙ e in absurd cc
    go (Some v) q =
        let given : Some (Value v) ≡ Some r = sym (ap value_reply q) ∙ e in
        let same : Value v ≡ r = cc in
        subst (λ z. fits_after o es (act.Read l s) z ≡ true) same
        (value-read o es t l s v i g f w (ap value_reply q)
        (subst (FitsIn (cell_of o (objects o es) l)) q (held-fits o es i g f l)))

-- the value of a write that may be asked for may be read
pub pending-fits : (o : Opening) (es : List Entry) (l : Loc) (s w : Bool) (v : Scalar) → IsOpening o → IsLegal o es
    → AreWellFormed o es → IsWellFormed o es (act.Write w l v) → fits_after o es (act.Read l s) (Value v) ≡ true
pending-fits o es l s w v i g f h =
    let p = and_parts (fits_cell v (cell_of o (objects o es) l)) (is_known o es v) h in
    go v p.0 p.1
  where
    go : (u : Scalar) → fits_cell u (cell_of o (objects o es) l) ≡ true → is_known o es u ≡ true
        → fits_after o es (act.Read l s) (Value u) ≡ true
    go (Int n) a b = a
    go (Lock n) a b = a
    go (Shared q) a b = named-read o (objects o es) l q (objects-opening o es i g f) a b
