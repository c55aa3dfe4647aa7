-- What a thread of code wants it wants rightly, whatever it was answered.
use Rattle.std.proofs.Common.{◌≡◌, ◌≢◌, ℕ, ◌*◌, ◌==◌, Bool, true, false, not, ◌||◌, cond, List, []}
use Rattle.std.proofs.Common.{◌∷◌, Option, Some, None, is_some, slice_get, refl, ◌∙◌}
use Rattle.std.specs.List.{list_any, filter_map, cons_option}
use Rattle.std.proofs.lemmas.Bool.{and_parts, false≢true, eqb-true, eqb-false, not-true}
use Rattle.block_layout.specs.declared.kind.Kind.{Kind}
use Rattle.block_layout.specs.declared.place.Loc.{Loc}
use Rattle.block_layout.specs.declared.place.ObjectRef.{ObjectRef}
use Rattle.upc_values.specs.declared.scalar.Scalar.{Scalar}
use Rattle.upc_values.specs.declared.scalar.Scalar.TheVariants as scalar
use Rattle.upc_values.specs.declared.action.Action.{Action}
use Rattle.upc_values.specs.declared.action.Action.TheVariants as act
use Rattle.upc_values.specs.declared.action.Reply.{Reply}
use Rattle.upc_values.specs.declared.action.Reply.TheVariants as reply
use Rattle.upc_values.specs.declared.record.ToldEnd.TheVariants.{Wants}
use Rattle.upc_values.specs.Lists.{Each}
use Rattle.upc_values.specs.Openings.{Opening}
use Rattle.upc_values.specs.Formed.{is_whole, is_home, may_alloc}
use Rattle.upc_values.specs.Calls.{Call, Allocates, Makes_lock, Frees, Frees_lock, Copies, Permutes, Reduces}
use Rattle.upc_values.specs.Calls.{Reduces_prefixes, Other, call_of}
use Rattle.upc_values.specs.Outcomes.{Outcome}
use Rattle.upc_values.proofs.Membership.{each-weaker}
use Rattle.stack_code.specs.layer.Codes.{Codes}
use Rattle.stack_code_laws.specs.code.Names.{objects_given, is_lock_given, lock_in}
use Rattle.stack_code_laws.specs.code.Wanted.{IsThreadNaming, IsPlaced, scalars_in, HasLock, IsCallOf}
use Rattle.stack_code_laws.specs.code.Wanted.{HasRanges, IsCellRead, LeadsToCell, IsWantedRightly, AsksRightly}
use Rattle.stack_code_laws.proofs.Given.{IsGround, is_known, may_call, ReadsWell, IsWellFormed, AnyRead}
use Rattle.stack_code_laws.proofs.Naming.{names_declared}
use Rattle.stack_code_laws.proofs.Distances.{pointer_placed}
use Rattle.stack_code_laws.proofs.Histories.{of_either, names_given}
use Rattle.stack_code_laws.proofs.Asking.{IsRun, is_wanted, heard_all, taken, missed}
use Rattle.stack_code_laws.proofs.Turns.{takes_turns}

-- ---- parts of an action

-- A lock that replies gave is not null.
lock_some : (rs : List Reply) (l : ℕ) → is_lock_given rs l ≡ true → l ≢ 0
lock_some [] l h = absurd (false≢true h)
lock_some (r ∷ rs) l h = by_reply r h (lock_some rs l)
  where
    by_null : (n : ℕ) (b : Bool) → (n == 0) ≡ b
        → list_any (λ m. m == l) (cons_option (cond b None (Some n)) (filter_map lock_in rs)) ≡ true
        → (is_lock_given rs l ≡ true → l ≢ 0) → l ≢ 0
    by_null n true e k next = next k
    by_null n false e k next =
        of_either (l ≢ 0) (n == l) (is_lock_given rs l) k
        (λ s. let some = eqb-false n 0 e in let same = eqb-true n l s in λ z. some (same ∙ z)) next

    by_reply : (r : Reply)
        → list_any (λ m. m == l) (cons_option (lock_in r) (filter_map lock_in rs)) ≡ true
        → (is_lock_given rs l ≡ true → l ≢ 0) → l ≢ 0
    by_reply (reply.Value (scalar.Lock n)) k next = by_null n (n == 0) refl k next
    by_reply (reply.Value (scalar.Int v)) k next = next k
    by_reply (reply.Value (scalar.Shared p)) k next = next k
    by_reply reply.Done k next = next k
    by_reply (reply.Flag b) k next = next k
    by_reply (reply.Refused code) k next = next k

module _ (o : Opening) (rs : List Reply) (v : IsGround o) where
  scalar_placed : (w : Scalar) → is_known o rs w ≡ true → IsPlaced o.threads w
  scalar_placed (scalar.Int n) h = tt
  scalar_placed (scalar.Shared p) h = pointer_placed o rs v p h
  scalar_placed (scalar.Lock l) h = tt

  placed : (kind : Option Kind) (a : Action) → IsWellFormed o rs AnyRead kind a
      → Each (IsPlaced o.threads) (scalars_in a)
  placed kind (act.Read l s) h = tt
  placed kind (act.Write s l w) h = (scalar_placed w h.3, tt)
  placed kind (act.Lock l) h = tt
  placed kind (act.Attempt l) h = tt
  placed kind (act.Unlock l) h = tt
  placed kind (act.LockFree l) h = tt
  placed kind (act.Free p) h = (pointer_placed o rs v p h, tt)
  placed kind (act.Meet c args) h =
      each-weaker (λ w. is_known o rs w ≡ true) (IsPlaced o.threads) scalar_placed args h.1
  placed kind act.Fence h = tt
  placed kind act.Beat h = tt
  placed kind (act.Notify m) h = tt
  placed kind (act.Wait m) h = tt
  placed kind act.LockMake h = tt
  placed kind (act.Alloc n b home shape) h = tt
  placed kind (act.Print x) h = tt
  placed kind (act.Exit w) h = tt

  locked : (kind : Option Kind) (a : Action) → IsWellFormed o rs AnyRead kind a → HasLock a
  locked kind (act.Read l s) h = tt
  locked kind (act.Write s l w) h = tt
  locked kind (act.Lock l) h = lock_some rs l h
  locked kind (act.Attempt l) h = lock_some rs l h
  locked kind (act.Unlock l) h = lock_some rs l h
  locked kind (act.LockFree l) h = lock_some rs l h
  locked kind (act.Free p) h = tt
  locked kind (act.Meet c args) h = tt
  locked kind act.Fence h = tt
  locked kind act.Beat h = tt
  locked kind (act.Notify m) h = tt
  locked kind (act.Wait m) h = tt
  locked kind act.LockMake h = tt
  locked kind (act.Alloc n b home shape) h = tt
  locked kind (act.Print x) h = tt
  locked kind (act.Exit w) h = tt

  -- ---- numbers

  made : (n b s : ℕ) → may_alloc o n b s ≡ true
      → (n * b ≢ 0) × (is_whole (slice_get o.shapes s) b ≡ true)
  made n b s h =
      let both = and_parts (not (n * b == 0)) (is_whole (slice_get o.shapes s) b) h in
      (eqb-false (n * b) 0 (not-true (n * b == 0) both.0), both.1)

  called : (c : Call) → may_call o rs c ≡ true → IsCallOf o.shapes c
  called (Allocates n b s) h =
      let both = and_parts (is_some (slice_get o.shapes s)) ((n * b == 0) || may_alloc o n b s) h in (
        both.0,
        λ some.
            of_either (is_whole (slice_get o.shapes s) b ≡ true) (n * b == 0) (may_alloc o n b s) both.1
            (λ e. absurd (some (eqb-true (n * b) 0 e))) (λ m. (made n b s m).1),
      )
  called Makes_lock h = tt
  called (Frees p) h = tt
  called (Frees_lock l) h = tt
  called (Copies w dst src n f) h = tt
  called (Permutes dst src perm n f) h = tt
  called (Reduces dst src op n b k f) h = tt
  called (Reduces_prefixes dst src op n b k f) h = tt
  called Other h = false≢true h

  ranged : (kind : Option Kind) (a : Action) → IsWellFormed o rs AnyRead kind a → HasRanges o.threads o.shapes a
  ranged kind (act.Read l s) h = tt
  ranged kind (act.Write s l w) h = tt
  ranged kind (act.Lock l) h = tt
  ranged kind (act.Attempt l) h = tt
  ranged kind (act.Unlock l) h = tt
  ranged kind (act.LockFree l) h = tt
  ranged kind (act.Free p) h = tt
  ranged kind (act.Meet c args) h = called (call_of c args) h.0
  ranged kind act.Fence h = tt
  ranged kind act.Beat h = tt
  ranged kind (act.Notify m) h = tt
  ranged kind (act.Wait m) h = tt
  ranged kind act.LockMake h = tt
  ranged kind (act.Alloc n b home shape) h =
      let both = and_parts (may_alloc o n b shape) (is_home o.threads home) h.0 in
      (record { some = (made n b shape both.0).0; whole = (made n b shape both.0).1; count = h.1; size = h.2 }, both.1)
  ranged kind (act.Print x) h = tt
  ranged kind (act.Exit w) h = tt

  -- ---- cells

  read_there : (l : Loc) (kind : Option Kind) → ReadsWell o rs AnyRead l kind
      → IsCellRead (objects_given o.declared rs) o.threads o.shapes l kind
  read_there l (Some k) h = h.0
  read_there l None h = h

  led : (kind : Option Kind) (a : Action) → IsWellFormed o rs AnyRead kind a
      → LeadsToCell (objects_given o.declared rs) o.threads o.shapes kind a
  led kind (act.Read l s) h = read_there l kind h
  led kind (act.Write s l w) h = (h.0, h.1, h.2)
  led kind (act.Lock l) h = tt
  led kind (act.Attempt l) h = tt
  led kind (act.Unlock l) h = tt
  led kind (act.LockFree l) h = tt
  led kind (act.Free p) h = tt
  led kind (act.Meet c args) h = tt
  led kind act.Fence h = tt
  led kind act.Beat h = tt
  led kind (act.Notify m) h = tt
  led kind (act.Wait m) h = tt
  led kind act.LockMake h = tt
  led kind (act.Alloc n b home shape) h = tt
  led kind (act.Print x) h = tt
  led kind (act.Exit w) h = tt

-- ---- the whole

-- What a thread begins with whose code names no shared object but some.
abbrev opening_of : List ObjectRef → Codes → Opening
opening_of named codes =
    record { threads = codes.threads; declared = named; initials = []; shapes = codes.shapes }

module _ (named : List ObjectRef) (codes : Codes) (thread budget : ℕ) (f : List Reply → Outcome)
    (t : IsThreadNaming named codes thread budget f) where
  run : IsRun (opening_of named codes) codes thread budget f
  run = record {
    ground = record {
      least = t.code.threads.least;
      most = t.code.threads.most;
      shapes = t.code.shapes;
      sharable = t.sharable;
    };
    code = t.code;
    declared = names_declared (opening_of named codes) codes t.code
        (record { threads = refl; shapes = refl; names = t.names });
    fitting = t.code.fitting;
    known = t.code.known;
    number = t.number;
    means = t.means;
  }

  wanted_rightly : (rs : List Reply) (a : Action) → (f rs).«end» ≡ Wants a
      → IsWantedRightly named codes thread budget f rs a
  wanted_rightly rs a w =
      let o = opening_of named codes in
      let wish = is_wanted o codes thread budget f run rs a w in
      record {
        kind = wish.kind;
        names = names_given o rs AnyRead wish.kind a wish.formed;
        lock = locked o rs run.ground wish.kind a wish.formed;
        cell = led o rs run.ground wish.kind a wish.formed;
        read = wish.reads;
        pointers = placed o rs run.ground wish.kind a wish.formed;
        ranges = ranged o rs run.ground wish.kind a wish.formed;
        heard = heard_all o codes thread budget f run rs a w;
        goes = taken o codes thread budget f run rs a w;
        misfits = missed o codes thread budget f run rs a w;
      }

pub asks_rightly : (named : List ObjectRef) (codes : Codes) (thread budget : ℕ) (f : List Reply → Outcome)
    → IsThreadNaming named codes thread budget f → AsksRightly named codes thread budget f
asks_rightly named codes thread budget f t = record {
  wants = wanted_rightly named codes thread budget f t;
  turns = λ rs. takes_turns codes thread budget rs (f rs) (t.means rs);
}
