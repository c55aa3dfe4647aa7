-- What replies named is in every history that may have given them, so what may be asked for by the one may be asked for
-- by the other.
use Rattle.std.proofs.Common.{◌≡◌, ℕ, ◌==◌, nat_lt, Bool, true, false, ◌&&◌, ◌||◌, cond, List, [], ◌∷◌}
use Rattle.std.proofs.Common.{Option, Some, None, is_some, refl, sym, ap, subst, ◌∙◌, arith, lt-ltb, le-leb}
use Rattle.std.specs.Prelude.{nat_le}
use Rattle.std.specs.List.{list_any, find, filter_map, cons_option}
use Rattle.std.proofs.lemmas.Bool.{and_parts, and_from, or_left, or_right, false≢true, eqb-true, eqb-false, eq-eqb}
use Rattle.std.proofs.lemmas.List.Folds.{list_any-append}
use Rattle.block_layout.specs.declared.kind.Kind.{Kind}
use Rattle.block_layout.specs.declared.place.Loc.{Loc}
use Rattle.block_layout.specs.declared.place.ObjectRef.{ObjectRef}
use Rattle.block_layout.specs.declared.place.SharedPtr.{SharedPtr}
use Rattle.block_layout.specs.Places.{in_range}
use Rattle.block_layout.specs.Pointers.{is_null, same_object}
use Rattle.block_layout.proofs.Pointers.{same_object-true}
use Rattle.upc_values.specs.declared.scalar.Scalar.{Scalar}
use Rattle.upc_values.specs.declared.scalar.Scalar.TheVariants as scalar
use Rattle.upc_values.specs.declared.action.Action.{Action}
use Rattle.upc_values.specs.declared.action.Action.TheVariants as act
use Rattle.upc_values.specs.declared.action.Reply.{Reply}
use Rattle.upc_values.specs.declared.action.Reply.TheVariants as reply
use Rattle.upc_values.specs.declared.journal.Entry.{Entry}
use Rattle.upc_values.specs.Shapes.{cell_in, fits_cell}
use Rattle.upc_values.specs.Calls.{Call, Allocates, Makes_lock, Frees, Frees_lock, Copies, Permutes, Reduces}
use Rattle.upc_values.specs.Calls.{Reduces_prefixes, Other, call_of}
use Rattle.upc_values.specs.Openings.{Opening, IsOpening, cell_of}
use Rattle.upc_values.specs.History.{objects, locks, IsLegal, picked, makes, led, object_of}
use Rattle.upc_values.specs.Formed as history
use Rattle.upc_values.specs.Formed.{fits, is_lock}
use Rattle.upc_values.specs.layer.Known as replies
use Rattle.upc_values.proofs.Membership.{each-weaker}
use Rattle.stack_code_laws.specs.code.Names.{object_in, lock_in, objects_given, is_object_given, is_lock_given}
use Rattle.stack_code_laws.specs.code.Names.{is_given}
use Rattle.stack_code_laws.specs.code.Names.{NamesGiven}
use Rattle.stack_code_laws.proofs.Given.{names, knows, is_known, may_call, IsCellThere, ReadsWell, IsWellFormed}
use Rattle.stack_code_laws.proofs.ObjectNumbers.{objects_numbered, object_found}

-- ---- lists

-- One of two.
pub of_either : (P : Type 0) (a b : Bool) → (a || b) ≡ true → (a ≡ true → P) → (b ≡ true → P) → P
of_either P true b h f g = f refl
of_either P false b h f g = g h

-- Some object of a list has the number of one that is among them.
number_some : (x : ObjectRef) (n : ℕ) (xs : List ObjectRef) → x.number ≡ n → list_any (same_object x) xs ≡ true
    → list_any (λ y. y.number == n) xs ≡ true
number_some x n [] e h = absurd (false≢true h)
number_some x n (y ∷ xs) e h =
    of_either (list_any (λ z. z.number == n) (y ∷ xs) ≡ true) (same_object x y) (list_any (same_object x) xs) h
    (λ s.
    or_left (y.number == n) (list_any (λ z. z.number == n) xs)
    (eq-eqb y.number n (sym (ap (λ z. z.number) (same_object-true x y s)) ∙ e)))
    (λ m. or_right (y.number == n) (list_any (λ z. z.number == n) xs) (number_some x n xs e m))

-- ---- what a reply names

abbrev object_if : SharedPtr → Bool → Option ObjectRef
object_if p b = elim (cond b None (Some p)) [ Some q ↦ Some q.object | None ↦ None ]

abbrev lock_if : ℕ → Bool → Option ℕ
lock_if l b = cond b None (Some l)

module _ (o : Opening) (rs : List Reply) (R : Kind → Loc → Type 0) where
  -- ---- what an action names

  object_named : (l : Loc) (k : Kind) → IsCellThere o rs l k → is_object_given o.declared rs l.object ≡ true
  object_named l k c = number_some c.object l.object (objects_given o.declared rs) c.number c.among

  read_named : (l : Loc) (kind : Option Kind) → ReadsWell o rs R l kind
      → is_object_given o.declared rs l.object ≡ true
  read_named l (Some k) h = object_named l k h.0
  read_named l None h = absurd h

  pointer_named : (b : Bool) (p : SharedPtr)
      → (b
      || (list_any (same_object p.object) (objects_given o.declared rs)
      && (nat_lt p.thread o.threads && in_range p.offset)))
      ≡ true → (b || list_any (same_object p.object) (objects_given o.declared rs)) ≡ true
  pointer_named true p h = refl
  pointer_named false p h =
      (and_parts (list_any (same_object p.object) (objects_given o.declared rs))
      (nat_lt p.thread o.threads && in_range p.offset)
      h).0

  scalar_named : (v : Scalar) → is_known o rs v ≡ true → is_given o.declared rs v ≡ true
  scalar_named (scalar.Int v) h = refl
  scalar_named (scalar.Shared p) h = pointer_named (is_null p) p h
  scalar_named (scalar.Lock l) h = h

  -- What may be asked for names what was given.
  pub names_given : (kind : Option Kind) (a : Action) → IsWellFormed o rs R kind a → NamesGiven o.declared rs a
  names_given kind (act.Read l s) h = read_named l kind h
  names_given kind (act.Write s l v) h = (object_named l h.0 h.1, scalar_named v h.3)
  names_given kind (act.Lock l) h = h
  names_given kind (act.Attempt l) h = h
  names_given kind (act.Unlock l) h = h
  names_given kind (act.LockFree l) h = h
  names_given kind (act.Free p) h = scalar_named (scalar.Shared p) h
  names_given kind (act.Meet c args) h =
      each-weaker (λ v. is_known o rs v ≡ true) (λ v. is_given o.declared rs v ≡ true) scalar_named args h.1
  names_given kind act.Fence h = tt
  names_given kind act.Beat h = tt
  names_given kind (act.Notify m) h = tt
  names_given kind (act.Wait m) h = tt
  names_given kind act.LockMake h = tt
  names_given kind (act.Alloc n b home shape) h = tt
  names_given kind (act.Print x) h = tt
  names_given kind (act.Exit v) h = tt

module _ (o : Opening) (es : List Entry) where
  -- ---- given objects and locks are in the history

  abbrev IsThere : ObjectRef → Type 0
  IsThere x = list_any (same_object x) (objects o es) ≡ true

  pointer_there : (p : SharedPtr) (x : ObjectRef) → history.knows o es p ≡ true → is_null p ≡ false → x ≡ p.object
      → IsThere x
  pointer_there p x h e same =
      let named = subst
      (λ b. (b || (list_any (same_object p.object) (objects o es) && (nat_lt p.thread o.threads && in_range p.offset)))
      ≡ true) e h in
      subst IsThere (sym same)
      (and_parts (list_any (same_object p.object) (objects o es)) (nat_lt p.thread o.threads && in_range p.offset)
      named).0

  replied : (x : ObjectRef) (rs : List Reply) → replies.AreKnown o es rs
      → list_any (same_object x) (filter_map object_in rs) ≡ true → IsThere x
  replied x [] k h = absurd (false≢true h)
  replied x (r ∷ rs) k h = by_reply r k.0 h (replied x rs k.1)
    where
      by_null : (p : SharedPtr) (b : Bool) → is_null p ≡ b → history.knows o es p ≡ true
          → list_any (same_object x) (cons_option (object_if p b) (filter_map object_in rs)) ≡ true
          → (list_any (same_object x) (filter_map object_in rs) ≡ true → IsThere x) → IsThere x
      by_null p true e k h next = next h
      by_null p false e k h next =
          of_either (IsThere x) (same_object x p.object) (list_any (same_object x) (filter_map object_in rs)) h
          (λ s. pointer_there p x k e (same_object-true x p.object s)) next

      by_reply : (r : Reply) → replies.gives_known o es r ≡ true
          → list_any (same_object x) (cons_option (object_in r) (filter_map object_in rs)) ≡ true
          → (list_any (same_object x) (filter_map object_in rs) ≡ true → IsThere x) → IsThere x
      by_reply (reply.Value (scalar.Shared p)) k h next = by_null p (is_null p) refl k h next
      by_reply (reply.Value (scalar.Int v)) k h next = next h
      by_reply (reply.Value (scalar.Lock l)) k h next = next h
      by_reply reply.Done k h next = next h
      by_reply (reply.Flag b) k h next = next h
      by_reply (reply.Refused code) k h next = next h

  declared_there : (x : ObjectRef) → list_any (same_object x) o.declared ≡ true → IsThere x
  declared_there x h =
      let more = filter_map object_of (picked (λ before e. makes e.action (led before e)) es) in
      list_any-append (same_object x) o.declared more
      ∙ or_left (list_any (same_object x) o.declared) (list_any (same_object x) more) h

  given_there : (rs : List Reply) → replies.AreKnown o es rs → (x : ObjectRef)
      → list_any (same_object x) (objects_given o.declared rs) ≡ true → IsThere x
  given_there rs k x h =
      of_either (IsThere x) (list_any (same_object x) o.declared) (list_any (same_object x) (filter_map object_in rs))
      (sym (list_any-append (same_object x) o.declared (filter_map object_in rs)) ∙ h) (declared_there x)
      (replied x rs k)

  made : (n l : ℕ) → nat_le n (locks es) ≡ true → (n == 0) ≡ false → n ≡ l → is_lock es l ≡ true
  made n l h e same =
      let some = eqb-false n 0 e in
      subst (λ m. is_lock es m ≡ true) same
      (and_from (nat_lt 0 n) (nat_le n (locks es)) (lt-ltb 0 n (omega arith)) h)

  lock_there : (l : ℕ) (rs : List Reply) → replies.AreKnown o es rs → is_lock_given rs l ≡ true → is_lock es l ≡ true
  lock_there l [] k h = absurd (false≢true h)
  lock_there l (r ∷ rs) k h = by_reply r k.0 h (lock_there l rs k.1)
    where
      by_null : (n : ℕ) (b : Bool) → (n == 0) ≡ b → nat_le n (locks es) ≡ true
          → list_any (λ m. m == l) (cons_option (lock_if n b) (filter_map lock_in rs)) ≡ true
          → (is_lock_given rs l ≡ true → is_lock es l ≡ true) → is_lock es l ≡ true
      by_null n true e k h next = next h
      by_null n false e k h next =
          of_either (is_lock es l ≡ true) (n == l) (is_lock_given rs l) h (λ s. made n l k e (eqb-true n l s)) next

      by_reply : (r : Reply) → replies.gives_known o es r ≡ true
          → list_any (λ m. m == l) (cons_option (lock_in r) (filter_map lock_in rs)) ≡ true
          → (is_lock_given rs l ≡ true → is_lock es l ≡ true) → is_lock es l ≡ true
      by_reply (reply.Value (scalar.Lock n)) k h next = by_null n (n == 0) refl k h next
      by_reply (reply.Value (scalar.Int v)) k h next = next h
      by_reply (reply.Value (scalar.Shared p)) k h next = next h
      by_reply reply.Done k h next = next h
      by_reply (reply.Flag b) k h next = next h
      by_reply (reply.Refused code) k h next = next h

  module _ (v : IsOpening o) (legal : IsLegal o es) (rs : List Reply) (k : replies.AreKnown o es rs) where
    -- ---- what may be asked for

    cell_there : (l : Loc) (j : Kind) → IsCellThere o rs l j → cell_of o (objects o es) l ≡ Some j
    cell_there l j c =
        let found =
        object_found 0 (objects o es) c.object (objects_numbered o es v legal) (given_there rs k c.object c.among) in
        ap (λ n. cell_of_number n l) (sym c.number) ∙ ap (λ y. cell_in o.threads o.shapes y l) found ∙ c.cell
      where
        cell_of_number : ℕ → Loc → Option Kind
        cell_of_number n m = cell_in o.threads o.shapes (find (λ y. y.number == n) (objects o es)) m

    known_there : (p : SharedPtr) → knows o rs p ≡ true → history.knows o es p ≡ true
    known_there p h = by_null (is_null p) refl h
      where
        by_null : (b : Bool) → is_null p ≡ b → (b || names o rs p.object p.thread p.offset) ≡ true
            → history.knows o es p ≡ true
        by_null true e h = or_left (is_null p) _ e
        by_null false e h =
            let q = and_parts (list_any (same_object p.object) (objects_given o.declared rs))
            (nat_lt p.thread o.threads && in_range p.offset) h in
            or_right (is_null p) _
            (and_from (list_any (same_object p.object) (objects o es)) (nat_lt p.thread o.threads && in_range p.offset)
            (given_there rs k p.object q.0) q.1)

    lock_known : (l : ℕ) → ((l == 0) || is_lock_given rs l) ≡ true → nat_le l (locks es) ≡ true
    lock_known l h =
        of_either (nat_le l (locks es) ≡ true) (l == 0) (is_lock_given rs l) h
        (λ e. let z = eqb-true l 0 e in le-leb l (locks es) (omega arith))
        (λ e. (and_parts (nat_lt 0 l) (nat_le l (locks es)) (lock_there l rs k e)).1)

    scalar_there : (w : Scalar) → is_known o rs w ≡ true → history.is_known o es w ≡ true
    scalar_there (scalar.Int n) h = refl
    scalar_there (scalar.Shared p) h = known_there p h
    scalar_there (scalar.Lock l) h = lock_known l h

    both_there : (p q : SharedPtr) → (knows o rs p && knows o rs q) ≡ true
        → (history.knows o es p && history.knows o es q) ≡ true
    both_there p q h =
        let z = and_parts (knows o rs p) (knows o rs q) h in
        and_from (history.knows o es p) (history.knows o es q) (known_there p z.0) (known_there q z.1)

    call_there : (c : Call) → may_call o rs c ≡ true → history.may_call o es c ≡ true
    call_there (Allocates n b s) h = h
    call_there Makes_lock h = refl
    call_there (Frees p) h = known_there p h
    call_there (Frees_lock l) h = lock_known l h
    call_there (Copies w dst src n f) h = both_there dst src h
    call_there (Permutes dst src perm n f) h =
        let z = and_parts (knows o rs dst) (knows o rs src && knows o rs perm) h in
        and_from (history.knows o es dst) (history.knows o es src && history.knows o es perm) (known_there dst z.0)
        (both_there src perm z.1)
    call_there (Reduces dst src op n b j f) h = both_there dst src h
    call_there (Reduces_prefixes dst src op n b j f) h = both_there dst src h
    call_there Other h = h

    module _ (R : Kind → Loc → Type 0) where
      read_formed : (l : Loc) (kind : Option Kind) → ReadsWell o rs R l kind
          → is_some (cell_of o (objects o es) l) ≡ true
      read_formed l (Some j) h = ap is_some (cell_there l j h.0)
      read_formed l None h = absurd h

      -- What may be asked for by the names that were given may be asked for after the history.
      pub formed_there : (kind : Option Kind) (a : Action) → IsWellFormed o rs R kind a → history.IsWellFormed o es a
      formed_there kind (act.Read l s) h = read_formed l kind h
      formed_there kind (act.Write s l w) h =
          and_from (fits_cell w (cell_of o (objects o es) l)) (history.is_known o es w)
          (subst (λ c. fits_cell w c ≡ true) (sym (cell_there l h.0 h.1)) h.2) (scalar_there w h.3)
      formed_there kind (act.Lock l) h = lock_there l rs k h
      formed_there kind (act.Attempt l) h = lock_there l rs k h
      formed_there kind (act.Unlock l) h = lock_there l rs k h
      formed_there kind (act.LockFree l) h = lock_there l rs k h
      formed_there kind (act.Free p) h = known_there p h
      formed_there kind (act.Meet c args) h = call_there (call_of c args) h.0
      formed_there kind act.Fence h = refl
      formed_there kind act.Beat h = refl
      formed_there kind (act.Notify m) h = refl
      formed_there kind (act.Wait m) h = refl
      formed_there kind act.LockMake h = refl
      formed_there kind (act.Alloc n b home shape) h = h.0
      formed_there kind (act.Print x) h = refl
      formed_there kind (act.Exit w) h = refl

      read_fits : (l : Loc) (s : Bool) (kind : Option Kind) → ReadsWell o rs R l kind → (r : Reply)
          → history.fits_after o es (act.Read l s) r ≡ fits o.threads o.shapes kind (act.Read l s) r
      read_fits l s (Some j) h r = ap (λ c. fits o.threads o.shapes c (act.Read l s) r) (cell_there l j h.0)
      read_fits l s None h r = absurd h

      -- The same replies fit it.
      pub fits_there : (kind : Option Kind) (a : Action) → IsWellFormed o rs R kind a → (r : Reply)
          → history.fits_after o es a r ≡ fits o.threads o.shapes kind a r
      fits_there kind (act.Read l s) h r = read_fits l s kind h r
      fits_there kind (act.Write s l w) h r = refl
      fits_there kind (act.Lock l) h r = refl
      fits_there kind (act.Attempt l) h r = refl
      fits_there kind (act.Unlock l) h r = refl
      fits_there kind (act.LockFree l) h r = refl
      fits_there kind (act.Free p) h r = refl
      fits_there kind (act.Meet c args) h r = refl
      fits_there kind act.Fence h r = refl
      fits_there kind act.Beat h r = refl
      fits_there kind (act.Notify m) h r = refl
      fits_there kind (act.Wait m) h r = refl
      fits_there kind act.LockMake h r = refl
      fits_there kind (act.Alloc n b home shape) h r = refl
      fits_there kind (act.Print x) h r = refl
      fits_there kind (act.Exit w) h r = refl
