-- What the replies of a thread name was given, and so a reply that fits its action gives what is known.
use Rattle.std.proofs.Common.{◌≡◌, ℕ, ◌==◌, nat_lt, Bool, true, false, ◌&&◌, ◌||◌, cond, List, [], ◌∷◌, Option}
use Rattle.std.proofs.Common.{ℤ, Some, None, is_some, slice_get, refl, sym, ◌∙◌, subst}
use Rattle.std.specs.Prelude.{not, nat_le}
use Rattle.std.specs.List.{list_any, filter_map, cons_option}
use Rattle.std.proofs.lemmas.Bool.{and_parts, and_from, or_left, or_right, false≢true, eq-eqb}
use Rattle.std.proofs.lemmas.List.Folds.{list_any-append}
use Rattle.block_layout.specs.declared.kind.Kind.{Kind}
use Rattle.block_layout.specs.declared.place.ObjectRef.{ObjectRef}
use Rattle.block_layout.specs.declared.place.SharedPtr.{SharedPtr}
use Rattle.block_layout.specs.Places.{in_range}
use Rattle.block_layout.specs.Pointers.{is_null, same_object}
use Rattle.block_layout.proofs.Pointers.{same_object-refl}
use Rattle.upc_values.specs.declared.scalar.Scalar.TheVariants as scalar
use Rattle.upc_values.specs.declared.action.Action.{Action}
use Rattle.upc_values.specs.declared.action.Action.TheVariants as act
use Rattle.upc_values.specs.declared.action.Reply.{Reply}
use Rattle.upc_values.specs.declared.action.Reply.TheVariants as reply
use Rattle.integers.specs.Integers.{in_kind}
use Rattle.upc_values.specs.Shapes.{is_integer, fits_cell}
use Rattle.upc_values.specs.Calls.{Call, Allocates, Makes_lock, Frees, Frees_lock, Copies, Permutes, Reduces}
use Rattle.upc_values.specs.Calls.{Reduces_prefixes, Other, call_of}
use Rattle.upc_values.specs.Openings.{Opening}
use Rattle.upc_values.specs.Formed.{fits, fits_call, is_pointer}
use Rattle.stack_code_laws.specs.code.Names.{object_in, lock_in, objects_given, is_lock_given}
use Rattle.stack_code_laws.proofs.Given.{is_number, names, knows, gives_known, IsHeard, AreHeard}
use Rattle.stack_code_laws.proofs.Numbers.{kind_number}

any_cons : {X : Type 0} (test : X → Bool) (m : Option X) (xs : List X) → list_any test xs ≡ true
    → list_any test (cons_option m xs) ≡ true
any_cons test (Some x) xs h = or_right (test x) (list_any test xs) h
any_cons test None xs h = h

module _ (o : Opening) where
  some_heard : (all rs : List Reply)
      → ((x : ObjectRef) → list_any (same_object x) (filter_map object_in rs) ≡ true
      → list_any (same_object x) (objects_given o.declared all) ≡ true)
      → ((l : ℕ) → is_lock_given rs l ≡ true → is_lock_given all l ≡ true) → AreHeard o all rs
  some_heard all [] f g = tt
  some_heard all (r ∷ rs) f g = (
    record {
      object = λ x e.
          f x
          (subst (λ m. list_any (same_object x) (cons_option m (filter_map object_in rs)) ≡ true) (sym e)
          (or_left (same_object x x) (list_any (same_object x) (filter_map object_in rs)) (same_object-refl x)));
      lock = λ l e.
          g l
          (subst (λ m. list_any (λ k. k == l) (cons_option m (filter_map lock_in rs)) ≡ true) (sym e)
          (or_left (l == l) (is_lock_given rs l) (eq-eqb l l refl)));
    },
    some_heard all rs (λ x h. f x (any_cons (same_object x) (object_in r) (filter_map object_in rs) h))
        (λ l h. g l (any_cons (λ k. k == l) (lock_in r) (filter_map lock_in rs) h)),
  )

  -- What replies name was given by them.
  pub all_heard : (rs : List Reply) → AreHeard o rs rs
  all_heard rs =
      some_heard rs rs
      (λ x h.
      list_any-append (same_object x) o.declared (filter_map object_in rs)
      ∙ or_right (list_any (same_object x) o.declared) (list_any (same_object x) (filter_map object_in rs)) h)
      (λ l h. h)

module _ (o : Opening) (past : List Reply) where
  pointer_known : (p : SharedPtr) → IsHeard o past (reply.Value (scalar.Shared p))
      → is_pointer o.threads o.shapes p ≡ true → knows o past p ≡ true
  pointer_known p h e = by_null (is_null p) refl e
    where
      by_null : (b : Bool) → is_null p ≡ b
          → (b
          || (not (p.object.number == 0)
          && (is_some (slice_get o.shapes p.object.shape)
          && (nat_lt p.thread o.threads
          && (nat_lt p.object.home o.threads
          && (in_range p.offset && (nat_le p.object.total 16777216 && nat_le p.object.block 16777216)))))))
          ≡ true → knows o past p ≡ true
      by_null true n q = or_left (is_null p) (names o past p.object p.thread p.offset) n
      by_null false n q =
          let some = and_parts (not (p.object.number == 0)) _ q in
          let shape = and_parts (is_some (slice_get o.shapes p.object.shape)) _ some.1 in
          let thread = and_parts (nat_lt p.thread o.threads) _ shape.1 in
          let home = and_parts (nat_lt p.object.home o.threads) _ thread.1 in
          let offset = and_parts (in_range p.offset) _ home.1 in
          or_right (is_null p) (names o past p.object p.thread p.offset)
          (and_from (list_any (same_object p.object) (objects_given o.declared past))
          (nat_lt p.thread o.threads && in_range p.offset)
          (h.object p.object
          (subst
          (λ b. elim (cond b None (Some p)) [ Some x ↦ Some x.object | None ↦ None ] ≡ Some p.object)
          (sym n) refl))
          (and_from (nat_lt p.thread o.threads) (in_range p.offset) thread.0 offset.0))

  start_known : (p : SharedPtr) → IsHeard o past (reply.Value (scalar.Shared p))
      → (is_pointer o.threads o.shapes p && p.phase == 0) ≡ true → knows o past p ≡ true
  start_known p h e = pointer_known p h (and_parts (is_pointer o.threads o.shapes p) (p.phase == 0) e).0

  call_known : (c : Call) (p : SharedPtr) → IsHeard o past (reply.Value (scalar.Shared p))
      → fits_call o.threads o.shapes c (reply.Value (scalar.Shared p)) ≡ true → knows o past p ≡ true
  call_known (Allocates n b s) p h e = start_known p h e
  call_known Makes_lock p h e = absurd (false≢true e)
  call_known (Frees q) p h e = absurd (false≢true e)
  call_known (Frees_lock l) p h e = absurd (false≢true e)
  call_known (Copies w dst src n f) p h e = absurd (false≢true e)
  call_known (Permutes dst src perm n f) p h e = absurd (false≢true e)
  call_known (Reduces dst src op n b k f) p h e = absurd (false≢true e)
  call_known (Reduces_prefixes dst src op n b k f) p h e = absurd (false≢true e)
  call_known Other p h e = absurd (false≢true e)

  shared_known : (kind : Option Kind) (a : Action) (p : SharedPtr) → IsHeard o past (reply.Value (scalar.Shared p))
      → fits o.threads o.shapes kind a (reply.Value (scalar.Shared p)) ≡ true → knows o past p ≡ true
  shared_known kind (act.Read l s) p h e =
      pointer_known p h (and_parts (fits_cell (scalar.Shared p) kind) (is_pointer o.threads o.shapes p) e).1
  shared_known kind (act.Write s l v) p h e = absurd (false≢true e)
  shared_known kind (act.Lock l) p h e = absurd (false≢true e)
  shared_known kind (act.Attempt l) p h e = absurd (false≢true e)
  shared_known kind (act.Unlock l) p h e = absurd (false≢true e)
  shared_known kind (act.LockFree l) p h e = absurd (false≢true e)
  shared_known kind (act.Free q) p h e = absurd (false≢true e)
  shared_known kind (act.Meet c args) p h e = call_known (call_of c args) p h e
  shared_known kind act.Fence p h e = absurd (false≢true e)
  shared_known kind act.Beat p h e = absurd (false≢true e)
  shared_known kind (act.Notify m) p h e = absurd (false≢true e)
  shared_known kind (act.Wait m) p h e = absurd (false≢true e)
  shared_known kind act.LockMake p h e = absurd (false≢true e)
  shared_known kind (act.Alloc n b home shape) p h e = start_known p h e
  shared_known kind (act.Print x) p h e = absurd (false≢true e)
  shared_known kind (act.Exit w) p h e = absurd (false≢true e)

  -- No action but a read is answered by a number.
  call_number : (c : Call) (n : ℤ) → fits_call o.threads o.shapes c (reply.Value (scalar.Int n)) ≡ true
      → is_number n ≡ true
  call_number (Allocates m b s) n e = absurd (false≢true e)
  call_number Makes_lock n e = absurd (false≢true e)
  call_number (Frees q) n e = absurd (false≢true e)
  call_number (Frees_lock l) n e = absurd (false≢true e)
  call_number (Copies w dst src m f) n e = absurd (false≢true e)
  call_number (Permutes dst src perm m f) n e = absurd (false≢true e)
  call_number (Reduces dst src op m b k f) n e = absurd (false≢true e)
  call_number (Reduces_prefixes dst src op m b k f) n e = absurd (false≢true e)
  call_number Other n e = absurd (false≢true e)

  cell_number : (kind : Option Kind) (n : ℤ) → fits_cell (scalar.Int n) kind ≡ true → is_number n ≡ true
  cell_number (Some k) n e = kind_number k n (and_parts (is_integer k) (in_kind k n) e).1
  cell_number None n e = absurd (false≢true e)

  number_known : (kind : Option Kind) (a : Action) (n : ℤ)
      → fits o.threads o.shapes kind a (reply.Value (scalar.Int n)) ≡ true → is_number n ≡ true
  number_known kind (act.Read l s) n e = cell_number kind n e
  number_known kind (act.Write s l v) n e = absurd (false≢true e)
  number_known kind (act.Lock l) n e = absurd (false≢true e)
  number_known kind (act.Attempt l) n e = absurd (false≢true e)
  number_known kind (act.Unlock l) n e = absurd (false≢true e)
  number_known kind (act.LockFree l) n e = absurd (false≢true e)
  number_known kind (act.Free q) n e = absurd (false≢true e)
  number_known kind (act.Meet c args) n e = call_number (call_of c args) n e
  number_known kind act.Fence n e = absurd (false≢true e)
  number_known kind act.Beat n e = absurd (false≢true e)
  number_known kind (act.Notify m) n e = absurd (false≢true e)
  number_known kind (act.Wait m) n e = absurd (false≢true e)
  number_known kind act.LockMake n e = absurd (false≢true e)
  number_known kind (act.Alloc m b home shape) n e = absurd (false≢true e)
  number_known kind (act.Print x) n e = absurd (false≢true e)
  number_known kind (act.Exit w) n e = absurd (false≢true e)

  lock_known : (l : ℕ) → IsHeard o past (reply.Value (scalar.Lock l)) → ((l == 0) || is_lock_given past l) ≡ true
  lock_known l h = by_null (l == 0) refl
    where
      by_null : (b : Bool) → (l == 0) ≡ b → ((l == 0) || is_lock_given past l) ≡ true
      by_null true e = or_left (l == 0) (is_lock_given past l) e
      by_null false e =
          or_right (l == 0) (is_lock_given past l) (h.lock l (subst (λ b. cond b None (Some l) ≡ Some l) (sym e) refl))

  -- A reply that was heard and fits its action gives what is known.
  pub answer_known : (kind : Option Kind) (a : Action) (r : Reply) → IsHeard o past r
      → fits o.threads o.shapes kind a r ≡ true → gives_known o past r ≡ true
  answer_known kind a (reply.Value (scalar.Shared p)) h e = shared_known kind a p h e
  answer_known kind a (reply.Value (scalar.Lock l)) h e = lock_known l h
  answer_known kind a (reply.Value (scalar.Int v)) h e = number_known kind a v e
  answer_known kind a reply.Done h e = refl
  answer_known kind a (reply.Flag b) h e = refl
  answer_known kind a (reply.Refused code) h e = refl
