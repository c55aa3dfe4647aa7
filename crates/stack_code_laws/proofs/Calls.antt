-- The calls of the library ask well where what they are given is known, and of their parameters' types.
use Rattle.std.proofs.Common.{arith, ◌^◌, ◌≡◌, ℕ, ◌*◌, ◌<◌, ◌==◌, ℤ, pos, Bool, true, false, not, ◌&&◌, ◌||◌, cond}
use Rattle.std.proofs.Common.{List, [], ◌∷◌, Option, Some, None, is_some, refl, sym, subst, lt-ltb}
use Rattle.std.proofs.Common.{if◌then◌else◌}
use Rattle.std.proofs.lemmas.Bool.{and_parts, and_from, false≢true}
use Rattle.std.specs.Prelude.{nat_le, unsigned_abs, negsuc, ◌+ℤ◌, slice_get}
use Rattle.block_layout.specs.declared.kind.Shape.{Shape}
use Rattle.block_layout.specs.declared.run_error.TheConstants.{LIBRARY_ARGS, NULL_ACCESS, CELL_TYPE}
use Rattle.block_layout.specs.Pieces.{piece_of}
use Rattle.block_layout.specs.Pointers.{null, is_null}
use Rattle.block_layout.specs.declared.kind.Kind.{Kind}
use Rattle.block_layout.specs.declared.place.Loc.{Loc}
use Rattle.block_layout.specs.declared.kind.Kind.TheVariants as kind
use Rattle.integers.specs.Integers.{converted}
use Rattle.integers.specs.Operators.{truth}
use Rattle.upc_values.specs.declared.scalar.Scalar.{Scalar}
use Rattle.upc_values.specs.declared.scalar.Scalar.TheVariants as scalar
use Rattle.upc_values.specs.declared.scalar.Value.{Value}
use Rattle.upc_values.specs.declared.scalar.Value.TheVariants as value
use Rattle.upc_values.specs.declared.action.Action.{Action}
use Rattle.upc_values.specs.declared.action.Action.TheVariants as act
use Rattle.upc_values.specs.declared.action.Reply.{Reply}
use Rattle.upc_values.specs.declared.action.Reply.TheVariants as reply
use Rattle.upc_values.specs.declared.library.ElementKind.{ElementKind}
use Rattle.upc_values.specs.declared.library.ElementKind.TheVariants as element
use Rattle.upc_values.specs.declared.library.LibraryCall.{LibraryCall}
use Rattle.upc_values.specs.declared.library.LibraryCall.TheVariants as c
use Rattle.upc_values.specs.Lists.{Each}
use Rattle.upc_values.specs.Scalars.{zero}
use Rattle.upc_values.specs.Openings.{Opening}
use Rattle.upc_values.specs.Formed.{is_whole, is_home, may_alloc}
use Rattle.upc_values.specs.Calls.{Allocates, Other, is_size, call_of}
use Rattle.upc_values.specs.Expansion.{Expansion, Gives, Fails}
use Rattle.upc_values.specs.Copying.{copy, set}
use Rattle.upc_values.specs.Expansions.{is_large, collective}
use Rattle.upc_values.specs.LibraryCalls as l
use Rattle.thread_steps.specs.Library.{is_formed, is_call}
use Rattle.stack_code_laws.specs.code.Names.{is_lock_given}
use Rattle.stack_code_laws.proofs.Given.{IsGround, is_known, may_call, IsWellFormed}
use Rattle.stack_code_laws.proofs.KnownValues.{Known}
use Rattle.stack_code_laws.proofs.Numbers.{number_size, kind_number, converted_number}
use Rattle.stack_code_laws.proofs.Doings.{Nothing}
use Rattle.stack_code_laws.proofs.Primitives as p
use Rattle.stack_code_laws.proofs.MemoryCalls as m
use Rattle.stack_code_laws.proofs.Collectives.{AreKnownScalars, tested, collective_goes}

-- What is not refused for its size is whole.
whole_by : (a b : Bool) → a ≡ false → (not a && not b) ≡ false → (not a && b) ≡ true
whole_by true b e h = absurd (false≢true (sym e))
whole_by false true e h = refl
whole_by false false e h = absurd (false≢true (sym h))

none_or_whole : (a b : Bool) → (not a && not b) ≡ false → (a || (not a && b)) ≡ true
none_or_whole true b h = refl
none_or_whole false true h = refl
none_or_whole false false h = absurd (false≢true (sym h))

-- A size_t is no less than 0.
size_of : (n : ℤ) → is_size n ≡ true → is_size (pos (unsigned_abs n)) ≡ true
size_of (pos n) h = h
size_of (negsuc n) h = absurd (false≢true h)

module _ (o : Opening) (past : List Reply) (v : IsGround o) (R : Kind → Loc → Type 0) (me budget : ℕ)
    (one : me < o.threads) where
  abbrev Goes : Expansion Scalar → Type 0
  Goes e = p.GoesWell o past v R me budget {A = Scalar} (λ w. is_known o past w ≡ true) e

  abbrev CallGoes : LibraryCall → ℕ → List Value → Type 0
  CallGoes call shape args = p.CallGoesWell o past v R me budget call shape args

  abbrev AreKnown : List Value → Type 0
  AreKnown args = Each (Known o past) args

  -- ---- tests

  either_goes : (b : Bool) (x y : Expansion Scalar) → Goes x → (b ≡ false → Goes y) → Goes (if b then x else y)
  either_goes true x y h g = h
  either_goes false x y h g = g refl

  unless_goes : (b : Bool) (code : ℕ) (y : Expansion Scalar) → (b ≡ false → Goes y) → Goes (cond b (Fails code) y)
  unless_goes b code y g = m.unless_goes o past v R me budget (λ w. is_known o past w ≡ true) b code y g

  -- A call that gives no value gives 0.
  valued_goes : (e : Expansion (Unit {0})) → p.GoesWell o past v R me budget Nothing e → Goes (l.gives_zero e)
  valued_goes e h =
      m.bind_goes o past v R me budget Nothing (λ w. is_known o past w ≡ true) e (λ u. Gives zero) h (λ u k. refl)

  -- ---- actions

  given_goes : (r : Reply) → p.IsGiven o past v R me budget r → Goes (l.given_by r)
  given_goes reply.Done h = refl
  given_goes (reply.Value w) h = h
  given_goes (reply.Flag b) h = converted_number kind.Int (truth b)
  given_goes (reply.Refused code) h = tt

  asks_goes : (a : Action) → IsWellFormed o past R None a → Goes (l.asks a)
  asks_goes a formed = (formed, given_goes)

  -- ---- calls that ask for nothing (UPC 7.2.3)

  thread_of_goes : (shape : ℕ) (args : List Value) → CallGoes c.ThreadOf shape args
  thread_of_goes shape (value.Scalar (scalar.Shared q) ∷ []) private = converted_number kind.ULong (pos q.thread)
  thread_of_goes shape args private = refl

  phase_of_goes : (shape : ℕ) (args : List Value) → CallGoes c.PhaseOf shape args
  phase_of_goes shape (value.Scalar (scalar.Shared q) ∷ []) private = converted_number kind.ULong (pos q.phase)
  phase_of_goes shape args private = refl

  address_goes : (shape : ℕ) (args : List Value) → CallGoes c.AddressField shape args
  address_goes shape (value.Scalar (scalar.Shared q) ∷ []) private =
      converted_number kind.ULong (pos q.object.base +ℤ q.offset)
  address_goes shape args private = refl

  affinity_goes : (shape : ℕ) (args : List Value) → CallGoes c.AffinitySize shape args
  affinity_goes shape (value.Scalar (scalar.Int n) ∷ value.Scalar (scalar.Int b) ∷ value.Scalar (scalar.Int t) ∷ [])
      private =
      unless_goes (nat_le o.threads (unsigned_abs t) || (is_large (unsigned_abs n) || is_large (unsigned_abs b)))
      LIBRARY_ARGS _ (λ e.
      converted_number kind.ULong
      (pos (piece_of (l.laid_out (unsigned_abs n) (unsigned_abs b)) (unsigned_abs t) o.threads)))
  affinity_goes shape args private = refl

  -- ---- allocations (UPC 7.2.2)

  allocation_goes : (home : Option ℕ) (shape n b : ℕ) (private : ℕ → Option Shape) → is_home o.threads home ≡ true
      → n < 2 ^ 64 → b < 2 ^ 64 → Goes (l.allocation o.threads o.shapes me private home shape n b)
  allocation_goes home shape n b private at_home size block =
      let go = l.asks (act.Alloc n b home shape) in
      let whole = is_whole (slice_get o.shapes shape) b in
      either_goes (n * b == 0) (Gives (scalar.Shared null)) _ refl (λ some.
      unless_goes (not (n * b == 0) && not whole) CELL_TYPE go (λ e.
      asks_goes (act.Alloc n b home shape) (
        and_from (not (n * b == 0) && whole) (is_home o.threads home) (whole_by (n * b == 0) whole some e) at_home,
        size,
        block,
      )))

  global_alloc_goes : (shape : ℕ) (args : List Value) → AreKnown args → CallGoes c.GlobalAlloc shape args
  global_alloc_goes shape (value.Scalar (scalar.Int n) ∷ value.Scalar (scalar.Int b) ∷ []) h private =
      allocation_goes None shape (unsigned_abs n) (unsigned_abs b) private refl (number_size n h.0)
      (number_size b h.1.0)
  global_alloc_goes shape args h private = refl

  alloc_goes : (shape : ℕ) (args : List Value) → AreKnown args → CallGoes c.Alloc shape args
  alloc_goes shape (value.Scalar (scalar.Int b) ∷ []) h private =
      allocation_goes (Some me) shape 1 (unsigned_abs b) private (lt-ltb me o.threads one) (omega arith)
      (number_size b h.0)
  alloc_goes shape args h private = refl

  -- All threads may meet for these sizes, which are a size_t each.
  may_meet : (n b s : ℕ) → (is_size (pos n) && (is_size (pos b) && is_size (pos s))) ≡ true
      → is_some (slice_get o.shapes s) ≡ true → (not (n * b == 0) && not (is_whole (slice_get o.shapes s) b)) ≡ false
      → may_call o past (call_of 1 (scalar.Int (pos n) ∷ scalar.Int (pos b) ∷ scalar.Int (pos s) ∷ [])) ≡ true
  may_meet n b s sizes there e =
      subst (λ t. may_call o past (cond t (Allocates n b s) Other) ≡ true) (sym sizes)
      (and_from (is_some (slice_get o.shapes s)) ((n * b == 0) || may_alloc o n b s) there
      (none_or_whole (n * b == 0) (is_whole (slice_get o.shapes s) b) e))

  all_alloc_goes : (shape : ℕ) (args : List Value) → is_formed o.shapes c.AllAlloc shape args ≡ true
      → CallGoes c.AllAlloc shape args
  all_alloc_goes shape (value.Scalar (scalar.Int n) ∷ value.Scalar (scalar.Int b) ∷ []) h private =
      let size = unsigned_abs n in
      let block = unsigned_abs b in
      let sizes = is_size n && (is_size b && is_size (pos shape)) in
      let formed =
      and_parts (is_call (cond sizes (Allocates size block (unsigned_abs (pos shape))) Other))
      (is_some (slice_get o.shapes shape)) h in
      let all = and_parts (is_size n) (is_size b && is_size (pos shape)) (tested sizes _ formed.0) in
      let rest = and_parts (is_size b) (is_size (pos shape)) all.1 in
      let whole = is_whole (slice_get o.shapes shape) block in
      unless_goes (not (size * block == 0) && not whole) CELL_TYPE _ (λ e.
      asks_goes (act.Meet 1 (scalar.Int (pos size) ∷ scalar.Int (pos block) ∷ scalar.Int (pos shape) ∷ [])) (
        may_meet size block shape
            (and_from (is_size (pos size)) (is_size (pos block) && is_size (pos shape)) (size_of n all.0)
            (and_from (is_size (pos block)) (is_size (pos shape)) (size_of b rest.0) rest.1)) formed.1 e,
        (
          kind_number kind.ULong (pos size) (size_of n all.0),
          (
            kind_number kind.ULong (pos block) (size_of b rest.0),
            (kind_number kind.ULong (pos shape) rest.1, tt),
          ),
        ),
      ))
  all_alloc_goes shape args h private = refl

  free_goes : (shape : ℕ) (args : List Value) → AreKnown args → CallGoes c.Free shape args
  free_goes shape (value.Scalar (scalar.Shared q) ∷ []) h private =
      either_goes (is_null q) (Gives zero) _ refl (λ e. asks_goes (act.Free q) h.0)
  free_goes shape args h private = refl

  all_free_goes : (shape : ℕ) (args : List Value) → AreKnown args → CallGoes c.AllFree shape args
  all_free_goes shape (value.Scalar (scalar.Shared q) ∷ []) h private =
      asks_goes (act.Meet 3 (scalar.Shared q ∷ [])) (h.0, (h.0, tt))
  all_free_goes shape args h private = refl

  -- ---- locks (UPC 7.2.4)

  lock_alloc_goes : (shape : ℕ) (args : List Value) → CallGoes c.GlobalLockAlloc shape args
  lock_alloc_goes shape [] private = asks_goes act.LockMake tt
  lock_alloc_goes shape args private = refl

  all_lock_alloc_goes : (shape : ℕ) (args : List Value) → CallGoes c.AllLockAlloc shape args
  all_lock_alloc_goes shape [] private = asks_goes (act.Meet 2 []) (refl, tt)
  all_lock_alloc_goes shape args private = refl

  -- A lock that was given, of those that are null or were given.
  given_lock : (n : ℕ) → is_known o past (scalar.Lock n) ≡ true → (n == 0) ≡ false → is_lock_given past n ≡ true
  given_lock n h e = subst (λ b. (b || is_lock_given past n) ≡ true) e h

  lock_goes : (shape : ℕ) (args : List Value) → AreKnown args → CallGoes c.Lock shape args
  lock_goes shape (value.Scalar (scalar.Lock n) ∷ []) h private =
      unless_goes (n == 0) NULL_ACCESS _ (λ e. asks_goes (act.Lock n) (given_lock n h.0 e))
  lock_goes shape args h private = refl

  attempt_goes : (shape : ℕ) (args : List Value) → AreKnown args → CallGoes c.LockAttempt shape args
  attempt_goes shape (value.Scalar (scalar.Lock n) ∷ []) h private =
      unless_goes (n == 0) NULL_ACCESS _ (λ e. asks_goes (act.Attempt n) (given_lock n h.0 e))
  attempt_goes shape args h private = refl

  unlock_goes : (shape : ℕ) (args : List Value) → AreKnown args → CallGoes c.Unlock shape args
  unlock_goes shape (value.Scalar (scalar.Lock n) ∷ []) h private =
      unless_goes (n == 0) NULL_ACCESS _ (λ e. asks_goes (act.Unlock n) (given_lock n h.0 e))
  unlock_goes shape args h private = refl

  lock_free_goes : (shape : ℕ) (args : List Value) → AreKnown args → CallGoes c.LockFree shape args
  lock_free_goes shape (value.Scalar (scalar.Lock n) ∷ []) h private =
      either_goes (n == 0) (Gives zero) _ refl (λ e. asks_goes (act.LockFree n) (given_lock n h.0 e))
  lock_free_goes shape args h private = refl

  all_lock_free_goes : (shape : ℕ) (args : List Value) → AreKnown args → CallGoes c.AllLockFree shape args
  all_lock_free_goes shape (value.Scalar (scalar.Lock n) ∷ []) h private =
      asks_goes (act.Meet 4 (scalar.Lock n ∷ [])) (h.0, (h.0, tt))
  all_lock_free_goes shape args h private = refl

  -- ---- memory (UPC 7.2.5)

  -- Areas are known where the values are.
  area_known : (w : Value) → Known o past w → m.IsKnownArea o past v R me budget (l.area_of w)
  area_known w h = m.area_known o past v R me budget w h

  copy_goes : (part : Option Shape) (dst src : Value) (n : ℕ) → Known o past dst → Known o past src
      → Goes (l.gives_zero (copy o.threads o.shapes part (l.area_of dst) (l.area_of src) n))
  copy_goes part dst src n h g =
      valued_goes (copy o.threads o.shapes part (l.area_of dst) (l.area_of src) n)
      (m.copy_goes o past v R me budget part (l.area_of dst) (l.area_of src) n (area_known dst h) (area_known src g))

  memcpy_goes : (shape : ℕ) (args : List Value) → AreKnown args → CallGoes c.Memcpy shape args
  memcpy_goes shape (dst ∷ src ∷ value.Scalar (scalar.Int n) ∷ []) h private =
      copy_goes None dst src (unsigned_abs n) h.0 h.1.0
  memcpy_goes shape args h private = refl

  memget_goes : (shape : ℕ) (args : List Value) → AreKnown args → CallGoes c.Memget shape args
  memget_goes shape (dst ∷ src ∷ value.Scalar (scalar.Int n) ∷ []) h private =
      copy_goes (l.private_shape o.threads o.shapes me private (l.area_of dst)) dst src (unsigned_abs n) h.0 h.1.0
  memget_goes shape args h private = refl

  memput_goes : (shape : ℕ) (args : List Value) → AreKnown args → CallGoes c.Memput shape args
  memput_goes shape (dst ∷ src ∷ value.Scalar (scalar.Int n) ∷ []) h private =
      copy_goes (l.private_shape o.threads o.shapes me private (l.area_of src)) dst src (unsigned_abs n) h.0 h.1.0
  memput_goes shape args h private = refl

  memset_goes : (shape : ℕ) (args : List Value) → AreKnown args → CallGoes c.Memset shape args
  memset_goes shape (dst ∷ value.Scalar (scalar.Int k) ∷ value.Scalar (scalar.Int n) ∷ []) h private =
      let byte = unsigned_abs (converted kind.UChar k) in
      valued_goes (set o.threads o.shapes None (l.area_of dst) byte (unsigned_abs n))
      (m.set_goes o past v R me budget None (l.area_of dst) byte (unsigned_abs n) (area_known dst h.0))
  memset_goes shape args h private = refl

  -- ---- collective calls (UPC 7.3)

  scalars_known : (args : List Value) → AreKnown args → AreKnownScalars o past (l.scalars args)
  scalars_known [] h = tt
  scalars_known (value.Scalar w ∷ args) h = (h.0, scalars_known args h.1)
  scalars_known (value.Local q ∷ args) h = scalars_known args h.1

  element_known_number : (k : ElementKind) → is_known o past (scalar.Int (pos (l.element_number k))) ≡ true
  element_known_number element.Char = refl
  element_known_number element.UnsignedChar = refl
  element_known_number element.Short = refl
  element_known_number element.UnsignedShort = refl
  element_known_number element.Int = refl
  element_known_number element.UnsignedInt = refl
  element_known_number element.Long = refl
  element_known_number element.UnsignedLong = refl

  element_known : (k : ElementKind) (args : List Value) → AreKnown args → AreKnown (l.with_element k args)
  element_known k (dst ∷ src ∷ op ∷ n ∷ block ∷ function ∷ f ∷ []) h =
      (h.0, (h.1.0, (h.1.1.0, (h.1.1.1.0, (h.1.1.1.1.0, (element_known_number k, h.1.1.1.1.1.1))))))
  element_known k args h = h

  together_goes : (n : ℕ) (args : List Value) → (n == 1) ≡ false → AreKnown args
      → (is_call (call_of n (l.scalars args)) && true) ≡ true → (private : ℕ → Option Shape)
      → Goes (l.together o.threads o.shapes me private n args)
  together_goes n args e k h private =
      valued_goes (collective o.threads o.shapes me n (l.scalars args))
      (collective_goes o past v R me budget n (l.scalars args) e (scalars_known args k)
      (and_parts (is_call (call_of n (l.scalars args))) true h).0)

  -- ---- all of these

  pub call_goes : (call : LibraryCall) (shape : ℕ) (args : List Value) → is_formed o.shapes call shape args ≡ true
      → AreKnown args → CallGoes call shape args
  call_goes c.ThreadOf shape args h k = thread_of_goes shape args
  call_goes c.PhaseOf shape args h k = phase_of_goes shape args
  call_goes c.AddressField shape args h k = address_goes shape args
  call_goes c.AffinitySize shape args h k = affinity_goes shape args
  call_goes c.GlobalExit shape args h k = λ private. refl
  call_goes c.GlobalAlloc shape args h k = global_alloc_goes shape args k
  call_goes c.AllAlloc shape args h k = all_alloc_goes shape args h
  call_goes c.Alloc shape args h k = alloc_goes shape args k
  call_goes c.Free shape args h k = free_goes shape args k
  call_goes c.AllFree shape args h k = all_free_goes shape args k
  call_goes c.GlobalLockAlloc shape args h k = lock_alloc_goes shape args
  call_goes c.AllLockAlloc shape args h k = all_lock_alloc_goes shape args
  call_goes c.Lock shape args h k = lock_goes shape args k
  call_goes c.LockAttempt shape args h k = attempt_goes shape args k
  call_goes c.Unlock shape args h k = unlock_goes shape args k
  call_goes c.LockFree shape args h k = lock_free_goes shape args k
  call_goes c.AllLockFree shape args h k = all_lock_free_goes shape args k
  call_goes c.Memcpy shape args h k = memcpy_goes shape args k
  call_goes c.Memget shape args h k = memget_goes shape args k
  call_goes c.Memput shape args h k = memput_goes shape args k
  call_goes c.Memset shape args h k = memset_goes shape args k
  call_goes c.Broadcast shape args h k = together_goes 5 args refl k h
  call_goes c.Scatter shape args h k = together_goes 6 args refl k h
  call_goes c.Gather shape args h k = together_goes 7 args refl k h
  call_goes c.GatherAll shape args h k = together_goes 8 args refl k h
  call_goes c.Exchange shape args h k = together_goes 9 args refl k h
  call_goes c.Permute shape args h k = together_goes 10 args refl k h
  call_goes (c.Reduce t) shape args h k = together_goes 11 (l.with_element t args) refl (element_known t args k) h
  call_goes (c.PrefixReduce t) shape args h k =
      together_goes 12 (l.with_element t args) refl (element_known t args k) h
  call_goes c.Printf shape args h k = λ private. refl
