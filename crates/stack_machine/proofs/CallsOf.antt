-- What calls of the library write to private cells.
use Rattle.std.proofs.Common.{◌≡◌, ℕ, pos, Bool, true, false, cond, not, ◌||◌, ◌==◌, List, [], ◌∷◌, Option, None, refl, sym, subst}
use Rattle.std.proofs.Common.{arith}
use Rattle.std.proofs.lemmas.Int.{ints}
use Rattle.std.specs.List.{list_any}
use Rattle.block_layout.specs.Cells.{same_cells}
use Rattle.block_layout.specs.declared.place.SharedPtr.{SharedPtr}
use Rattle.block_layout.specs.declared.run_error.TheConstants.{NULL_ACCESS, OUT_OF_OBJECT, PRIVATE_RANGE, CELL_TYPE}
use Rattle.upc_values.specs.Shapes.{is_integer}
use Rattle.upc_values.specs.layer.Parts.{unless_refused}
use Rattle.block_layout.specs.declared.kind.Kind.{Kind}
use Rattle.block_layout.specs.declared.kind.Shape.{Shape}
use Rattle.upc_values.specs.declared.scalar.Scalar.{Scalar}
use Rattle.upc_values.specs.declared.scalar.Scalar.TheVariants.{Int}
use Rattle.upc_values.specs.declared.scalar.Value.{Value}
use Rattle.upc_values.specs.declared.action.Reply.{Reply}
use Rattle.upc_values.specs.declared.action.Reply.TheVariants as reply
use Rattle.upc_values.specs.declared.library.LibraryCall.{LibraryCall}
use Rattle.upc_values.specs.Copying as said
use Rattle.upc_values.specs.Copying.{Area, Nowhere, In_shared, In_private}
use Rattle.upc_values.specs.Expansion.{Expansion, Gives, Fails, Reads, Asks, Loads, Stores, bind, each_in_turn, refused_by}
use Rattle.upc_values.specs.Expansion.{after_reply, nothing}
use Rattle.thread_steps.specs.layer.Ranges.{IsHeldScalar, IsNumber}
use Rattle.thread_values.specs.layer.Asking.{IsHeldReply}
use Rattle.upc_library.specs.layer.Wishes.{area_of}
use Rattle.thread_values.specs.layer.Copies.{copies, copy_spec, spec_of, private_of, copying_of}
use Rattle.thread_values.proofs.MemoryCalls.{by_copy}
use Rattle.stack_machine.specs.code.Calls.{WritesHeld}

-- ---- what is written

module _ (threads : ℕ) (shapes : List Shape) where
  held_bind : {A B : Type 0} (x : Expansion A) (go : A → Expansion B) → WritesHeld threads shapes x
      → ((a : A) → WritesHeld threads shapes (go a)) → WritesHeld threads shapes (bind x go)
  held_bind (Gives v) go h k = k v
  held_bind (Fails code) go h k = tt
  held_bind (Reads l kind after) go h k = λ v s. held_bind (after v) go (h v s) k
  held_bind (Asks a after) go h k = λ r. held_bind (after r) go (h r) k
  held_bind (Loads p kind after) go h k = λ v s. held_bind (after v) go (h v s) k
  held_bind (Stores p kind v after) go h k = (h.0, held_bind after go h.1 k)

  held_each : {X : Type 0} (f : X → Expansion (Unit {0})) (xs : List X) → ((x : X) → WritesHeld threads shapes (f x))
      → WritesHeld threads shapes (each_in_turn f xs)
  held_each f [] h = tt
  held_each f (x ∷ xs) h = held_bind (f x) (λ u. each_in_turn f xs) (h x) (λ u. held_each f xs h)

  held_cond : {A : Type 0} (b : Bool) (x y : Expansion A) → WritesHeld threads shapes x → WritesHeld threads shapes y
      → WritesHeld threads shapes (cond b x y)
  held_cond true x y h k = h
  held_cond false x y h k = k

  held_refused : {A : Type 0} (tests : List (Bool × ℕ)) (go : Expansion A) → WritesHeld threads shapes go
      → WritesHeld threads shapes (refused_by tests go)
  held_refused [] go h = h
  held_refused (t ∷ tests) go h = held_cond t.0 (Fails t.1) (refused_by tests go) tt (held_refused tests go h)

  unless_held : (r : Reply) → WritesHeld threads shapes (unless_refused r)
  unless_held (reply.Refused code) = tt
  unless_held reply.Done = tt
  unless_held (reply.Value v) = tt
  unless_held (reply.Flag b) = tt

  written_held : (t : ℕ) (s : List Shape) (p : Option Shape) (dst : Area) (c : ℕ × Kind) (v : Scalar)
      → IsHeldScalar threads shapes v → WritesHeld threads shapes (said.written t s p dst c v)
  written_held t s p Nowhere c v h = tt
  written_held t s p (In_shared q) c v h = λ r. unless_held r
  written_held t s p (In_private object offset) c v h = (h, tt)

  copied_held : (t : ℕ) (s : List Shape) (p : Option Shape) (dst src : Area) (c : ℕ × Kind)
      → WritesHeld threads shapes (said.copied t s p dst src c)
  copied_held t s p dst Nowhere c = tt
  copied_held t s p dst (In_shared q) c = λ v h. written_held t s p dst c v h
  copied_held t s p dst (In_private object offset) c = λ v h. written_held t s p dst c v h

  -- What is tested before bytes are copied.
  abbrev copy_tests : ℕ → List Shape → Option Shape → (dst src : Area) → ℕ → List (Bool × ℕ)
  copy_tests t s p dst src n =
      (said.is_nowhere dst || said.is_nowhere src, NULL_ACCESS)
      ∷ (said.leaves_shared t s p n dst || said.leaves_shared t s p n src, OUT_OF_OBJECT)
      ∷ (said.leaves_private t s p n dst || said.leaves_private t s p n src, PRIVATE_RANGE)
      ∷ (
        said.is_cut t s p n dst
            || (said.is_cut t s p n src || not (same_cells (said.cells t s p n dst) (said.cells t s p n src))),
        CELL_TYPE,
      )
      ∷ []

  copy_held : (t : ℕ) (s : List Shape) (p : Option Shape) (dst src : Area) (n : ℕ)
      → WritesHeld threads shapes (said.copy t s p dst src n)
  copy_held t s p dst src n =
      let go : Expansion (Unit {0}) = each_in_turn (said.copied t s p dst src) (said.cells t s p n dst) in
      held_cond (n == 0) nothing (refused_by (copy_tests t s p dst src n) go) tt
      (held_refused (copy_tests t s p dst src n) go
      (held_each (said.copied t s p dst src) (said.cells t s p n dst) (λ c. copied_held t s p dst src c)))

  -- What is tested before bytes of a shared object are set.
  abbrev set_tests : ℕ → List Shape → SharedPtr → ℕ → List (Bool × ℕ)
  set_tests t s q n =
      (false, NULL_ACCESS) ∷ (said.leaves_shared t s None n (In_shared q), OUT_OF_OBJECT) ∷ (false, PRIVATE_RANGE)
      ∷ (
        said.is_cut t s None n (In_shared q)
            || list_any (λ x. not (is_integer x.1)) (said.cells t s None n (In_shared q)),
        CELL_TYPE,
      )
      ∷ []

  -- Into a private object nothing is set.
  set_held : (t : ℕ) (s : List Shape) (dst : Area) (byte n : ℕ) → WritesHeld threads shapes (said.set t s None dst byte n)
  set_held t s Nowhere byte n = held_cond {A = Unit {0}} (n == 0) nothing (Fails NULL_ACCESS) tt tt
  set_held t s (In_shared q) byte n =
      let f : ℕ × Kind → Expansion (Unit {0}) = λ x. said.written t s None (In_shared q) x (said.filled byte x.1) in
      let go : Expansion (Unit {0}) = each_in_turn f (said.cells t s None n (In_shared q)) in
      held_cond (n == 0) nothing (refused_by (set_tests t s q n) go) tt
      (held_refused (set_tests t s q n) go
      (held_each f (said.cells t s None n (In_shared q)) (λ c r. unless_held r)))
  set_held t s (In_private object offset) byte n =
      held_cond {A = Unit {0}} (n == 0) nothing (Fails PRIVATE_RANGE) tt tt

  asked_held : (t : ℕ) (s : List Shape) (p : Option Shape) (b : Bool) (dst src : Area) (byte n : ℕ) → (b ≡ true → p ≡ None)
      → WritesHeld threads shapes (elim b [
        | true ↦ said.set t s p dst byte n
        | false ↦ said.copy t s p dst src n
      ])
  asked_held t s p true dst src byte n h =
      subst (λ (o : Option Shape). WritesHeld threads shapes (said.set t s o dst byte n)) (sym (h refl))
      (set_held t s dst byte n)
  asked_held t s p false dst src byte n h = copy_held t s p dst src n

  copies_not : (args : List Value) → (copy_spec args).set ≡ true → ⊥
  copies_not [] h = absurd (cc)
  copies_not (a ∷ []) h = absurd (cc)
  copies_not (a ∷ b ∷ []) h = absurd (cc)
  copies_not (a ∷ b ∷ c ∷ []) h = absurd (cc)
  copies_not (a ∷ b ∷ c ∷ d ∷ args) h = absurd (cc)

  pub expansion_held : (t : ℕ) (s : List Shape) (private : ℕ → Option Shape) (args : List Value) (c : LibraryCall)
      → copies c ≡ true → WritesHeld threads shapes (copying_of t s private c args)
  expansion_held t s private args c h =
      asked_held t s (private_of c (spec_of c args) private) (spec_of c args).set (area_of (spec_of c args).dst)
      (area_of (spec_of c args).src) (spec_of c args).byte (spec_of c args).bytes
      (by_copy (λ c. (spec_of c args).set ≡ true → private_of c (spec_of c args) private ≡ None)
      (λ e. absurd (copies_not args e)) (λ e. absurd (copies_not args e)) (λ e. absurd (copies_not args e)) (λ e. refl) c h)

  zero_in : IsNumber (pos 0)
  zero_in = record { least = omega (arith, ints); most = omega (arith, ints) }

  -- After a reply in range it is so of the rest.
  pub after_held : (x : Expansion (Unit {0})) (r : Reply) → WritesHeld threads shapes x
      → IsHeldReply threads shapes r → WritesHeld threads shapes (after_reply x r)
  after_held (Gives v) r h k = tt
  after_held (Fails code) r h k = tt
  after_held (Reads l kind go) (reply.Value v) h k = h v k
  after_held (Reads l kind go) reply.Done h k = h (Int (pos 0)) zero_in
  after_held (Reads l kind go) (reply.Flag b) h k = h (Int (pos 0)) zero_in
  after_held (Reads l kind go) (reply.Refused code) h k = h (Int (pos 0)) zero_in
  after_held (Asks a go) r h k = h r
  after_held (Loads p kind go) (reply.Value v) h k = h v k
  after_held (Loads p kind go) reply.Done h k = h (Int (pos 0)) zero_in
  after_held (Loads p kind go) (reply.Flag b) h k = h (Int (pos 0)) zero_in
  after_held (Loads p kind go) (reply.Refused code) h k = h (Int (pos 0)) zero_in
  after_held (Stores p kind v go) r h k = h.1
