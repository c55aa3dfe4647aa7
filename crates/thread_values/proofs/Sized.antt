-- The sizes of an allocation by the arguments of its call, and the scalars among arguments.
use Rattle.std.proofs.Common.{◌≡◌, ◌<◌, ℕ, List, [], ◌∷◌, ◌++◌, ◌+◌, length, get_or, take, Option, Some, None, Bool, true}
use Rattle.std.proofs.Common.{false, refl, sym, ap, ◌∙◌, pos}
use Rattle.std.proofs.lemmas.List.{take_more}
use Rattle.std.specs.Prelude.{◌&&◌, is_some, slice_get}
use Rattle.block_layout.specs.declared.kind.Shape.{Shape}
use Rattle.upc_values.specs.declared.library.LibraryCall.TheVariants as call
use Rattle.upc_values.specs.declared.scalar.Scalar.{Scalar}
use Rattle.upc_values.specs.declared.scalar.Scalar.TheVariants.{Int, Shared, Lock}
use Rattle.upc_values.specs.declared.scalar.Value.{Value}
use Rattle.upc_values.specs.declared.scalar.Value.TheVariants as value
use Rattle.upc_values.specs.Calls.{call_of}
use Rattle.upc_values.specs.Expansion.{Expansion, Gives}
use Rattle.upc_values.specs.LibraryCalls.{library_call, allocation, all_alloc, scalars}
use Rattle.upc_values.specs.Scalars as scalar
use Rattle.thread_steps.specs.Library.{is_formed, is_call}
use Rattle.thread_values.specs.code.Parts.{two_sizes, one_size}

abbrev with_two : Option (ℕ × ℕ) → (ℕ → ℕ → Expansion Scalar) → Expansion Scalar
with_two (Some s) go = go s.0 s.1
with_two None go = Gives scalar.zero

abbrev with_one : Option ℕ → (ℕ → Expansion Scalar) → Expansion Scalar
with_one (Some s) go = go s
with_one None go = Gives scalar.zero

module _ (threads : ℕ) (shapes : List Shape) (me : ℕ) (private : ℕ → Option Shape) (shape : ℕ) where
  global-sized : (args : List Value) → library_call threads shapes me private call.GlobalAlloc shape args
      ≡ with_two (two_sizes args) (allocation threads shapes me private None shape)
  global-sized [] = refl
  global-sized (value.Scalar (Int n) ∷ []) = refl
  global-sized (value.Scalar (Shared n) ∷ []) = refl
  global-sized (value.Scalar (Lock n) ∷ []) = refl
  global-sized (value.Local n ∷ []) = refl
  global-sized (value.Scalar (Int n) ∷ value.Scalar (Int b) ∷ []) = refl
  global-sized (value.Scalar (Int n) ∷ value.Scalar (Shared b) ∷ []) = refl
  global-sized (value.Scalar (Int n) ∷ value.Scalar (Lock b) ∷ []) = refl
  global-sized (value.Scalar (Int n) ∷ value.Local b ∷ []) = refl
  global-sized (value.Scalar (Shared n) ∷ b ∷ []) = refl
  global-sized (value.Scalar (Lock n) ∷ b ∷ []) = refl
  global-sized (value.Local n ∷ b ∷ []) = refl
  global-sized (value.Scalar (Int n) ∷ value.Scalar (Int b) ∷ d ∷ args) = refl
  global-sized (value.Scalar (Int n) ∷ value.Scalar (Shared b) ∷ d ∷ args) = refl
  global-sized (value.Scalar (Int n) ∷ value.Scalar (Lock b) ∷ d ∷ args) = refl
  global-sized (value.Scalar (Int n) ∷ value.Local b ∷ d ∷ args) = refl
  global-sized (value.Scalar (Shared n) ∷ b ∷ d ∷ args) = refl
  global-sized (value.Scalar (Lock n) ∷ b ∷ d ∷ args) = refl
  global-sized (value.Local n ∷ b ∷ d ∷ args) = refl

  all-sized : (args : List Value) → library_call threads shapes me private call.AllAlloc shape args
      ≡ with_two (two_sizes args) (all_alloc threads shapes me private shape)
  all-sized [] = refl
  all-sized (value.Scalar (Int n) ∷ []) = refl
  all-sized (value.Scalar (Shared n) ∷ []) = refl
  all-sized (value.Scalar (Lock n) ∷ []) = refl
  all-sized (value.Local n ∷ []) = refl
  all-sized (value.Scalar (Int n) ∷ value.Scalar (Int b) ∷ []) = refl
  all-sized (value.Scalar (Int n) ∷ value.Scalar (Shared b) ∷ []) = refl
  all-sized (value.Scalar (Int n) ∷ value.Scalar (Lock b) ∷ []) = refl
  all-sized (value.Scalar (Int n) ∷ value.Local b ∷ []) = refl
  all-sized (value.Scalar (Shared n) ∷ b ∷ []) = refl
  all-sized (value.Scalar (Lock n) ∷ b ∷ []) = refl
  all-sized (value.Local n ∷ b ∷ []) = refl
  all-sized (value.Scalar (Int n) ∷ value.Scalar (Int b) ∷ d ∷ args) = refl
  all-sized (value.Scalar (Int n) ∷ value.Scalar (Shared b) ∷ d ∷ args) = refl
  all-sized (value.Scalar (Int n) ∷ value.Scalar (Lock b) ∷ d ∷ args) = refl
  all-sized (value.Scalar (Int n) ∷ value.Local b ∷ d ∷ args) = refl
  all-sized (value.Scalar (Shared n) ∷ b ∷ d ∷ args) = refl
  all-sized (value.Scalar (Lock n) ∷ b ∷ d ∷ args) = refl
  all-sized (value.Local n ∷ b ∷ d ∷ args) = refl

  local-sized : (args : List Value) → library_call threads shapes me private call.Alloc shape args
      ≡ with_one (one_size args) (allocation threads shapes me private (Some me) shape 1)
  local-sized [] = refl
  local-sized (value.Scalar (Int n) ∷ []) = refl
  local-sized (value.Scalar (Shared n) ∷ []) = refl
  local-sized (value.Scalar (Lock n) ∷ []) = refl
  local-sized (value.Local n ∷ []) = refl
  local-sized (value.Scalar (Int n) ∷ b ∷ args) = refl
  local-sized (value.Scalar (Shared n) ∷ b ∷ args) = refl
  local-sized (value.Scalar (Lock n) ∷ b ∷ args) = refl
  local-sized (value.Local n ∷ b ∷ args) = refl

  -- An allocation by the sizes that code reads off its arguments.
  pub global-of : (args : List Value) (n b : ℕ) → Some (n, b) ≡ two_sizes args
      → library_call threads shapes me private call.GlobalAlloc shape args
      ≡ allocation threads shapes me private None shape n b
  global-of args n b e = global-sized args
      ∙ ap (λ (s : Option (ℕ × ℕ)). with_two s (allocation threads shapes me private None shape)) (sym e)

  pub all-of : (args : List Value) (n b : ℕ) → Some (n, b) ≡ two_sizes args
      → library_call threads shapes me private call.AllAlloc shape args
      ≡ all_alloc threads shapes me private shape n b
  all-of args n b e = all-sized args
      ∙ ap (λ (s : Option (ℕ × ℕ)). with_two s (all_alloc threads shapes me private shape)) (sym e)

  pub local-of : (args : List Value) (b : ℕ) → Some b ≡ one_size args
      → library_call threads shapes me private call.Alloc shape args ≡ allocation threads shapes me private (Some me) shape 1 b
  local-of args b e = local-sized args
      ∙ ap (λ (s : Option ℕ). with_one s (allocation threads shapes me private (Some me) shape 1)) (sym e)

-- ---- the scalars among values

pub scalars-more : (vs : List Value) (s : Scalar) → scalars (vs ++ value.Scalar s ∷ []) ≡ scalars vs ++ s ∷ []
scalars-more [] s = refl
scalars-more (value.Scalar v ∷ vs) s = ap (λ (l : List Scalar). v ∷ l) (scalars-more vs s)
scalars-more (value.Local p ∷ vs) s = scalars-more vs s

pub scalars-skip : (vs : List Value) (v : Value) → ((s : Scalar) → v ≡ value.Scalar s → ⊥)
    → scalars (vs ++ v ∷ []) ≡ scalars vs
scalars-skip [] (value.Scalar v) h = absurd (h v refl)
scalars-skip [] (value.Local p) h = refl
scalars-skip (value.Scalar w ∷ vs) v h = ap (λ (l : List Scalar). w ∷ l) (scalars-skip vs v h)
scalars-skip (value.Local p ∷ vs) v h = scalars-skip vs v h

module _ (vs : List Value) (i : ℕ) (d : Value) (found next : List Scalar) where
  pub scalars-next : (s : Scalar) → i < length vs → get_or vs i d ≡ value.Scalar s → found ≡ scalars (take i vs)
      → next ≡ found ++ s ∷ [] → next ≡ scalars (take (i + 1) vs)
  scalars-next s h e f g =
      g ∙ ap (λ (l : List Scalar). l ++ s ∷ []) f ∙ sym (scalars-more (take i vs) s)
      ∙ ap (λ (v : Value). scalars (take i vs ++ v ∷ [])) (sym e) ∙ ap scalars (sym (take_more vs i d h))

  pub scalars-passed : i < length vs → ((s : Scalar) → get_or vs i d ≡ value.Scalar s → ⊥)
      → found ≡ scalars (take i vs) → next ≡ found → next ≡ scalars (take (i + 1) vs)
  scalars-passed h k f g =
      g ∙ f ∙ sym (scalars-skip (take i vs) (get_or vs i d) k) ∙ ap scalars (sym (take_more vs i d h))

and-false : (a : Bool) → false ≡ (a && false)
and-false true = refl
and-false false = refl

and-true : (a : Bool) → a ≡ (a && true)
and-true true = refl
and-true false = refl

module _ (shapes : List Shape) (shape : ℕ) (args : List Value) where
  pub no-allocation : is_some (slice_get shapes shape) ≡ false → false ≡ is_formed shapes call.AllAlloc shape args
  no-allocation e = and-false (is_call (call_of 1 (scalars (args ++ value.Scalar (Int (pos shape)) ∷ []))))
      ∙ ap (λ b. is_call (call_of 1 (scalars (args ++ value.Scalar (Int (pos shape)) ∷ []))) && b) (sym e)

  pub some-allocation : (met : List Scalar) → is_some (slice_get shapes shape) ≡ true
      → met ≡ scalars args ++ Int (pos shape) ∷ [] → is_call (call_of 1 met) ≡ is_formed shapes call.AllAlloc shape args
  some-allocation met e f =
      ap (λ (l : List Scalar). is_call (call_of 1 l)) (f ∙ sym (scalars-more args (Int (pos shape))))
      ∙ and-true (is_call (call_of 1 (scalars (args ++ value.Scalar (Int (pos shape)) ∷ []))))
      ∙ ap (λ b. is_call (call_of 1 (scalars (args ++ value.Scalar (Int (pos shape)) ∷ []))) && b) (sym e)
