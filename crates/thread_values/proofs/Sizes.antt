-- What upc_affinitysize gives by its three arguments.
use Rattle.std.proofs.Common.{◌≡◌, ◌≤◌, ◌<◌, ℕ, List, [], ◌∷◌, length, get_or, Option, true, false}
use Rattle.std.proofs.Common.{unsigned_abs, refl, sym, arith}
use Rattle.std.specs.Prelude.{◌&&◌}
use Rattle.block_layout.specs.declared.kind.Shape.{Shape}
use Rattle.upc_values.specs.declared.library.LibraryCall.TheVariants as call
use Rattle.upc_values.specs.declared.scalar.Scalar.TheVariants.{Int}
use Rattle.upc_values.specs.declared.scalar.Value.{Value}
use Rattle.upc_values.specs.declared.scalar.Value.TheVariants as value
use Rattle.upc_values.specs.Expansion.{Gives}
use Rattle.upc_values.specs.LibraryCalls.{library_call, affinity_size}
use Rattle.upc_values.specs.Scalars as scalars
use Rattle.thread_steps.specs.Values.{number_of}
use Rattle.thread_values.specs.code.Parts.{is_integer}

module _ (threads : ℕ) (shapes : List Shape) (me : ℕ) (private : ℕ → Option Shape) (shape : ℕ) where
  pub affinity-of_integers : (t b d : Value) → (is_integer t && (is_integer b && is_integer d)) ≡ true
      → library_call threads shapes me private call.AffinitySize shape (t ∷ b ∷ d ∷ [])
      ≡ affinity_size threads shapes me private (unsigned_abs (number_of t)) (unsigned_abs (number_of b))
      (unsigned_abs (number_of d))
  affinity-of_integers (value.Scalar (Int t)) (value.Scalar (Int b)) (value.Scalar (Int d)) h = refl
  affinity-of_integers (value.Scalar (Int t)) (value.Scalar (Int b)) d h = absurd (cc)
  affinity-of_integers (value.Scalar (Int t)) b d h = absurd (cc)
  affinity-of_integers t b d h = absurd (cc)

  pub affinity-of_others : (t b d : Value) → (is_integer t && (is_integer b && is_integer d)) ≡ false
      → library_call threads shapes me private call.AffinitySize shape (t ∷ b ∷ d ∷ []) ≡ Gives scalars.zero
  affinity-of_others (value.Scalar (Int t)) (value.Scalar (Int b)) (value.Scalar (Int d)) h = absurd (cc)
  affinity-of_others (value.Scalar (Int t)) (value.Scalar (Int b)) d h = refl
  affinity-of_others (value.Scalar (Int t)) b d h = refl
  affinity-of_others t b d h = refl

  -- So with the sizes that code reads off its arguments.
  pub affinity-read : (t b d : Value) (u v w : ℕ) → (is_integer t && (is_integer b && is_integer d)) ≡ true
      → u ≡ unsigned_abs (number_of t) → v ≡ unsigned_abs (number_of b) → w ≡ unsigned_abs (number_of d)
      → affinity_size threads shapes me private u v w
      ≡ library_call threads shapes me private call.AffinitySize shape (t ∷ b ∷ d ∷ [])
  affinity-read t b d u v w h e f g = rw (e, f, g) (sym (affinity-of_integers t b d h))

-- A list of three members by its members.
pub three-members : (xs : List Value) (x : Value) → 3 ≤ length xs → length xs < 4
    → get_or xs 0 x ∷ get_or xs 1 x ∷ get_or xs 2 x ∷ [] ≡ xs
three-members [] x h k = absurd (omega arith)
three-members (a ∷ []) x h k = absurd (omega arith)
three-members (a ∷ b ∷ []) x h k = absurd (omega arith)
three-members (a ∷ b ∷ d ∷ []) x h k = refl
three-members (a ∷ b ∷ d ∷ e ∷ xs) x h k = absurd (omega arith)
