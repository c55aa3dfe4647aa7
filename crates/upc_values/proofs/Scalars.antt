-- A scalar is the same as itself.
use Rattle.std.proofs.Common.{◌≡◌, ℕ, ℤ, ◌==◌, true, refl, eq-eqb}
use Rattle.std.specs.Ordering.{int_eq}
use Rattle.std.proofs.lemmas.Bool.Decides.{Decides-int_eq}
use Rattle.block_layout.proofs.Pointers.{same_pointer-refl}
use Rattle.upc_values.specs.declared.scalar.Scalar.{Scalar}
use Rattle.upc_values.specs.declared.scalar.Scalar.TheVariants.{Int, Shared, Lock}
use Rattle.upc_values.specs.Scalars.{same_scalar}

int_eq-refl : (n : ℤ) → int_eq n n ≡ true
int_eq-refl n = search (Rattle.std.proofs.Common.rules, Decides-int_eq n n)

same : (n : ℕ) → (n == n) ≡ true
same n = eq-eqb n n refl

pub same_scalar-refl : (v : Scalar) → same_scalar v v ≡ true
same_scalar-refl (Int n) = int_eq-refl n
same_scalar-refl (Shared p) = same_pointer-refl p
same_scalar-refl (Lock n) = same n
