-- Numbers that are small enough for steps of pointers.
use Rattle.std.proofs.Common.{◌≤◌, ◌^◌, arith}
use Rattle.std.specs.Prelude.{ℤ, pos, negsuc, unsigned_abs}
use Rattle.std.proofs.lemmas.Int.{ints}
use Rattle.shared_pointers.specs.layer.Ranges.{IsStep}

pub step_of : (z : ℤ) → unsigned_abs z ≤ 2 ^ 88 → IsStep z
step_of (pos n) h = record { least = omega (arith, ints); most = omega (arith, ints) }
step_of (negsuc n) h = record { least = omega (arith, ints); most = omega (arith, ints) }
