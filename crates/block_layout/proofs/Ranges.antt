-- The test of the range of elements and offsets.
use Rattle.std.proofs.Common.{◌≡◌, ◌^◌, int_le, true, false, sym, arith}
use Rattle.std.proofs.Math.IntN.{ℤ, pos, neg_ℤ}
use Rattle.std.proofs.lemmas.Int.{ints}
use Rattle.std.proofs.lemmas.Bool.{and_parts, and_from}
use Rattle.block_layout.specs.Places.{InRange, in_range}

pub in_range-true : (z : ℤ) → in_range z ≡ true → InRange z
in_range-true z h =
    let parts : (int_le (neg_ℤ (pos (2 ^ 40))) z ≡ true) × (int_le z (pos (2 ^ 40)) ≡ true) = and_parts _ _ h in
    record { least = omega (arith, ints, parts.0); most = omega (arith, ints, parts.1) }

pub in_range-false : (z : ℤ) → in_range z ≡ false → ¬ (InRange z)
in_range-false z h r =
    let low : true ≡ int_le (neg_ℤ (pos (2 ^ 40))) z = omega (arith, ints, r.least) in
    let high : true ≡ int_le z (pos (2 ^ 40)) = omega (arith, ints, r.most) in
    let t : in_range z ≡ true = and_from _ _ (sym low) (sym high) in
    cc
