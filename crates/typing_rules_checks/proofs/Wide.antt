-- Sums of wide numbers.
use Rattle.std.proofs.Common.{◌≡◌, ◌≤◌, ◌^◌, ℤ, ◌+ℤ◌, unsigned_abs, to_z, of_z, rules}
use mir.Syntax.{w128}

-- Two numbers that are far from the edges are added.
pub wide_sum : (a b x y : ℤ) → a ≡ x → b ≡ y → unsigned_abs a ≤ 2 ^ 125 → unsigned_abs b ≤ 2 ^ 65 →
    to_z w128 (of_z w128 (to_z w128 (of_z w128 a) +ℤ to_z w128 (of_z w128 b))) ≡ x +ℤ y
wide_sum a b x y e f h k = search rules
