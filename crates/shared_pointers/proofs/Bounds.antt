-- How far from 0 a number of whole rows can lie.
use Rattle.std.proofs.Common.{ℕ, zero, suc, ◌+◌, ◌*◌, ◌/◌, ◌<◌, ◌≤◌, arith, unsigned_abs}
use Rattle.std.proofs.Math.IntN.{ℤ, pos, negsuc, ◌*ℤ◌}
use Rattle.std.proofs.lemmas.Int.{unsigned_abs-mul}
use Rattle.std.proofs.lemmas.Nat.{div-add-mod'}
use Rattle.block_layout.specs.Floor.{floor_div}

-- One block of b of each whole row of T blocks: at most the number itself.
part_of_row : (n b T : ℕ) → 0 < T → n / (b * T) * b ≤ n
part_of_row n b zero h = absurd (omega arith)
part_of_row n b (suc T) h = omega (arith, div-add-mod' n (b * suc T))

pub row-near : (e : ℤ) (b T : ℕ) → 0 < T → unsigned_abs (floor_div e (b * T) *ℤ pos b) ≤ unsigned_abs e + b
row-near (pos n) b T h = rw (unsigned_abs-mul (pos (n / (b * T))) (pos b)) (omega (arith, part_of_row n b T h))
row-near (negsuc n) b T h = rw (unsigned_abs-mul (negsuc (n / (b * T))) (pos b)) (omega (arith, part_of_row n b T h))
