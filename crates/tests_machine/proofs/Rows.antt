-- Cells of one kind, one after another.
use Rattle.std.proofs.Common.{ℕ, ◌+◌, ◌≤◌, List, [], ◌∷◌, ◌++◌, arith}
use Rattle.block_layout.specs.declared.kind.Kind.{Kind}
use Rattle.block_layout.specs.Shapes.{kind_size, CellsWithin}

-- one more cell after those that end at the middle
pub one_more : (cells : List (ℕ × Kind)) (from mid size : ℕ) (c : ℕ × Kind) → from ≤ mid → CellsWithin cells from mid → mid ≤ c.0 → c.0 + kind_size c.1 ≤ size
    → CellsWithin (cells ++ c ∷ []) from size
one_more [] from mid size c l h begins ends = (omega arith, ends, tt)
one_more (d ∷ cells) from mid size c l h begins ends =
    (h.0, omega (arith, h.1), one_more cells (d.0 + kind_size d.1) mid size c h.1 h.2 begins ends)
