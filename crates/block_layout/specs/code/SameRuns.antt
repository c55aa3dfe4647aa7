-- What a comparison says of two lists of runs.
use Rattle.std.specs.Prelude.{◌≡◌, Bool, true, false, ℕ, List, ◌++◌}
use Rattle.block_layout.specs.declared.kind.Kind.{Kind}
use Rattle.block_layout.specs.Cells.{same_cells}

-- The first cells are equal, or they differ, whatever stands after them.
abbrev pub IsTold : Bool → List (ℕ × Kind) → List (ℕ × Kind) → Type 0
IsTold true a b = a ≡ b
IsTold false a b = (xs ys : List (ℕ × Kind)) → same_cells (a ++ xs) (b ++ ys) ≡ false
