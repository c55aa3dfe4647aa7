-- Where the next cell of an element is looked for.
use Rattle.std.specs.Prelude.{ℕ, ◌≡◌, ◌+◌, ◌<◌, ◌≤◌, ◌%◌, List, [], ◌∷◌, Option, Some, None}
use Rattle.block_layout.specs.declared.kind.Kind.{Kind}
use Rattle.block_layout.specs.declared.kind.Shape.{Shape}
use Rattle.block_layout.specs.Lists.{under}
use Rattle.block_layout.specs.Shapes.{CellsWithin}

-- The cell that comes next, if one does, and those after it.
abbrev pub coming : Option (ℕ × Kind) → List (ℕ × Kind) → List (ℕ × Kind)
coming None left = []
coming (Some c) left = c ∷ left

-- From this byte of the element on, its cells are those that come.
pub record IsCursor (s : Shape) (place : ℕ) (next : Option (ℕ × Kind)) (left : List (ℕ × Kind)) : Type 0 where
  pub inside : place < s.size
  pub found : (j : ℕ) → place ≤ j → under j s.cells ≡ under j (coming next left)
  pub within : CellsWithin (coming next left) place s.size

-- After this byte of the element, its cells are those that come.
pub record IsPassed (s : Shape) (place : ℕ) (next : Option (ℕ × Kind)) (left : List (ℕ × Kind)) : Type 0 where
  pub inside : place < s.size
  pub found : (j : ℕ) → place < j → under j s.cells ≡ under j (coming next left)
  pub within : CellsWithin (coming next left) (place + 1) s.size

-- A step answers the kind of the cell that begins at this byte, and leads to the next byte, which is in the next
-- element where this one ends.
pub record Passes (s : Shape) (place : ℕ) (kind : Option Kind) (after : ℕ) : Type 0 where
  pub kind_is : kind ≡ under place s.cells
  pub after_is : after ≡ (place + 1) % s.size
