-- The cells of a range of bytes, as they are found one after another.
use Rattle.std.specs.Prelude.{ℕ, ◌≡◌, ◌+◌, ◌<◌, ◌≤◌, ◌^◌, Bool, false, not, List, Option, Some, None}
use Rattle.block_layout.specs.Moved.{moved}
use Rattle.block_layout.specs.Shapes.{IsShape}
use Rattle.block_layout.specs.declared.kind.Kind.{Kind}
use Rattle.block_layout.specs.declared.kind.Shape.{Shape}
use Rattle.upc_values.specs.Shapes.{kind_at, is_integer}
use Rattle.upc_values.specs.Views.{cells_within}

-- The cells in the bytes of a range that are left, from a place of an element on; so many bytes of the range are before
-- them.
abbrev pub cells_left : Shape → ℕ → ℕ → ℕ → List (ℕ × Kind)
cells_left s place before left = moved before (cells_within (Some s) place left)

-- The next byte lies in an element of a shape, and 32 bits can name each byte of the range.
pub record IsRange (s : Shape) (place before left : ℕ) : Type 0 where
  pub shape : IsShape s
  pub inside : place < s.size
  pub few : before + left ≤ 2 ^ 32

-- No cell begins in so many bytes from a place on, where elements of the shape follow one another.
abbrev pub IsGap : Shape → ℕ → ℕ → Type 0
IsGap s place n = (j : ℕ) → j < n → kind_at (Some s) (place + j) ≡ None

-- The next cell from a place on, where elements of the shape follow one another: how many bytes after the place it
-- begins, and its kind.
pub record IsNext (s : Shape) (place : ℕ) (cell : ℕ × Kind) : Type 0 where
  pub gap : IsGap s place cell.0
  pub kind : kind_at (Some s) (place + cell.0) ≡ Some cell.1

-- There is a cell, and it holds no integer.
abbrev pub is_no_integer : Option Kind → Bool
is_no_integer (Some k) = not (is_integer k)
is_no_integer None = false
