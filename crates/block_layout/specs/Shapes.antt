-- The cells of an element.
use Rattle.std.specs.List.{list_any}
use Rattle.std.specs.Prelude.{Bool, true, false, ◌==◌, ◌&&◌, ℕ, ◌+◌, ◌<◌, ◌≤◌, List, [], ◌∷◌}
use Rattle.block_layout.specs.declared.kind.Kind.{Kind}
use Rattle.block_layout.specs.declared.kind.Kind.TheVariants.{Char, UChar, Short, UShort, Int, UInt, Long, ULong}
use Rattle.block_layout.specs.declared.kind.Kind.TheVariants.{Shared, Lock, Private}
use Rattle.block_layout.specs.declared.kind.Shape.{Shape}

-- The bytes of a cell of a kind.
abbrev pub kind_size : Kind → ℕ
kind_size Char = 1
kind_size UChar = 1
kind_size Short = 2
kind_size UShort = 2
kind_size Int = 4
kind_size UInt = 4
kind_size Long = 8
kind_size ULong = 8
kind_size (Shared n b) = 16
kind_size Lock = 16
kind_size (Private n) = 8

-- Whether two kinds are equal.
abbrev pub same_kind : Kind → Kind → Bool
same_kind Char Char = true
same_kind UChar UChar = true
same_kind Short Short = true
same_kind UShort UShort = true
same_kind Int Int = true
same_kind UInt UInt = true
same_kind Long Long = true
same_kind ULong ULong = true
same_kind (Shared n b) (Shared m c) = n == m && b == c
same_kind Lock Lock = true
same_kind (Private n) (Private m) = n == m
same_kind a b = false

-- Whether a cell of this kind begins at this byte of an element.
abbrev pub has_cell : List (ℕ × Kind) → ℕ → Kind → Bool
has_cell cells place kind = list_any (λ c. c.0 == place && same_kind c.1 kind) cells

-- Each cell begins at or after the end of the one before it, the first at or after `from`, and ends within the size.
abbrev pub CellsWithin : List (ℕ × Kind) → ℕ → ℕ → Type 0
CellsWithin [] from size = Unit {0}
CellsWithin (c ∷ cells) from size =
    (from ≤ c.0) × (c.0 + kind_size c.1 ≤ size) × CellsWithin cells (c.0 + kind_size c.1) size

-- Cells that lie from one byte up to another, ascending and without overlap.
abbrev pub LieUpTo : List (ℕ × Kind) → ℕ → ℕ → Type 0
LieUpTo cells from end = (from ≤ end) × CellsWithin cells from end

-- A shape has at least one byte, and its cells lie inside it, ascending and without overlap.
abbrev pub IsShape : Shape → Type 0
IsShape s = (0 < s.size) × CellsWithin s.cells 0 s.size
