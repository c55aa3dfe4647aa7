-- Lists of cells: moved, copied one after the other (both in Moved), without pointers to private objects, from a byte
-- on, cut at a byte, compared.
use Rattle.std.specs.Prelude.{Bool, true, false, not, ℕ, ◌+◌, nat_lt, nat_le, List, [], ◌∷◌, ◌==◌, ◌&&◌, filter}
use Rattle.std.specs.List.{list_any}
pub use Rattle.block_layout.specs.Moved.{moved, copies}
use Rattle.block_layout.specs.Shapes.{kind_size, same_kind}
use Rattle.block_layout.specs.declared.kind.Kind.{Kind}
use Rattle.block_layout.specs.declared.kind.Kind.TheVariants.{Private}

-- The cell is a pointer to a private object.
abbrev pub is_private : Kind → Bool
is_private (Private n) = true
is_private k = false

-- The cells that a shared object can have: pointers to private objects are none (UPC 6.5.1.1).
abbrev pub sharable : List (ℕ × Kind) → List (ℕ × Kind)
sharable cells = filter (λ c. not (is_private c.1)) cells

-- The cells that begin at this byte or after it.
abbrev pub cells_from : ℕ → List (ℕ × Kind) → List (ℕ × Kind)
cells_from place cells = filter (λ c. nat_le place c.0) cells

-- Whether a cell begins before this byte and ends after it.
abbrev pub has_cut : List (ℕ × Kind) → ℕ → Bool
has_cut cells place = list_any (λ c. nat_lt c.0 place && nat_lt place (c.0 + kind_size c.1)) cells

-- Two lists of cells are equal, each cell in place and kind.
abbrev pub same_cells : List (ℕ × Kind) → List (ℕ × Kind) → Bool
same_cells [] [] = true
same_cells (c ∷ cs) (d ∷ ds) = (c.0 == d.0) && (same_kind c.1 d.1 && same_cells cs ds)
same_cells cs ds = false

-- Two cells are equal in place and kind.
abbrev pub same_cell : ℕ × Kind → ℕ × Kind → Bool
same_cell c d = c.0 == d.0 && same_kind c.1 d.1
