-- Lists of cells: moved, and copied one after the other.
use Rattle.std.specs.Prelude.{ℕ, zero, suc, ◌+◌, ◌*◌, List, [], ◌++◌, map}
use Rattle.block_layout.specs.declared.kind.Kind.{Kind}

-- Cells moved on by so many bytes.
abbrev pub moved : ℕ → List (ℕ × Kind) → List (ℕ × Kind)
moved start cells = map (λ c. (start + c.0, c.1)) cells

-- The cells of so many elements of one size, one after the other (C99 6.2.5).
abbrev pub copies : ℕ → ℕ → List (ℕ × Kind) → List (ℕ × Kind)
copies zero size cells = []
copies (suc count) size cells = copies count size cells ++ moved (count * size) cells
