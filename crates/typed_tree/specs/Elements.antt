-- The elements of shared objects (UPC 6.5.1.1), and their shapes by number.
use Rattle.std.specs.Prelude.{ℕ, ◌+◌, nat_lt, ◌==◌, Bool, ◌&&◌, not, if◌then◌else◌, List, [], ◌∷◌, ◌++◌, length, map}
use Rattle.std.specs.Prelude.{filter}
use Rattle.std.specs.List.{fold}
use Rattle.block_layout.specs.declared.kind.Kind.{Kind}
use Rattle.block_layout.specs.declared.kind.Shape.{Shape}
use Rattle.block_layout.specs.Shapes.{same_kind}
use Rattle.block_layout.specs.Cells.{same_cells, sharable}
use Rattle.upc_types.specs.Types.{CType, base_of, Structs}
use Rattle.upc_types.specs.Cells.{leaf_shape}

-- The size and the cells of one leaf element of a shared object of this type; pointers to private objects are no cells
-- there (UPC 6.5.1.1).
abbrev pub element_shape : Structs → CType → Shape
element_shape structs t = record {
  size = (leaf_shape structs (base_of t)).size;
  cells = sharable (leaf_shape structs (base_of t)).cells;
}

-- The number of a shape among these: the place of the first that has the same size and the same
-- cells, from 0, and where none has, their count.
abbrev pub number_among : List Shape → Shape → ℕ
number_among [] s = 0
number_among (x ∷ xs) s = if x.size == s.size && same_cells x.cells s.cells then 0 else number_among xs s + 1

-- The shapes with numbers after this one was given a number, where no equal one had one.
abbrev pub with_shape : List Shape → Shape → List Shape
with_shape xs s = if nat_lt (number_among xs s) (length xs) then xs else xs ++ (s ∷ [])

-- The shapes of the leaf elements of shared objects of these types, by number; equal ones are one, at the first
-- (UPC 6.5.1.1).
abbrev pub element_shapes : Structs → List CType → List Shape
element_shapes structs ts = fold with_shape [] (map (element_shape structs) ts)
