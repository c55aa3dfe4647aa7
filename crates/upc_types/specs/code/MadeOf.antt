-- What the layout and the cells of a struct are made of.
use Rattle.std.specs.Prelude.{ℕ, List, map}
use Rattle.block_layout.specs.declared.kind.Kind.{Kind}
use Rattle.upc_types.specs.declared.layout.Layout.{Layout}
use Rattle.upc_types.specs.declared.structs.Member as member_type
use Rattle.upc_types.specs.Types.{Base, Member, Structs, base_of}
use Rattle.upc_types.specs.Layout.{base_layout, layout_in}
use Rattle.upc_types.specs.Cells.{leaf_base, leaves, leaf_cells, struct_cells}
use Rattle.upc_types.specs.View.{view_member}

-- What an object adds to a struct: its layout, that of its leaf elements, how many these are, and their cells.
abbrev pub Part : Type 0
Part = Layout × (Layout × (ℕ × List (ℕ × Kind)))

-- What an object of this type adds, where the layout and the cells of each struct and the cell of each pointer are
-- known.
abbrev pub part : Structs → Base → Part
part s b = (
  base_layout (layout_in s.completed) b,
  (
    base_layout (layout_in s.completed) (leaf_base b),
    (leaves b, leaf_cells s.targets (struct_cells s.targets s.completed) (leaf_base b)),
  ),
)

-- What each of these members adds, in order.
abbrev pub member_parts : Structs → List Member → List Part
member_parts s ms = map (λ m. part s (base_of m.ctype)) ms

-- What each of these members of the code adds, in order.
abbrev pub parts : Structs → List member_type.Member → List Part
parts s ms = member_parts s (map view_member ms)
