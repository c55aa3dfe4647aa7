use Rattle.std.proofs.Common.{◌≡◌, ℕ, false, List, sym, ap, ◌∙◌, subst}
use Rattle.block_layout.specs.declared.kind.Kind.{Kind}
use Rattle.block_layout.specs.declared.kind.Shape.{Shape}
use Rattle.block_layout.specs.Shapes.{CellsWithin}
use Rattle.upc_values.specs.Lists.{Each}
use Rattle.block_layout.specs.Cells.{is_private}
use Rattle.upc_types.specs.View.{view}
use Rattle.upc_types.specs.ViewStructs.{view_structs}
use Rattle.block_layout.specs.Cells.{sharable}
use Rattle.typed_tree_opening.proofs.Shapes.{layout_is, sharable_within, sharable_each}
use Rattle.typed_tree_opening.proofs.elements.element_shape.Goals as goal

pub shape_of-requires-clause-complete : goal.shape_of-requires-clause-complete
shape_of-requires-clause-complete c =
    (layout_is (view_structs c.args.structs.now) (view c.args.t.now) c.requires.layout).complete

pub shape_of-requires-clause-few : goal.shape_of-requires-clause-few
shape_of-requires-clause-few c = (layout_is (view_structs c.args.structs.now) (view c.args.t.now) c.requires.layout).few

pub returns-clause-shape : goal.returns-clause-shape
returns-clause-shape c =
    let shape = c.in_ok-leaf.ensures.shape in (
      shape.0,
      subst (λ xs. CellsWithin xs 0 c.in_ok-leaf.leaf.size) (sym c.in_ok-cells.ensures)
          (sharable_within c.in_ok-leaf.leaf.cells 0 c.in_ok-leaf.leaf.size shape.1),
    )

pub returns-clause-sharable : goal.returns-clause-sharable
returns-clause-sharable c =
    subst (λ xs. Each (λ d. is_private d.1 ≡ false) xs) (sym c.in_ok-cells.ensures) (sharable_each c.in_ok-leaf.leaf.cells)

pub returns-clause-value : goal.returns-clause-value
returns-clause-value c =
    ap (λ (xs : List (ℕ × Kind)). let s : Shape = record { size = c.in_ok-leaf.leaf.size; cells = xs } in s) c.in_ok-cells.ensures
    ∙ ap (λ (y : Shape). let s : Shape = record { size = y.size; cells = sharable y.cells } in s)
    c.in_ok-leaf.ensures.value
