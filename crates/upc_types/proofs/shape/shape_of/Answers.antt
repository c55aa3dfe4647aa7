use Rattle.std.proofs.Common.{◌≡◌, ◌≤◌, true, map, reverse, sym, ap, subst, arith}
use Rattle.block_layout.specs.Shapes.{CellsWithin}
use Rattle.upc_types.specs.declared.layout.Layout.{Layout}
use Rattle.upc_types.specs.View.{view, view_base, view_completed}
use Rattle.upc_types.specs.Layout.{base_layout, base_complete, complete_in, layout_in, most_bytes}
use Rattle.upc_types.specs.Cells.{leaf_base, leaf_cells, struct_cells}
use Rattle.upc_types.proofs.Order.{leaf_complete}
use Rattle.upc_types.proofs.Within.{leaf_within}
use Rattle.upc_types.proofs.Steps.{leaf_few}
use Rattle.upc_types.proofs.shape.shape_of.Goals as goal

pub whole_layout-size-requires-clause-complete : goal.whole_layout-size-requires-clause-complete
whole_layout-size-requires-clause-complete c =
    let cs = reverse (map view_completed c.args.structs.now.completed.items) in
    subst (λ b. base_complete (complete_in cs) b ≡ true) (sym c.leaf_of-leaf.ensures) (leaf_complete (complete_in cs) (view_base c.args.t.now.base) c.requires.complete)

pub whole_layout-size-requires-clause-few : goal.whole_layout-size-requires-clause-few
whole_layout-size-requires-clause-few c =
    let cs = reverse (map view_completed c.args.structs.now.completed.items) in
    let few = leaf_few (complete_in cs) (layout_in cs) (view_base c.args.t.now.base) c.requires.complete in
    let all : (base_layout (layout_in cs) (leaf_base (view_base c.args.t.now.base))).size ≤ most_bytes = omega (arith, c.requires.few) in
    subst (λ b. (base_layout (layout_in cs) b).size ≤ most_bytes) (sym c.leaf_of-leaf.ensures) all

pub leaf_cells-requires : goal.leaf_cells-requires
leaf_cells-requires c =
    let cs = reverse (map view_completed c.args.structs.now.completed.items) in
    record { complete = subst (λ b. base_complete (complete_in cs) b ≡ true) (sym c.leaf_of-leaf.ensures) (leaf_complete (complete_in cs) (view_base c.args.t.now.base) c.requires.complete) }

pub returns-clause-shape : goal.returns-clause-shape
returns-clause-shape c =
    let cs = reverse (map view_completed c.args.structs.now.completed.items) in
    let targets = map view c.args.structs.now.targets.list.items in
    let leaf = view_base c.leaf_of-leaf.result.now in
    let size : c.whole_layout-size.result.size ≡ (base_layout (layout_in cs) leaf).size = ap (λ (l : Layout). l.size) c.whole_layout-size.ensures.value in
    let cells : c.in_ok-cells.cells ≡ leaf_cells targets (struct_cells targets cs) leaf = c.in_ok-cells.ensures in
    let within = subst (λ n. CellsWithin (leaf_cells targets (struct_cells targets cs) leaf) 0 n) (sym size) (leaf_within targets cs leaf) in
    (c.whole_layout-size.ensures.fine.some, subst (λ xs. CellsWithin xs 0 c.whole_layout-size.result.size) (sym cells) within)
