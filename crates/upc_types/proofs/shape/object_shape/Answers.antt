use Rattle.std.proofs.Common.{◌≡◌, ℕ, ◌++◌, true, List, map, reverse, sym, ap, ◌∙◌, subst}
use Rattle.block_layout.specs.declared.kind.Kind.{Kind}
use Rattle.block_layout.specs.declared.kind.Shape.{Shape}
use Rattle.block_layout.specs.Shapes.{CellsWithin}
use Rattle.upc_types.specs.declared.layout.Layout.{Layout}
use Rattle.upc_types.specs.View.{view, view_base, view_completed}
use Rattle.upc_types.specs.Layout.{base_layout, base_complete, complete_in, layout_in}
use Rattle.block_layout.specs.Cells.{moved}
use Rattle.upc_types.specs.Cells.{object_cells, struct_cells}
use Rattle.upc_types.proofs.Order.{leaf_complete}
use Rattle.block_layout.proofs.Within.{moved_nowhere}
use Rattle.upc_types.proofs.Within.{object_within}
use Rattle.upc_types.proofs.shape.object_shape.Goals as goal

pub leaf_cells-requires : goal.leaf_cells-requires
leaf_cells-requires c =
    let cs = reverse (map view_completed c.args.structs.now.completed.items) in
    record { complete = subst (λ b. base_complete (complete_in cs) b ≡ true) (sym c.leaf_of.ensures) (leaf_complete (complete_in cs) (view_base c.args.t.now.base) c.requires.complete) }

pub returns-clause-value : goal.returns-clause-value
returns-clause-value c =
    let cs = reverse (map view_completed c.args.structs.now.completed.items) in
    let targets = map view c.args.structs.now.targets.list.items in
    let whole = object_cells targets (layout_in cs) (struct_cells targets cs) (view_base c.args.t.now.base) in
    let size : c.whole_layout-size.result.size ≡ (base_layout (layout_in cs) (view_base c.args.t.now.base)).size = ap (λ (l : Layout). l.size) c.whole_layout-size.ensures.value in
    let cells : c.push_leaves.new.cells ≡ whole = c.in_ok-push_leaves.ensures ∙ ap (λ xs. xs ++ moved 0 whole) c.new-cells.ensures ∙ moved_nowhere whole in
    ap (λ (n : ℕ). let s : Shape = record { size = n; cells = c.push_leaves.new.cells } in s) size
    ∙ ap (λ (xs : List (ℕ × Kind)). let s : Shape = record { size = (base_layout (layout_in cs) (view_base c.args.t.now.base)).size; cells = xs } in s) cells

pub returns-clause-shape : goal.returns-clause-shape
returns-clause-shape c =
    let cs = reverse (map view_completed c.args.structs.now.completed.items) in
    let targets = map view c.args.structs.now.targets.list.items in
    let whole = object_cells targets (layout_in cs) (struct_cells targets cs) (view_base c.args.t.now.base) in
    let size : c.whole_layout-size.result.size ≡ (base_layout (layout_in cs) (view_base c.args.t.now.base)).size = ap (λ (l : Layout). l.size) c.whole_layout-size.ensures.value in
    let cells : c.push_leaves.new.cells ≡ whole = c.in_ok-push_leaves.ensures ∙ ap (λ xs. xs ++ moved 0 whole) c.new-cells.ensures ∙ moved_nowhere whole in
    let within = subst (λ n. CellsWithin whole 0 n) (sym size) (object_within targets cs (view_base c.args.t.now.base)) in
    (c.whole_layout-size.ensures.fine.some, subst (λ xs. CellsWithin xs 0 c.whole_layout-size.result.size) (sym cells) within)
