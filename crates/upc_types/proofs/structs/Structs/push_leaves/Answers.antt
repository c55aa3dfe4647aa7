use Rattle.std.proofs.Common.{◌≡◌, ◌/◌, ◌<◌, ◌≤◌, ◌++◌, true, map, reverse, sym, ap, ◌∙◌, subst, arith}
use Rattle.block_layout.specs.Shapes.{CellsWithin}
use Rattle.upc_types.specs.View.{view, view_base, view_completed}
use Rattle.upc_types.specs.Layout.{base_layout, base_complete, complete_in, layout_in, most_bytes}
use Rattle.block_layout.specs.Cells.{moved, copies}
use Rattle.upc_types.specs.Cells.{leaf_base, leaves, leaf_cells, struct_cells}
use Rattle.upc_types.proofs.Order.{leaf_complete}
use Rattle.upc_types.proofs.Within.{leaf_within}
use Rattle.upc_types.proofs.Steps.{leaf_few, leaf_count}
use Rattle.upc_types.proofs.structs.Structs.push_leaves.Goals as goal

pub whole_layout-size-requires-clause-complete : goal.whole_layout-size-requires-clause-complete
whole_layout-size-requires-clause-complete c =
    let cs = reverse (map view_completed c.args.self.now.completed.items) in
    subst (λ b. base_complete (complete_in cs) b ≡ true) (sym c.leaf_of.ensures) (leaf_complete (complete_in cs) (view_base c.args.base.now) c.requires.complete)

pub whole_layout-size-requires-clause-few : goal.whole_layout-size-requires-clause-few
whole_layout-size-requires-clause-few c =
    let cs = reverse (map view_completed c.args.self.now.completed.items) in
    let few = leaf_few (complete_in cs) (layout_in cs) (view_base c.args.base.now) c.requires.complete in
    let all : (base_layout (layout_in cs) (leaf_base (view_base c.args.base.now))).size ≤ most_bytes = omega (arith, c.requires.near) in
    subst (λ b. (base_layout (layout_in cs) b).size ≤ most_bytes) (sym c.leaf_of.ensures) all

pub push_copies-requires-clause-within : goal.push_copies-requires-clause-within
push_copies-requires-clause-within c =
    let cs = reverse (map view_completed c.args.self.now.completed.items) in
    let within = leaf_within (map view c.args.self.now.targets.list.items) cs (leaf_base (view_base c.args.base.now)) in
    let size : (base_layout (layout_in cs) (leaf_base (view_base c.args.base.now))).size ≡ c.whole_layout-size.result.size =
    ap (λ b. (base_layout (layout_in cs) b).size) (sym c.leaf_of.ensures) ∙ sym (ap (λ l. l.size) c.whole_layout-size.ensures.value) in
    let sized = subst (λ n. CellsWithin (leaf_cells (map view c.args.self.now.targets.list.items) (struct_cells (map view c.args.self.now.targets.list.items) cs) (leaf_base (view_base c.args.base.now))) 0 n) size within in
    subst (λ xs. CellsWithin xs 0 c.whole_layout-size.result.size) (sym c.requires.leaf) sized

pub returns : goal.returns
returns c =
    let cs = reverse (map view_completed c.args.self.now.completed.items) in
    let b = view_base c.args.base.now in
    let leaf = leaf_cells (map view c.args.self.now.targets.list.items) (struct_cells (map view c.args.self.now.targets.list.items) cs) (leaf_base b) in
    let size : c.whole_layout-size.result.size ≡ (base_layout (layout_in cs) (leaf_base b)).size =
    ap (λ l. l.size) c.whole_layout-size.ensures.value ∙ ap (λ b. (base_layout (layout_in cs) b).size) c.leaf_of.ensures in
    let some : 0 < (base_layout (layout_in cs) (leaf_base b)).size = omega (arith, c.whole_layout-size.ensures.fine.some) in
    let count : c.whole_layout.result.size / c.whole_layout-size.result.size ≡ leaves b =
    ap (λ n. n / c.whole_layout-size.result.size) (ap (λ l. l.size) c.whole_layout.ensures.value) ∙ ap (λ n. (base_layout (layout_in cs) b).size / n) size ∙ leaf_count (layout_in cs) b some in
    let cells : copies (c.whole_layout.result.size / c.whole_layout-size.result.size) c.whole_layout-size.result.size c.args.part.now ≡ copies (leaves b) (base_layout (layout_in cs) (leaf_base b)).size leaf =
    ap (λ n. copies n c.whole_layout-size.result.size c.args.part.now) count ∙ ap (λ n. copies (leaves b) n c.args.part.now) size ∙ ap (copies (leaves b) (base_layout (layout_in cs) (leaf_base b)).size) c.requires.leaf in
    subst (λ xs. c.push_copies.new.self ≡ c.args.cells.now ++ moved c.args.start xs) cells c.in_ok-push_copies.ensures
