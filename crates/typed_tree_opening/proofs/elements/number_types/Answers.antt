use Rattle.std.proofs.Common.{map, sym, ap, ◌∙◌}
use Rattle.std.proofs.lemmas.List.{drop_all}
use Rattle.upc_types.specs.View.{view}
use Rattle.upc_types.specs.ViewStructs.{view_structs}
use Rattle.typed_tree.specs.Elements.{element_shape}
use Rattle.typed_tree.specs.layer.Parts.{with_shapes}
use Rattle.typed_tree_opening.proofs.elements.number_types.Goals as goal

pub returns : goal.returns
returns c =
    let one = element_shape (view_structs c.args.structs.now) in
    sym (ap (λ ys. with_shapes c.loop-t.shapes.list.items (map one (map view ys)))
    (drop_all c.loop-t.t-index c.args.types.now c.loop-t-test.false))
    ∙ c.loop-t.invariant.rest
