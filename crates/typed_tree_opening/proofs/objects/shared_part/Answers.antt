use Rattle.std.proofs.Common.{[], map, sym, ap, ◌∙◌}
use Rattle.std.proofs.lemmas.List.{map-append}
use Rattle.upc_types.specs.View.{view}
use Rattle.upc_types.specs.ViewStructs.{view_structs}
use Rattle.typed_tree.specs.Elements.{element_shape}
use Rattle.typed_tree.specs.layer.Parts.{with_shapes}
use Rattle.typed_tree.specs.Objects.{shared_in, type_of, placed_from}
use Rattle.typed_tree.specs.ViewStatements.{view_object}
use Rattle.typed_tree_opening.proofs.Shapes.{shapes_append}
use Rattle.typed_tree_opening.proofs.objects.shared_part.Goals as goal

pub returns-clause-shapes : goal.returns-clause-shapes
returns-clause-shapes c =
    let one = element_shape (view_structs c.args.structs.now) in
    let objects = map type_of (shared_in (map view_object c.args.objects.now)) in
    let types = map view c.args.types.now in
    c.in_ok-number_types.ensures
    ∙ ap (λ ys. with_shapes ys (map one types))
    (c.in_ok-objects.ensures.shapes ∙ ap (λ ys. with_shapes ys (map one objects)) c.new-shapes.ensures)
    ∙ sym (shapes_append [] (map one objects) (map one types))
    ∙ ap (with_shapes []) (sym (map-append one objects types))

pub returns-clause-objects : goal.returns-clause-objects
returns-clause-objects c =
    let s = view_structs c.args.structs.now in
    c.in_ok-objects.ensures.objects (map (element_shape s) (map view c.args.types.now))
    ∙ ap (λ ys. placed_from s ys 1 0 (shared_in (map view_object c.args.objects.now))) (sym c.in_ok-number_types.ensures)
