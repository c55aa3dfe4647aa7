use Rattle.std.proofs.Common.{◌≡◌, sym, ap, ◌∙◌}
use Rattle.upc_types.specs.View.{view}
use Rattle.upc_types.specs.ViewStructs.{view_structs}
use Rattle.typed_tree.specs.Elements.{element_shape, number_among, with_shape}
use Rattle.typed_tree.specs.layer.Parts.{with_shapes}
use Rattle.typed_tree_opening.proofs.Numbering.{kept_number}
use Rattle.typed_tree_opening.proofs.objects.placed_next.Goals as goal

pub returns-clause-shapes : goal.returns-clause-shapes
returns-clause-shapes c = c.in_ok-shape.ensures.value ∙ ap (with_shape c.args.shapes.now.list.items) c.in_ok-element.ensures.value

pub returns-clause-object : goal.returns-clause-object
returns-clause-object c = λ more.
    let old = c.args.shapes.now.list.items in
    let e = element_shape (view_structs c.args.structs.now) (view c.args.declared.now.ctype) in
    let new : c.number.new.self.list.items ≡ with_shape old e =
    c.in_ok-shape.ensures.value ∙ ap (with_shape old) c.in_ok-element.ensures.value in
    c.in_ok-one.ensures (with_shapes c.number.new.self.list.items more)
    (c.in_ok-shape.ensures.number ∙ ap (number_among old) c.in_ok-element.ensures.value ∙ sym (kept_number old more e)
    ∙ ap (λ l. number_among (with_shapes l more) e) (sym new))
