use Rattle.std.proofs.Common.{◌≡◌, List, sym, ◌∙◌, subst}
use Rattle.block_layout.specs.declared.kind.Shape.{Shape}
use Rattle.upc_types.specs.ViewStructs.{view_structs}
use Rattle.typed_tree_opening.specs.code.Apart.{struct_shape, AreNumbered}
use Rattle.typed_tree_opening.proofs.Seen.{numbered_kept, numbered_more}
use Rattle.typed_tree_opening.proofs.elements.number_type.Goals as goal

pub returns-in_default-clause-seen : goal.returns-in_default-clause-seen
returns-in_default-clause-seen c =
    let s = view_structs c.args.structs.now in
    let seen = c.args.seen.now in
    subst (λ (xs : List Shape). AreNumbered s xs seen) (sym c.in_ok-number.ensures.value)
    (numbered_kept s c.args.shapes.now.list.items c.in_ok-element_shape.field-0 seen c.requires.seen)

pub returns-clause-seen : goal.returns-clause-seen
returns-clause-seen c =
    let s = view_structs c.args.structs.now in
    let x = c.in_ok-element_shape-2.field-0 in
    let same : x ≡ struct_shape s c.in-Some.number = c.in_ok-element_shape-2.ensures.value ∙ c.in-Some.ensures in
    subst (λ (xs : List Shape). AreNumbered s xs c.mark_done.new.done) (sym c.in_ok-number-2.ensures.value)
    (numbered_more s c.args.shapes.now.list.items x c.args.seen.now c.mark_done.new.done c.in-Some.number
    c.requires.seen same c.mark_done.ensures)
