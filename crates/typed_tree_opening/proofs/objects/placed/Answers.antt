use Rattle.std.proofs.Common.{refl, ◌∙◌}
use Rattle.upc_types.specs.View.{view}
use Rattle.upc_types.specs.ViewStructs.{view_structs}
use Rattle.typed_tree.specs.ViewStatements.{view_object}
use Rattle.typed_tree_opening.proofs.Shapes.{layout_is}
use Rattle.typed_tree_opening.proofs.Placing.{placed_as}
use Rattle.typed_tree_opening.proofs.objects.placed.Goals as goal

pub size_of-total-requires-clause-few : goal.size_of-total-requires-clause-few
size_of-total-requires-clause-few c =
    (layout_is (view_structs c.args.structs.now) (view c.args.declared.now.ctype) c.requires.layout).few

pub returns : goal.returns
returns c = λ shapes shape.
    placed_as (view_structs c.args.structs.now) shapes c.args.number c.args.base (view_object c.args.declared.now)
    c.in_ok-name.name c.size_of-total.result c.min.result
    c.args.shape c.block_or_none-block.result _ c.args.size c.in_ok-name.ensures c.requires.size
    c.requires.some c.size_of-total.ensures.value c.block_or_none-block.ensures
    (c.min.ensures ∙ rw (c.from.ensures, c.from-2.ensures, c.from-3.ensures) refl) shape refl
