use Rattle.std.proofs.Common.{◌∙◌}
use Rattle.upc_types.specs.ViewStructs.{view_structs}
use Rattle.typed_tree_opening.proofs.Chosen.{note_object}
use Rattle.typed_tree_opening.proofs.targets.note_objects.Goals as goal

pub loop-object-preserved : goal.loop-object-preserved
loop-object-preserved c = record {
  rest =
      note_object (view_structs c.loop-object.structs) (view_structs c.note_targets.new.structs) c.args.objects.now
      c.loop-object.object-index c.object-item.result c.loop-object-test.true c.object-item.is
      c.in_ok-note_targets.ensures.noted
      ∙ c.loop-object.invariant.rest;
  done = c.in_ok-note_targets.ensures.done;
}
