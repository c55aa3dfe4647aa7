use Rattle.std.proofs.Common.{◌∙◌}
use Rattle.upc_types.specs.ViewStructs.{view_structs}
use Rattle.typed_tree_opening.proofs.Chosen.{note_type}
use Rattle.typed_tree_opening.proofs.targets.note_types.Goals as goal

pub loop-t-preserved : goal.loop-t-preserved
loop-t-preserved c = record {
  rest =
      note_type (view_structs c.loop-t.structs) (view_structs c.note_targets.new.structs) c.args.types.now
      c.loop-t.t-index c.t-item.result c.loop-t-test.true c.t-item.is c.in_ok-note_targets.ensures.noted
      ∙ c.loop-t.invariant.rest;
  done = c.in_ok-note_targets.ensures.done;
}
