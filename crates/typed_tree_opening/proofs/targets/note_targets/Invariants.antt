use Rattle.std.proofs.Common.{◌≡◌}
use Rattle.upc_types.specs.Cells.{leaf_base}
use Rattle.upc_types.specs.View.{view_base}
use Rattle.upc_types.specs.ViewStructs.{view_structs}
use Rattle.typed_tree.specs.Targets.{leaf_targets, struct_targets}
use Rattle.typed_tree.specs.layer.Parts.{with_noted}
use Rattle.typed_tree_opening.specs.code.Pending.{with_pending, AreEnded, IsDone}
use Rattle.typed_tree_opening.proofs.targets.note_targets.Given as goal

abbrev pub invariant-loop : goal.invariant-loop
invariant-loop l = record {
  rest : with_pending (view_structs l.structs) l.pending.items
      ≡ with_noted (view_structs l.fn.structs)
      (leaf_targets (struct_targets (view_structs l.fn.structs).completed) (leaf_base (view_base l.t.base)));
  done : IsDone (view_structs l.structs) l.done;
  ended : AreEnded (view_structs l.structs) l.pending.items;
}
