use Rattle.std.proofs.Common.{◌≡◌, map, drop}
use Rattle.upc_types.specs.View.{view}
use Rattle.upc_types.specs.ViewStructs.{view_structs}
use Rattle.typed_tree.specs.Targets.{with_targets}
use Rattle.typed_tree_opening.specs.code.Pending.{IsDone}
use Rattle.typed_tree_opening.proofs.targets.note_types.Given as goal

abbrev pub invariant-loop-t : goal.invariant-loop-t
invariant-loop-t l = record {
  rest : with_targets (view_structs l.structs) (map view (drop l.t-index l.types))
      ≡ with_targets (view_structs l.initial.structs) (map view l.types);
  done : IsDone (view_structs l.structs) l.done;
}
