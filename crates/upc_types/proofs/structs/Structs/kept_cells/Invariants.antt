use Rattle.std.proofs.Common.{map, reverse}
use Rattle.upc_types.specs.View.{view, view_completed}
use Rattle.upc_types.specs.Cells.{struct_cells}
use Rattle.upc_types.specs.code.KeptCells.{AreKept}
use Rattle.upc_types.proofs.structs.Structs.kept_cells.Given as goal

abbrev pub invariant-loop-place : goal.invariant-loop-place
invariant-loop-place l = record {
  kept : AreKept (struct_cells (map view l.self.targets.list.items) (reverse (map view_completed l.self.completed.items))) l.kept.items;
}
