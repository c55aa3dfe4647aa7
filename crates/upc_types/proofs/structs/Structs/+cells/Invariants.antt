use Rattle.std.proofs.Common.{◌≡◌, ◌+◌, ◌*◌, ◌≤◌, ◌++◌, true, map, drop, reverse}
use Rattle.upc_types.specs.View.{view, view_base, view_completed, view_member}
use Rattle.upc_types.specs.Layout.{end_behind, member_layouts, layout_in, known_in, all_complete, most_bytes}
use Rattle.upc_types.specs.Cells.{member_cells, struct_cells}
use Rattle.upc_types.proofs.Order.{complete_before}
use Rattle.upc_types.proofs.Ranks.{place_or_none, rank, struct_rank}
use Rattle.upc_types.proofs.structs.Structs.+cells.Given as goal

abbrev pub decreases-leaf_cells_by : goal.decreases-leaf_cells_by
decreases-leaf_cells_by l = 2 * rank (reverse (map view_completed l.self.now.completed.items)) (view_base l.leaf.now) + 1

abbrev pub decreases-struct_cells : goal.decreases-struct_cells
decreases-struct_cells l = 2 * struct_rank (reverse (map view_completed l.self.now.completed.items)) l.number

abbrev pub invariant-struct_cells-loop-member : goal.invariant-struct_cells-loop-member
invariant-struct_cells-loop-member l = record {
  rest : l.cells ++ member_cells (map view l.self.targets.list.items) (layout_in (reverse (map view_completed l.self.completed.items))) (struct_cells (map view l.self.targets.list.items) (reverse (map view_completed l.self.completed.items))) l.end (map view_member (drop l.member-index l.members)) ≡ struct_cells (map view l.self.targets.list.items) (reverse (map view_completed l.self.completed.items)) l.number;
  ends : end_behind l.end (member_layouts (layout_in (reverse (map view_completed l.self.completed.items))) (map view_member (drop l.member-index l.members))) ≤ most_bytes;
  before : all_complete (complete_before (reverse (map view_completed l.self.completed.items)) (place_or_none (known_in (reverse (map view_completed l.self.completed.items)) l.number))) (map view_member (drop l.member-index l.members)) ≡ true;
}
