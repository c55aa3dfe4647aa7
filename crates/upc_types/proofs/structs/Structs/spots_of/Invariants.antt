use Rattle.std.proofs.Common.{◌≡◌, ◌++◌, map, drop, reverse}
use Rattle.upc_types.specs.View.{view_completed, view_member}
use Rattle.upc_types.specs.Layout.{end_behind, member_layouts, layout_in}
use Rattle.upc_types.specs.code.Starts.{starts_behind}
use Rattle.upc_types.proofs.Fitting.{MembersFrom}
use Rattle.upc_types.proofs.structs.Structs.spots_of.Given as goal

abbrev pub invariant-loop-member : goal.invariant-loop-member
invariant-loop-member l = record {
  starts : l.starts.items ++ starts_behind l.end (member_layouts (layout_in (reverse (map view_completed l.self.completed.items))) (map view_member (drop l.member-index l.members)))
      ≡ starts_behind 0 (member_layouts (layout_in (reverse (map view_completed l.self.completed.items))) (map view_member l.members));
  ends : end_behind l.end (member_layouts (layout_in (reverse (map view_completed l.self.completed.items))) (map view_member (drop l.member-index l.members)))
      ≡ end_behind 0 (member_layouts (layout_in (reverse (map view_completed l.self.completed.items))) (map view_member l.members));
  fits : MembersFrom (reverse (map view_completed l.self.completed.items)) l.end (map view_member (drop l.member-index l.members));
}
