use Rattle.std.proofs.Common.{◌≡◌, ◌<◌, ◌≤◌, map, drop, reverse}
use Rattle.upc_types.specs.View.{view_completed, view_member}
use Rattle.upc_types.specs.Layout.{members_from, most_bytes}
use Rattle.upc_types.proofs.structs.Structs.members_layout.Given as goal

abbrev pub invariant-loop-member : goal.invariant-loop-member
invariant-loop-member l = record {
  rest : members_from (reverse (map view_completed l.self.completed.items)) l.end l.align (map view_member (drop l.member-index l.members)) ≡ members_from (reverse (map view_completed l.self.completed.items)) 0 1 (map view_member l.members);
  near : l.end ≤ most_bytes;
  some : 0 < l.member-index → 0 < l.end;
  low : 0 < l.align;
  high : l.align ≤ 16;
}
