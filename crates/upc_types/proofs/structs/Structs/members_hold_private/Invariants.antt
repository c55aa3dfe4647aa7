use Rattle.std.proofs.Common.{◌≡◌, map, drop, reverse}
use Rattle.upc_types.specs.View.{view_completed, view_member}
use Rattle.upc_types.specs.layer.Parts.{private_in}
use Rattle.upc_types.specs.Layout.{members_hold_private}
use Rattle.upc_types.proofs.structs.Structs.members_hold_private.Given as goal

-- what is left decides
abbrev pub invariant-loop-member : goal.invariant-loop-member
invariant-loop-member l =
    members_hold_private (private_in (reverse (map view_completed l.self.completed.items))) (map view_member l.members) ≡ members_hold_private (private_in (reverse (map view_completed l.self.completed.items))) (map view_member (drop l.member-index l.members))
