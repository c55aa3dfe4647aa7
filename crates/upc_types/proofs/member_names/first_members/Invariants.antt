use Rattle.std.proofs.Common.{◌≡◌, ℕ, List, map, take}
use Rattle.upc_types.specs.layer.Named.{at_name, first_named}
use Rattle.upc_types.specs.View.{view_member}
use Rattle.upc_types.proofs.member_names.first_members.Given as goal

abbrev pub invariant-loop-member : goal.invariant-loop-member
invariant-loop-member l = record {
  index : l.number ≡ l.member-index;
  first : (q : List ℕ) → at_name l.names (λ k. k.items) q ≡ first_named (map view_member (take l.member-index l.members)) q;
}
