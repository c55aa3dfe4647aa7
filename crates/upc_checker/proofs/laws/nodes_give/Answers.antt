use Rattle.upc_checker.proofs.TypedLaws as laws
use Rattle.upc_checker.proofs.laws.nodes_give.Goals as goal

pub returns : goal.returns
returns c = record {
  operands = laws.operands_fit;
  assigned = laws.assigned_is_modifiable;
  objects = laws.object_is_lvalue;
  calls = laws.call_fits;
  members = laws.member_in_range;
  members_behind = laws.member_behind_in_range;
  literals = laws.literal_in_range;
  layouts = laws.layouts_stay;
}
