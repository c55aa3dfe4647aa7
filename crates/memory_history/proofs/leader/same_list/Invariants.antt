use Rattle.std.proofs.Common.{◌≡◌, drop}
use Rattle.upc_values.specs.History.{same_list}
use Rattle.memory_history.proofs.leader.same_list.Given as goal

-- those before are the same
abbrev pub invariant-loop-at : goal.invariant-loop-at
invariant-loop-at l = same_list (drop l.at l.a) (drop l.at l.b) ≡ same_list l.a l.b
