use Rattle.std.proofs.Common.{◌≡◌, ◌+◌, ◌++◌, length, drop}
use Rattle.race_report.specs.code.Own.{relaxed_first}
use Rattle.race_report.proofs.serial.push_relaxed.Given as goal

-- the names so far and those that are left, and how many they are
abbrev pub invariant-loop-at : goal.invariant-loop-at
invariant-loop-at l = record {
  names :
      l.order.items ++ relaxed_first (drop l.at l.list) ≡ l.initial.order.items ++ relaxed_first l.list;
  many : l.at + length (relaxed_first (drop l.at l.list)) ≡ length (relaxed_first l.list);
}
