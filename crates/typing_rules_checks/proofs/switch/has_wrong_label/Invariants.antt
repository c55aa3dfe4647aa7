use Rattle.std.proofs.Common.{◌≡◌, false, drop}
use Rattle.typing_rules.specs.Rules as r
use Rattle.typing_rules_checks.specs.code.Labels.{AreValues}
use Rattle.typing_rules_checks.proofs.switch.has_wrong_label.Given as goal

-- the labels from here on are right, and the set has their values
abbrev pub invariant-loop-at : goal.invariant-loop-at
invariant-loop-at l = record {
  values : AreValues l.kind (drop l.at l.labels) l.values;
  right : r.has_wrong_label l.kind (drop l.at l.labels) ≡ false;
}
