use Rattle.std.proofs.Common.{◌≡◌, drop}
use Rattle.std.specs.List.{list_any}
use Rattle.typing_rules.specs.Rules as r
use Rattle.typing_rules_checks.proofs.declarations.any_is_no_size.Given as goal

-- what is left decides
abbrev pub invariant-loop-k : goal.invariant-loop-k
invariant-loop-k l = list_any r.is_no_array_size l.sizes ≡ list_any r.is_no_array_size (drop l.k-index l.sizes)
