use Rattle.std.proofs.Common.{◌≡◌, drop, map}
use Rattle.std.specs.List.{list_any}
use Rattle.typed_tree.specs.ViewStatements.{attr_tested}
use Rattle.typing_rules.specs.Rules as r
use Rattle.upc_checker_nodes.proofs.lists.any_void.Given as goal

-- what is left decides
abbrev pub invariant-loop-arm : goal.invariant-loop-arm
invariant-loop-arm l =
    list_any r.gives_void (map attr_tested l.arms) ≡ list_any r.gives_void (map attr_tested (drop l.arm-index l.arms))
