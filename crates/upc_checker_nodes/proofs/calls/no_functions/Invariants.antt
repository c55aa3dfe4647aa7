use Rattle.std.proofs.Common.{◌≡◌, drop, map}
use Rattle.typed_tree.specs.ViewTree.{attr_seen}
use Rattle.typing_rules.specs.Rules as r
use Rattle.upc_checker_nodes.proofs.calls.no_functions.Given as goal

-- what is left decides
abbrev pub invariant-loop-i : goal.invariant-loop-i
invariant-loop-i l =
    r.no_functions (map attr_seen l.args) l.parameters
    ≡ r.no_functions (map attr_seen (drop l.i l.args)) (drop l.i l.parameters)
