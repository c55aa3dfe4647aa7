use Rattle.std.proofs.Common.{◌≡◌, drop, map}
use Rattle.typed_tree.specs.ViewTree.{attr_seen}
use Rattle.typing_rules.specs.Rules as r
use Rattle.upc_checker_nodes.proofs.calls.all_taken.Given as goal

-- what is left decides
abbrev pub invariant-loop-i : goal.invariant-loop-i
invariant-loop-i l =
    r.all_taken (map attr_seen l.args) l.parameters
    ≡ r.all_taken (map attr_seen (drop l.i l.args)) (drop l.i l.parameters)
