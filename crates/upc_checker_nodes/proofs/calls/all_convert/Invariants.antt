use Rattle.std.proofs.Common.{◌≡◌, drop, map}
use Rattle.upc_types.specs.View.{view}
use Rattle.typed_tree.specs.ViewTree.{attr_seen}
use Rattle.typing_rules.specs.Rules as r
use Rattle.upc_checker_nodes.proofs.calls.all_convert.Given as goal

-- what is left decides
abbrev pub invariant-loop-i : goal.invariant-loop-i
invariant-loop-i l =
    r.all_convert (map attr_seen l.args) (map view l.types)
    ≡ r.all_convert (map attr_seen (drop l.i l.args)) (map view (drop l.i l.types))
