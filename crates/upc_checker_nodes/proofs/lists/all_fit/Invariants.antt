use Rattle.std.proofs.Common.{◌≡◌, drop, map}
use Rattle.upc_types.specs.View.{view}
use Rattle.typed_tree.specs.ViewTree.{attr_seen}
use Rattle.typing_rules.specs.Rules as r
use Rattle.upc_checker_nodes.proofs.lists.all_fit.Given as goal

-- what is left decides
abbrev pub invariant-loop-x : goal.invariant-loop-x
invariant-loop-x l =
    r.all_fit (view l.t) (map attr_seen l.values) ≡ r.all_fit (view l.t) (map attr_seen (drop l.x-index l.values))
