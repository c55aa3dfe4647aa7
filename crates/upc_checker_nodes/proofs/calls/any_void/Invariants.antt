use Rattle.std.proofs.Common.{◌≡◌, drop, map}
use Rattle.std.specs.List.{list_any}
use Rattle.typed_tree.specs.ViewTree.{attr_seen}
use Rattle.typing_rules.specs.Rules as r
use Rattle.upc_checker_nodes.proofs.calls.any_void.Given as goal

-- what is left decides
abbrev pub invariant-loop-x : goal.invariant-loop-x
invariant-loop-x l =
    list_any r.gives_void (map attr_seen l.args) ≡ list_any r.gives_void (map attr_seen (drop l.x-index l.args))
