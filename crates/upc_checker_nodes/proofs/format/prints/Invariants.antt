use Rattle.std.proofs.Common.{◌≡◌, ◌≤◌, drop, map}
use Rattle.typing_rules.specs.declared.format.Awaits.TheVariants.{Anything}
use Rattle.typed_tree.specs.ViewTree.{attr_seen}
use Rattle.typing_rules.specs.Format as pure
use Rattle.typing_rules.specs.Attributes.{base}
use Rattle.upc_checker_nodes.proofs.format.prints.Given as goal

-- what is left of the text and of the values decides
abbrev pub invariant-loop-b : goal.invariant-loop-b
invariant-loop-b l = record {
  rest : pure.prints_by (pure.conversions Anything l.format) (map base (map attr_seen l.args))
      ≡ pure.prints_by (pure.conversions l.state (drop l.b-index l.format))
      (map base (map attr_seen (drop l.used l.args)));
  few : l.used ≤ l.b-index;
}
