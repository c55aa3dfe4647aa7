use Rattle.std.proofs.Common.{refl, ap, ◌∙◌}
use Rattle.typing_rules.specs.Attributes.{attr}
use Rattle.typing_rules.specs.Nodes as n
use Rattle.typed_tree.specs.Tree as k
use Rattle.upc_checker_nodes.proofs.nodes.finish_number.Goals as goal

pub returns : goal.returns
returns c = λ φ. (refl, c.in_ok-literal.ensures ∙ ap (λ a. k.Is c.args.at a k.Literal) (c.number-attr.ensures φ ∙ ap (λ kind. attr φ (n.Number kind c.args.value)) c.number_kind.ensures))
