use Rattle.std.proofs.Common.{refl, ap, ◌∙◌}
use Rattle.typed_tree.specs.Tree as k
use Rattle.upc_checker_nodes.proofs.nodes.finish_character.Goals as goal

pub returns : goal.returns
returns c = λ φ. (refl, c.in_ok-literal.ensures ∙ ap (λ a. k.Is c.args.at a k.Literal) (c.character.ensures φ))
