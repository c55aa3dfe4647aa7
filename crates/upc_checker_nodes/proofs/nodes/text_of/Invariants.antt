use Rattle.std.proofs.Common.{◌≡◌, ◌∷◌, ◌++◌, drop}
use Rattle.upc_checker_nodes.specs.Parts as walks
use Rattle.upc_checker_nodes.proofs.nodes.text_of.Given as goal

abbrev pub invariant-loop-literal : goal.invariant-loop-literal
invariant-loop-literal l = l.text ++ walks.joined (drop l.literal-index l.more) ≡ walks.joined (l.fn.first ∷ l.more)
