use Rattle.std.proofs.Common.{◌≡◌, [], ap, ◌∙◌, subst}
use Rattle.collectives.specs.code.Reductions.{reduction_in}
use Rattle.collectives.specs.layer.Left.{PrefixesLeft}
use Rattle.collectives.specs.layer.Left.{joined}
use Rattle.upc_values.specs.Expansion.{value_in}
use Rattle.upc_values.specs.layer.Parts as parts
use Rattle.upc_values.specs.Expansions as said
use Rattle.collectives.proofs.prefixes.Prefixes.joined.Goals as goal

pub returns : goal.returns
returns c =
    let s = c.self.inside in
    let v = parts.number_of 0 [] 0 (value_in c.args.reply.now) in
    subst (λ (l : PrefixesLeft). c.join.result ≡ joined l.op l.kind l.so_far v) c.self.view_is
    (c.join.ensures ∙ ap (joined (reduction_in s.op) s.kind s.so_far) c.number_in.ensures)
