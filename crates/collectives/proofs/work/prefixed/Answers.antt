use Rattle.std.proofs.Common.{[]}
use Rattle.collectives.proofs.Following.{element_put}
use Rattle.collectives.proofs.Following.{refuses_both}
use Rattle.upc_values.specs.Expansions as said
use Rattle.upc_values.specs.layer.Parts.{unless_refused}
use Rattle.collectives.proofs.work.prefixed.Goals as goal

pub returns-in-Ok-clause-rest : goal.returns-in-Ok-clause-rest
returns-in-Ok-clause-rest c = λ threads shapes me.
    element_put c.args.prefixes c.args.value c.args.reply.now _ c.in-Ok.ensures.done (c.further.ensures threads shapes me)

pub returns-in-Err-clause-refused : goal.returns-in-Err-clause-refused
returns-in-Err-clause-refused c =
    let l = c.args.prefixes in
    refuses_both (unless_refused c.args.reply.now) (λ u. said.totals 0 [] 0 l.op l.kind c.args.value l.parts) c.in-Err.e c.in-Err.ensures.refused
