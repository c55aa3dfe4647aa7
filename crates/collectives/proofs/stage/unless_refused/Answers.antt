use Rattle.collectives.proofs.Following.{goes_on}
use Rattle.upc_values.specs.layer.Parts.{unless_refused}
use Rattle.collectives.proofs.Following.{refuses_both}
use Rattle.collectives.specs.layer.Walks.{stage_rest}
use Rattle.collectives.proofs.stage.unless_refused.Goals as goal

pub returns-in-Ok-clause-rest : goal.returns-in-Ok-clause-rest
returns-in-Ok-clause-rest c = λ threads shapes me.
    goes_on c.args.reply.now (stage_rest threads shapes me c.args.next) c.in-Ok.ensures.done

pub returns-in-Err-clause-refused : goal.returns-in-Err-clause-refused
returns-in-Err-clause-refused c = λ go. refuses_both (unless_refused c.args.reply.now) go c.in-Err.e c.in-Err.ensures.refused
