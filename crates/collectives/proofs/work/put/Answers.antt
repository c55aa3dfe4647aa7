use Rattle.std.proofs.Common.{sym}
use Rattle.collectives.proofs.work.put.Goals as goal

pub returns-in-Ok-clause-rest : goal.returns-in-Ok-clause-rest
returns-in-Ok-clause-rest c = λ threads shapes me. sym c.in-Ok.ensures.done
