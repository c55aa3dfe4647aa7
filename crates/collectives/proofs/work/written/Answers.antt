use Rattle.collectives.proofs.Following.{cell_refused}
use Rattle.collectives.proofs.work.written.Goals as goal

pub returns-in-Err-clause-refused : goal.returns-in-Err-clause-refused
returns-in-Err-clause-refused c =
    cell_refused c.args.thread.now.shapes.now c.args.copies c.args.value c.args.reply.now c.in-Err.e c.in-Err.ensures.refused
