use Rattle.upc_values.specs.Expansion.{after_reply}
use Rattle.collectives.specs.layer.Walks.{rest}
use Rattle.stack_machine.proofs.CollectivesOf.{refuses_as}
use Rattle.stack_machine.proofs.open_calls.take_together.Goals as goal

pub returns-in-Err-clause-refused : goal.returns-in-Err-clause-refused
returns-in-Err-clause-refused c =
    refuses_as c.in-Err.e (after_reply (rest c.args.shapes.now c.args.collective.now) c.args.reply.now)
    c.in-Err.ensures.refused
