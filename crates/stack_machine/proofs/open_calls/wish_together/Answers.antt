use Rattle.collectives.specs.layer.Walks.{rest}
use Rattle.stack_machine.proofs.CollectivesOf.{wish_acts, wish_ends}
use Rattle.stack_machine.proofs.open_calls.wish_together.Goals as goal

pub returns-in-Ok-Act : goal.returns-in-Ok-Act
returns-in-Ok-Act c = λ shapes.
    wish_acts (rest shapes c.args.collective.now) c.in-Ok-Act.action
    ((rw c.in-Ok-Act.field-0-is at c.in-Ok-Act.ensures.wish) shapes)

pub returns-in-Ok-Finished : goal.returns-in-Ok-Finished
returns-in-Ok-Finished c = λ shapes.
    wish_ends (rest shapes c.args.collective.now)
    ((rw c.in-Ok-Finished.field-0-is at c.in-Ok-Finished.ensures.wish) shapes)
