use Rattle.std.proofs.Common.{◌∙◌}
use Rattle.collectives.specs.layer.Walks.{rest}
use Rattle.stack_machine.proofs.CollectivesOf.{kind_as}
use Rattle.stack_machine.proofs.open_calls.reads_together.Goals as goal

pub returns : goal.returns
returns c = λ shapes. c.reads.ensures shapes ∙ kind_as (rest shapes c.args.collective.now)
