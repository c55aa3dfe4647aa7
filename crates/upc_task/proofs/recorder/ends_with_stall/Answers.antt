use Rattle.std.proofs.Common.{ap, ◌∙◌}
use Rattle.upc_values.specs.Records.{is_stall}
use Rattle.upc_values.proofs.Records.{last-get}
use Rattle.upc_task.proofs.recorder.ends_with_stall.Goals as goal

pub returns-in-Some : goal.returns-in-Some
returns-in-Some c = c.is_stall.ensures ∙ ap is_stall (c.in-Some.ensures ∙ last-get c.args.items.now.items)

pub returns-in-None : goal.returns-in-None
returns-in-None c = ap is_stall (c.in-None.ensures ∙ last-get c.args.items.now.items)
