use Rattle.std.proofs.Common.{ap, ◌∙◌}
use Rattle.upc_values.specs.Ends.{is_pause}
use Rattle.upc_values.proofs.Records.{last-get}
use Rattle.upc_task.proofs.recorder.ends_with_pause.Goals as goal

pub returns-in-Some : goal.returns-in-Some
returns-in-Some c = c.is_pause.ensures ∙ ap is_pause (c.in-Some.ensures ∙ last-get c.args.items.now.items)

pub returns-in-None : goal.returns-in-None
returns-in-None c = ap is_pause (c.in-None.ensures ∙ last-get c.args.items.now.items)
