use Rattle.upc_outcomes_words.specs.layer.Views.{view_call}
use Rattle.upc_outcomes.proofs.judge.come_to.Goals as goal

pub returns-in-Err : goal.returns-in-Err
returns-in-Err g c = c.stopped.ensures (view_call c.args.call.now) c.args.bytes.now c.in-Err.ensures.refused
