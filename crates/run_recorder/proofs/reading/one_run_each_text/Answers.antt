use Rattle.run_recorder.proofs.Answering.{one_run_each}
use Rattle.run_recorder.proofs.reading.one_run_each_text.Goals as goal

pub returns : goal.returns
returns c = one_run_each
