use Rattle.upc_task.proofs.Recorders.{recorded-ended}
use Rattle.upc_task.proofs.recorder.Recorder.end_as.Goals as goal

pub returns-clause-recorded : goal.returns-clause-recorded
returns-clause-recorded g c = λ o p f h. recorded-ended o p f c.args.self.now c.args.«end» h c.requires.can
