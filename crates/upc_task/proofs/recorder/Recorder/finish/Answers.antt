use Rattle.upc_task.proofs.Options.{some-is}
use Rattle.upc_task.proofs.Recorders.{recorded-finished}
use Rattle.upc_task.proofs.recorder.Recorder.finish.Goals as goal

pub returns-clause-recorded : goal.returns-clause-recorded
returns-clause-recorded g c = λ o p f h.
    let k = c.args.self.now in let w = some-is k.wish c.requires.ready.1 in
    recorded-finished o p f k w.0 c.args.«end» h w.1 (c.requires.may.1 o p f h) c.requires.may.0
