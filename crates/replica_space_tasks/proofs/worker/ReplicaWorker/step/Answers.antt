use Rattle.std.proofs.Common.{ap}
use Rattle.replica_space_tasks.proofs.Keeping.{kept-moved}
use Rattle.replica_space_tasks.proofs.worker.ReplicaWorker.step.Goals as goal

pub returns-in-Some-clause-kept : goal.returns-in-Some-clause-kept
returns-in-Some-clause-kept c = λ p f h.
    let k = c.args.self.now.recorder in let d = c.finish.ensures in
    kept-moved c.args.run.now.0 p f c.args.run.now.1 k c.finish.new.self (ap (λ z. z.thread) d.is) (ap (λ z. z.next) d.is)
    (ap (λ z. z.items.items) d.is) (d.recorded c.args.run.now.0 p f h.recorded) h
