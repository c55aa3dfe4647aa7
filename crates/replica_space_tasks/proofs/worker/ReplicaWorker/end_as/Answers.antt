use Rattle.std.proofs.Common.{ap}
use Rattle.replica_space_tasks.proofs.Keeping.{kept-moved}
use Rattle.replica_space_tasks.proofs.worker.ReplicaWorker.end_as.Goals as goal

pub returns-clause-kept : goal.returns-clause-kept
returns-clause-kept c = λ p f o events h.
    let k = c.args.self.now.recorder in let e = c.end_as.ensures in
    kept-moved o p f events k c.end_as.new.self (ap (λ z. z.thread) e.is) (ap (λ z. z.next) e.is) (ap (λ z. z.items.items) e.is)
    (e.recorded o p f h.recorded) h
