use Rattle.std.proofs.Common.{[]}
use Rattle.replica_space_tasks.proofs.Keeping.{inside-moved, inside-new, kept-of, with}
use Rattle.replica_space_tasks.proofs.worker.ReplicaWorker.make.Goals as goal

pub returns-clause-kept : goal.returns-clause-kept
returns-clause-kept c = λ o f events has none.
    let k = c.in_ok-recorder.recorder in let e = c.in_ok-recorder.ensures in let t = c.args.thread in
    kept-of o c.args.code.now f events (with k) (e.recorded o f has)
    (inside-moved o f events t k.thread 0 k.next [] k.items.items e.new.0 e.begins.1 e.fresh.0 (inside-new o f events t none))
