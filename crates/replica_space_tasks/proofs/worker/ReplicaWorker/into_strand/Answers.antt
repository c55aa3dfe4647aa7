use Rattle.replica_space_tasks.proofs.worker.ReplicaWorker.into_strand.Goals as goal

pub returns : goal.returns
returns c = λ o p f events h. c.into_strand.ensures o p f h.recorded
