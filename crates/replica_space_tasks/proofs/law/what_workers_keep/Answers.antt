use Rattle.replica_space_tasks.proofs.Events.{run-delivers}
use Rattle.replica_space_tasks.proofs.Keeping.{kept-seen, kept-asks, kept-strand}
use Rattle.replica_space_tasks.proofs.law.what_workers_keep.Goals as goal

pub returns-clause-others : goal.returns-clause-others
returns-clause-others c = λ o p f events more k none h. kept-seen o p f events more k none h

pub returns-clause-asks : goal.returns-clause-asks
returns-clause-asks c = λ o p f events k a valid run formed h w. kept-asks o p f events k a run formed h w

pub returns-clause-strands : goal.returns-clause-strands
returns-clause-strands c = λ o p f events k h q. kept-strand o p f events k h q

pub returns-clause-delivers : goal.returns-clause-delivers
returns-clause-delivers c = λ o events run h. run-delivers o events run h
