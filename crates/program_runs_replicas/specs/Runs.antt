-- What it is to be a run of a program on a memory in which each thread has its own copy.
use Rattle.std.specs.Prelude.{◌≡◌}
use Rattle.upc_values.specs.Ends.{AreSpent}
use Rattle.typed_tree.specs.Programs.{Checked}
use Rattle.source_meaning.specs.Laws.{opening_of}
use Rattle.source_meaning.specs.Threads.{thread_outcome}
use Rattle.upc_task.specs.declared.limits.Limits.{Limits}
use Rattle.replica_space.specs.declared.event.ReplicaJournal.{ReplicaJournal}
use Rattle.replica_space.specs.ReplicaSound.{IsSoundReplica}
use Rattle.replica_space_rounds.specs.ReplicaRounds.{GoesByReplicaRounds}
use Rattle.replica_space_consistent.specs.Consistent.{AreConsistentReplicas}

-- The journal is a sound run of the program within these limits on a memory in which each thread has its own copy and
-- mail from every other thread: each thread's record is what its source gives on the recorded replies, and the events,
-- in which these actions stand with their replies, are a run on such a memory. The strict list and the threads' lists
-- that the events give make it UPC consistent (UPC Appendix B). A thread whose ticks are spent has had as many as the
-- budget. The run went round by round.
pub record IsRunOnReplicas (program : Checked) (l : Limits) (r : ReplicaJournal) : Type 0 where
  pub threads : r.threads ≡ l.threads
  pub budget : r.budget ≡ l.budget
  pub actions : r.actions ≡ l.actions
  pub sound : IsSoundReplica (opening_of program) (λ budget t. thread_outcome program t budget) r
  pub orders : AreConsistentReplicas (opening_of program) r.events
  pub spent : AreSpent l.budget r.strands
  pub rounds : GoesByReplicaRounds (opening_of program) (λ budget t. thread_outcome program t budget) r
