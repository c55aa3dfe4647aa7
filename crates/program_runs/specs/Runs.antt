-- What it is to be a run of a program.
use Rattle.std.specs.Prelude.{◌≡◌}
use Rattle.upc_values.specs.declared.journal.Journal.{Journal}
use Rattle.upc_values.specs.Ends.{AreSpent}
use Rattle.upc_values.specs.Sound.{IsSound}
use Rattle.upc_values.specs.Consistent.{begins}
use Rattle.upc_values.specs.Waits.{WaitsFollow}
use Rattle.upc_values.specs.Locks.{LocksExclude}
use Rattle.upc_values.specs.Together.{CollectivesHold}
use Rattle.typed_tree.specs.Programs.{Checked}
use Rattle.source_meaning.specs.Laws.{opening_of}
use Rattle.source_meaning.specs.Threads.{thread_outcome}
use Rattle.order_builder.specs.Named.{AreConsistentOrders, orders_of}
use Rattle.upc_task.specs.declared.limits.Limits.{Limits}
use Rattle.upc_rounds_teams.specs.Rounds.{EndsInTime}

-- The journal is a sound run of the program within these limits: each thread's record is what its source gives on the
-- recorded replies, and one legal history takes these records as the write buffers drain. The strict order and the
-- orders of the threads that this gives make the records UPC consistent (UPC Appendix B). Each thread's p-th wait
-- stands after the p-th notify of all threads; between two acquisitions of one lock its first holder lets it go; a
-- thread whose ticks are spent has had as many as the budget; and each collective call that is synchronised at both
-- ends, and whose destination shares no cell with its source, leaves in its destination what UPC 7.3 says.
pub record IsRunOf (program : Checked) (l : Limits) (j : Journal) : Type 0 where
  pub threads : j.threads ≡ l.threads
  pub budget : j.budget ≡ l.budget
  pub actions : j.actions ≡ l.actions
  pub sound : IsSound (opening_of program) (λ budget t. thread_outcome program t budget) j
  pub orders : AreConsistentOrders (begins (opening_of program) j.history) j (orders_of j)
  pub waits : WaitsFollow l.threads j.history
  pub locks : LocksExclude j.history
  pub spent : AreSpent l.budget j.strands
  pub collectives : CollectivesHold (opening_of program) j.history

-- A sound run of the program within these limits that went round by round, and ended in the round in which it had to.
pub record IsRunByRounds (program : Checked) (l : Limits) (j : Journal) : Type 0 where
  pub run : IsRunOf program l j
  pub rounds : EndsInTime (opening_of program) (λ budget t. thread_outcome program t budget) j
