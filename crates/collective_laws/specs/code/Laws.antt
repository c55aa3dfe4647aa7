-- What the collective calls of every program leave in a history (UPC 7.3).
use Rattle.std.specs.Prelude.{◌<◌}
use Rattle.typed_tree.specs.Programs.{Checked}
use Rattle.upc_values.specs.declared.journal.Journal.{Journal}
use Rattle.upc_values.specs.Openings.{IsOpening}
use Rattle.upc_values.specs.Sound.{IsSound}
use Rattle.upc_values.specs.Together.{CollectivesHold}
use Rattle.source_meaning.specs.Threads.{thread_outcome}
use Rattle.source_meaning.specs.Laws.{opening_of}

-- In each sound journal of a program that begins with an opening, with a budget of at least one tick, collective calls
-- leave their values.
pub record CollectivesHoldIn (program : Checked) : Type 0 where
  pub holds :
      (j : Journal) → IsOpening (opening_of program)
      → IsSound (opening_of program) (λ budget t. thread_outcome program t budget) j → 0 < j.budget
      → CollectivesHold (opening_of program) j.history
