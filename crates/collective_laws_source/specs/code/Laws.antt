-- What holds of the collective calls of every thread of every program.
use Rattle.std.specs.Prelude.{ℕ, ◌<◌, List}
use Rattle.upc_values.specs.declared.action.Reply.{Reply}
use Rattle.typed_tree.specs.Programs.{Checked}
use Rattle.source_meaning.specs.Threads.{thread_outcome}
use Rattle.source_meaning.specs.Laws.{opening_of}
use Rattle.collective_laws_words.specs.layer.Steps.{steps_by, GoesTogether}

-- Each thread of a program, with a budget of at least one tick, goes through each collective call from 5 to 12 that it
-- begins as the definition of that call says (UPC 7.3).
pub record AllGoTogether (program : Checked) : Type 0 where
  pub each :
      (thread budget : ℕ) (replies : List Reply) → 0 < budget
      → GoesTogether program.threads (opening_of program).shapes thread
      (steps_by (thread_outcome program thread budget replies).actions replies)
