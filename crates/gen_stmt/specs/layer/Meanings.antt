-- What it is for the code of a program to mean what the program means.
use Rattle.std.specs.Prelude.{ℕ, ◌≡◌, ◌<◌, ◌↔◌, List}
use Rattle.upc_values.specs.declared.action.Reply.{Reply}
use Rattle.upc_values.specs.Outcomes.{Outcome}
use Rattle.typed_tree.specs.Programs.{Checked}
use Rattle.source_meaning.specs.Threads.{thread_outcome}
use Rattle.stack_code.specs.layer.Codes.{Codes}
use Rattle.stack_code.specs.layer.Outcomes.{CodeMeans}

-- Code means what a program means: each thread, with each budget of at least one tick and on all replies, fitting or
-- not, has the outcome that the program's thread has, places included, and no other.
abbrev pub MeansProgram : Codes → Checked → Type 0
MeansProgram codes program =
    (thread budget : ℕ) (replies : List Reply) (o : Outcome) → 0 < budget
    → CodeMeans codes thread budget replies o ↔ (o ≡ thread_outcome program thread budget replies)
