-- What the threads' sources come to on recorded replies, as the program has it.
use Rattle.std.specs.Prelude.{ℕ, ◌≡◌, ◌<◌, List, length}
use Rattle.upc_values.specs.declared.journal.Journal.{Journal}
use Rattle.upc_values.specs.Records.{replies_of}
use Rattle.upc_values.specs.Orders.{record_of}
use Rattle.typed_tree.specs.Programs.{Checked}
use Rattle.upc_verify_judge.specs.declared.meant.Meant.{Meant}
use Rattle.upc_verify_judge.specs.layer.Meanings.{outcome_in}
use Rattle.upc_verify.specs.Verdicts.{meaning}

-- One for each thread of the program: what its source comes to on the replies of its record.
pub record AreMeant (program : Checked) (j : Journal) (list : List Meant) : Type 0 where
  pub many : length list ≡ program.threads
  pub each : (t : ℕ) → t < program.threads → outcome_in list t ≡ meaning program j.budget t (replies_of (record_of j t))
