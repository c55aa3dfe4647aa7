-- What it is to be a run of a program by picks.
use Rattle.std.specs.Prelude.{ℕ, List}
use Rattle.upc_values.specs.declared.journal.Journal.{Journal}
use Rattle.typed_tree.specs.Programs.{Checked}
use Rattle.upc_task.specs.declared.limits.Limits.{Limits}
use Rattle.upc_rounds_teams.specs.layer.Course.{IsCourse}
use Rattle.program_runs.specs.Runs.{IsRunOf}

-- A sound run of the program within these limits that went by the picks and then round by round, with no round begun
-- once an end had ended it.
pub record IsRunByPicks (program : Checked) (l : Limits) (picks : List ℕ) (j : Journal) : Type 0 where
  pub run : IsRunOf program l j
  pub course : IsCourse picks j
