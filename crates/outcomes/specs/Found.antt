-- What the runs of a program by lists of picks show.
use Rattle.std.specs.Prelude.{ℕ, ◌≡◌, List, map}
use Rattle.upc_values.specs.Lists.{Each}
use Rattle.typed_tree.specs.Programs.{Checked}
use Rattle.upc_task.specs.declared.limits.Limits.{Limits}
use Rattle.program_runs.specs.Picked.{IsRunByPicks}
use Rattle.outcomes.specs.Tally.{Trial, Listed, IsTally}

-- The list says what runs of the program show: there is a sound run by each of these lists of picks, in their order,
-- and the list is what these runs show.
pub record IsFound (program : Checked) (l : Limits) (schedules : List (List ℕ)) (list : List Listed) : Type 0 where
  pub trials : List Trial
  pub by : map (λ t. t.picks) trials ≡ schedules
  pub sound : Each (λ t. IsRunByPicks program l t.picks t.journal) trials
  pub tally : IsTally trials list
