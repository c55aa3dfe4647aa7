-- What it is to keep a budget of ticks.
use Rattle.std.specs.Prelude.{ℕ, ◌≡◌, ◌≤◌}
use Rattle.upc_values.specs.declared.record.ToldEnd.TheVariants.{OutOfTicks}
use Rattle.upc_values.specs.Outcomes.{Outcome}

-- A thread counts no more ticks than its budget, and where its ticks are out it has counted just so many.
pub record IsWithinBudget (budget : ℕ) (outcome : Outcome) : Type 0 where
  pub ticks : outcome.ticks ≤ budget
  pub spent : outcome.«end» ≡ OutOfTicks → outcome.ticks ≡ budget
