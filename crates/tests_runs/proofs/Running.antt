-- Runs by picks, as runs of which races are told.
use Rattle.std.proofs.Common.{◌≤◌, ℕ, List, sym, subst}
use Rattle.upc_values.specs.declared.journal.Journal.{Journal}
use Rattle.upc_values.specs.Consistent.{FollowsBuffers}
use Rattle.upc_values.specs.Waits.{WaitsFollow}
use Rattle.typed_tree.specs.Programs.{Checked}
use Rattle.upc_task.specs.declared.limits.Limits.{Limits}
use Rattle.program_runs.specs.Picked.{IsRunByPicks}
use Rattle.race_report.specs.Serial.{IsRun}
use Rattle.race_report_runs.proofs.Beginning.{sound-run}

pub picked_is_run : (program : Checked) (l : Limits) (picks : List ℕ) (j : Journal) → IsRunByPicks program l picks j
    → FollowsBuffers j → 1 ≤ l.budget → 1 ≤ l.actions → IsRun j
picked_is_run program l picks j ran follows tick item =
    let is = ran.run in
    sound-run program j is.sound (subst (λ n. 1 ≤ n) (sym is.budget) tick) (subst (λ n. 1 ≤ n) (sym is.actions) item)
    follows (subst (λ n. WaitsFollow n j.history) (sym is.threads) is.waits)
