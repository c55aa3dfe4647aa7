-- What an evaluation leads to.
use Rattle.std.specs.Prelude.{◌≡◌, ℤ}
use Rattle.thread_steps.specs.States.{Res, Over}
use Rattle.source_meaning.specs.Running.{Running}
use Rattle.upc_meaning_state.specs.declared.progress.Step.{Step}
use Rattle.upc_meaning_state.specs.declared.progress.Step.TheVariants.{Gives, Ends}
use Rattle.upc_meaning_state.specs.layer.Came.{state_seen}
use Rattle.upc_meaning_work.specs.layer.Seen.{Seen, meant}
use Rattle.upc_meaning_work.specs.layer.ViewItems.{flow_seen, listed}
use Rattle.upc_meaning_work.specs.declared.evaluation.Evaluation.{Evaluation}

-- An evaluation, seen without where it lies in memory.
abbrev pub seen : Evaluation → Seen
seen m = record {
  works = listed m.works;
  values = m.values;
  flow = flow_seen m.flow;
  free = m.free;
  state = state_seen m.progress;
}

-- An evaluation has gone on: what is left gives this result, or the thread has ended, and that is the result.
abbrev pub Went : Running → Res ℤ → Step (Unit {0}) → Evaluation → Type 0
Went ρ r (Gives u) m = r ≡ meant ρ (seen m)
Went ρ r (Ends e) m = r ≡ Over e (state_seen m.progress)
