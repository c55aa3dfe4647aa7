-- What a step of a thread gives, or how it ends the thread.
use Rattle.std.specs.Prelude.{◌≡◌}
use Rattle.thread_steps.specs.States.{State, Res, Val, Over}
use Rattle.upc_meaning_state.specs.declared.progress.Step.{Step}
use Rattle.upc_meaning_state.specs.declared.progress.Step.TheVariants.{Gives, Ends}
use Rattle.upc_meaning_state.specs.declared.progress.Progress.{Progress}

-- The state of a thread, seen without where its actions and replies lie in memory.
abbrev pub state_seen : Progress → State
state_seen p = record {
  store = p.store;
  ticks = p.ticks;
  notified = p.notified;
  actions = p.actions.items;
  replies = p.replies.now;
}

-- A step has given a value, and this is the state after it, or the thread has ended in this state.
abbrev pub Came : {A : Type 0} → Res A → Step A → Progress → Type 0
Came r (Gives a) q = r ≡ Val a (state_seen q)
Came r (Ends e) q = r ≡ Over e (state_seen q)
