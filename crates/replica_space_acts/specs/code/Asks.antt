-- What a thread may ask of a run, and what comes of it.
use Rattle.std.specs.Prelude.{ℕ, ◌≡◌, ◌<◌, true, List, Option}
use Rattle.upc_values.specs.declared.action.Action.{Action}
use Rattle.upc_values.specs.declared.action.Reply.{Reply}
use Rattle.upc_values.specs.Openings.{Opening}
use Rattle.upc_values.specs.Formed.{IsWellFormed}
use Rattle.memory_history.specs.layer.Turns.{takes_turn}
use Rattle.replica_space.specs.declared.event.Event.{Event}
use Rattle.replica_space.specs.Events.{history_in}
use Rattle.replica_space.specs.Runs.{next_index}
use Rattle.replica_space_acts.specs.layer.Acts.{Acted, IsAnswer}

-- A thread of the run may do the action as its next one, with number i: it is well formed and in turn.
pub record MayAct (o : Opening) (t i : ℕ) (a : Action) (es : List Event) : Type 0 where
  pub below : t < o.threads
  pub asked : IsWellFormed o (history_in es) a
  pub turns : takes_turn (history_in es) t a ≡ true
  pub index : i ≡ next_index t es

-- What has come of the action: it has led from the first events to the second ones, after which the answer fits.
pub record HasActed (o : Opening) (t i : ℕ) (a : Action) (es : List Event) (answer : Option Reply) (new : List Event)
    : Type 0 where
  pub acted : Acted o t i a es answer new
  pub answered : IsAnswer o t a new answer
