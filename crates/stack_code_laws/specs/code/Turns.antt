-- How the notifies and waits of a thread of code follow one another.
use Rattle.std.specs.Prelude.{List, [], ◌∷◌, ◌++◌}
use Rattle.upc_values.specs.declared.action.Action.{Action}
use Rattle.upc_values.specs.declared.record.ToldEnd.{ToldEnd}
use Rattle.upc_values.specs.declared.record.ToldEnd.TheVariants.{Wants}
use Rattle.upc_values.specs.Outcomes.{Outcome}
use Rattle.thread_steps.specs.layer.Fronts.{IsInTurn}

-- The action that a thread wants, if its end is that it wants one.
abbrev pub wanted_by : ToldEnd → List Action
wanted_by (Wants a) = a ∷ []
wanted_by e = []

-- Notifies and waits alternate, beginning with a notify, in what a thread did with what it wants (UPC 6.6.1).
abbrev pub TakesTurns : Outcome → Type 0
TakesTurns outcome = IsInTurn (outcome.actions ++ wanted_by outcome.«end»)
