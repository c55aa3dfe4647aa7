-- What comes first in a list of actions, and how notifies and waits follow one another.
use Rattle.std.specs.Prelude.{◌≡◌, Bool, true, false, List, ◌++◌, Option, Some, None}
use Rattle.std.specs.List.{fold}
use Rattle.upc_values.specs.declared.action.Action.{Action}
use Rattle.upc_values.specs.declared.action.Action.TheVariants.{Notify, Wait}

-- The actions begin with these.
abbrev pub Begins : (front all : List Action) → Type 0
Begins front all = (rest : List Action) × (all ≡ front ++ rest)

-- Whether a notify is open after an action; none where the action stands out of turn (UPC 6.6.1).
abbrev pub turned : Option Bool → Action → Option Bool
turned (Some false) (Notify mark) = Some true
turned (Some true) (Wait mark) = Some false
turned state (Notify mark) = None
turned state (Wait mark) = None
turned state a = state

-- Notifies and waits alternate, beginning with a notify: none of the actions stands out of turn (UPC 6.6.1).
abbrev pub IsInTurn : List Action → Type 0
IsInTurn actions = (now : Bool) × (fold turned (Some false) actions ≡ Some now)
