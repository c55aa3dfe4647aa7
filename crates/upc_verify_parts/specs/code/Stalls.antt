-- What may follow a Stall, as the program looks for it.
use Rattle.std.specs.Prelude.{◌≡◌, Bool, true, false, List, ◌∷◌, Option}
use Rattle.upc_values.specs.declared.action.Action.{Action}
use Rattle.upc_values.specs.declared.record.Item.{Item}
use Rattle.upc_values.specs.declared.record.Item.TheVariants.{Did, Stall}
use Rattle.upc_values.specs.Strands.{may_wait, StallsStand}

-- The item is a Lock or a Wait.
abbrev pub FollowsStall : Item → Type 0
FollowsStall (Did a r) = may_wait a ≡ true
FollowsStall Stall = ⊥

-- The Stalls stand where they may, after a Stall or not.
abbrev pub StandFrom : Bool → Option Action → List Item → Type 0
StandFrom false want items = StallsStand want items
StandFrom true want items = StallsStand want (Stall ∷ items)
