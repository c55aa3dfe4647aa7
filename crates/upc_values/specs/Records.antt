-- A thread's record: its items, its actions and their replies.
use Rattle.std.specs.Prelude.{ℕ, ◌+◌, Bool, true, false, List, [], ◌∷◌, Option, Some, None}
use Rattle.upc_values.specs.declared.action.Action.{Action}
use Rattle.upc_values.specs.declared.action.Action.TheVariants.{Beat}
use Rattle.upc_values.specs.declared.action.Reply.{Reply}
use Rattle.upc_values.specs.declared.record.Item.{Item}
use Rattle.upc_values.specs.declared.record.Item.TheVariants.{Did, Stall}

-- The actions of a record, stalls left out.
abbrev pub actions_of : List Item → List Action
actions_of [] = []
actions_of (Did a r ∷ items) = a ∷ actions_of items
actions_of (Stall ∷ items) = actions_of items

-- The replies of a record's actions, in order.
abbrev pub replies_of : List Item → List Reply
replies_of [] = []
replies_of (Did a r ∷ items) = r ∷ replies_of items
replies_of (Stall ∷ items) = replies_of items

-- The last of some items; where there are none, the one before them.
abbrev pub last_from : Option Item → List Item → Option Item
last_from o [] = o
last_from o (x ∷ items) = last_from (Some x) items

-- The last item, if there is one.
abbrev pub last_item : List Item → Option Item
last_item items = last_from None items

-- The item is a Stall.
abbrev pub is_stall : Option Item → Bool
is_stall (Some Stall) = true
is_stall x = false

-- The action is a Beat.
abbrev pub is_beat : Action → Bool
is_beat Beat = true
is_beat a = false

-- The item is a Beat.
abbrev pub is_beat_item : Option Item → Bool
is_beat_item (Some (Did a r)) = is_beat a
is_beat_item x = false

-- How many of the actions are Beats.
abbrev pub beats : List Action → ℕ
beats [] = 0
beats (Beat ∷ actions) = beats actions + 1
beats (a ∷ actions) = beats actions
