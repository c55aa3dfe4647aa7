-- The actions that need no lock, no new object, no collective call and no value at a barrier.
use Rattle.std.specs.Prelude.{◌≡◌, Bool, true, false, List}
use Rattle.upc_values.specs.declared.scalar.Mark.{Mark}
use Rattle.upc_values.specs.declared.scalar.Mark.TheVariants.{Given}
use Rattle.upc_values.specs.declared.action.Action.{Action}
use Rattle.upc_values.specs.declared.action.Action.TheVariants.{Read, Write, Fence, Beat, Notify, Wait, Print}
use Rattle.upc_values.specs.declared.journal.Entry.{Entry}
use Rattle.upc_values.specs.Lists.{Each}

-- The mark carries no value (UPC 6.6.1).
abbrev pub is_unvalued : Mark → Bool
is_unvalued (Given v) = false
is_unvalued m = true

-- The action is a read, a write, a fence, a Beat, a print, or a notify or a wait without a value.
abbrev pub is_basic : Action → Bool
is_basic (Read l s) = true
is_basic (Write s l v) = true
is_basic Fence = true
is_basic Beat = true
is_basic (Notify m) = is_unvalued m
is_basic (Wait m) = is_unvalued m
is_basic (Print x) = true
is_basic a = false

-- Each entry is of an action that needs no lock, no new object, no collective call and no value at a barrier.
abbrev pub AreBasic : List Entry → Type 0
AreBasic es = Each (λ e. is_basic e.action ≡ true) es
