-- When a thread may notify.
use Rattle.std.specs.Prelude.{ℕ, nat_le, Bool, true, List}
use Rattle.upc_values.specs.declared.action.Action.{Action}
use Rattle.upc_values.specs.declared.action.Action.TheVariants.{Notify}
use Rattle.upc_values.specs.declared.journal.Entry.{Entry}
use Rattle.upc_values.specs.History.{notifies, waits}

-- The action keeps the thread's notifies and waits in turn, beginning with a notify: it is no notify, or the thread has
-- waited as often as it has notified in the history; a wait out of turn has no reply there (UPC 6.6.1).
abbrev pub takes_turn : List Entry → ℕ → Action → Bool
takes_turn es thread (Notify mark) = nat_le (notifies thread es) (waits thread es)
takes_turn es thread action = true
