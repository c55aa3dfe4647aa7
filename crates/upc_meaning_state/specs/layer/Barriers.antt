-- Barriers (UPC 6.6.1).
use Rattle.upc_text.specs.declared.place.Place.{Place}
use Rattle.upc_values.specs.declared.scalar.Mark.{Mark}
use Rattle.thread_steps.specs.States.{Thread, Doing, ◌>>◌}
use Rattle.thread_steps.specs.Actions.{notify, wait}

-- Both halves of a barrier: a notify, and then a wait (UPC 6.6.1).
unfoldable pub passed : Thread → Place → Mark → Doing (Unit {0})
passed τ at mark = notify τ at mark >> wait τ at mark
