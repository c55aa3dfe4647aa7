use Rattle.std.proofs.Common.{◌≡◌}
use Rattle.upc_values.specs.Drain.{Walk, walked, walked_from}
use Rattle.order_builder.specs.code.Views.{IsShown}
use Rattle.order_builder.proofs.records.drained.Given as goal

-- the walk so far, from which the items that are left lead to the walk over all
abbrev pub invariant-loop-item : goal.invariant-loop-item
invariant-loop-item l =
    (w : Walk) × (IsShown w l.walk × (walked_from l.thread w l.item-iterator ≡ walked l.thread l.items))
