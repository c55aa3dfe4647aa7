use Rattle.std.proofs.Common.{◌≡◌, length}
use Rattle.upc_values.specs.Drain.{Walk, emptied}
use Rattle.order_builder.specs.code.Views.{IsShown}
use Rattle.order_builder.proofs.walk.Walk.empty.Given as goal

-- the program's walk is one that is emptied to the same one
abbrev pub invariant-loop-oldest : goal.invariant-loop-oldest
invariant-loop-oldest l =
    (w : Walk) → IsShown w l.initial.self → (v : Walk) × (IsShown v l.self × (emptied v ≡ emptied w))

abbrev pub decreases-loop-oldest : goal.decreases-loop-oldest
decreases-loop-oldest l = length l.self.pending.items
