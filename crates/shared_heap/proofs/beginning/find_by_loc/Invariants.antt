use Rattle.std.proofs.Common.{◌≡◌, drop}
use Rattle.block_layout.specs.declared.place.Loc.{Loc}
use Rattle.upc_values.specs.Openings.{given}
use Rattle.shared_heap.proofs.beginning.find_by_loc.Given as goal

abbrev pub invariant-loop-at : goal.invariant-loop-at
invariant-loop-at l = (k : Loc) → given k l.cells ≡ given k (drop l.at l.initials)
