use Rattle.std.proofs.Common.{◌≡◌}
use Rattle.upc_types.specs.ViewStructs.{view_structs}
use Rattle.upc_types.proofs.structs.Structs.hold_cells.Given as goal

abbrev pub invariant-loop-place : goal.invariant-loop-place
invariant-loop-place l = view_structs l.self ≡ view_structs l.fn.self
