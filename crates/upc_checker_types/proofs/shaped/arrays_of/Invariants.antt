use Rattle.std.proofs.Common.{◌≡◌, drop}
use Rattle.upc_types.specs.View.{view}
use Rattle.upc_checker_types.specs.Specifiers as pure
use Rattle.upc_checker_types.proofs.shaped.arrays_of.Given as goal

abbrev pub invariant-loop-i : goal.invariant-loop-i
invariant-loop-i l = view l.t ≡ pure.arrays_of (view l.fn.t) (drop l.i l.sizes)
