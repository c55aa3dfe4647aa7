use Rattle.std.proofs.Common.{◌≡◌, true, take}
use Rattle.upc_macros.specs.Spelling.{are_alike}
use Rattle.upc_macros.proofs.directives.are_alike.Given as goal

abbrev pub invariant-loop-i : goal.invariant-loop-i
invariant-loop-i l = are_alike l.source (take l.i l.old) (take l.i l.new) ≡ true
