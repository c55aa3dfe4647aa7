use Rattle.std.proofs.Common.{◌≡◌, ◌-◌, drop, length}
use Rattle.upc_lexer.specs.Strings.{has_octal}
use Rattle.upc_lexer.proofs.strings.has_octal.Given as goal

-- an octal escape stands in the bytes where one stands in those that are left
abbrev pub invariant-loop-at : goal.invariant-loop-at
invariant-loop-at l = has_octal (drop l.at l.bytes) ≡ has_octal l.bytes

abbrev pub decreases-loop-at : goal.decreases-loop-at
decreases-loop-at l = length l.bytes - l.at
