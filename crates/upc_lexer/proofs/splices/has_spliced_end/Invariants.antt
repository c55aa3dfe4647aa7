use Rattle.std.proofs.Common.{◌≡◌, drop}
use Rattle.upc_lexer.specs.Splices.{has_spliced_end}
use Rattle.upc_lexer.proofs.splices.has_spliced_end.Given as goal

-- such an end stands in the bytes where one stands in those that are left
abbrev pub invariant-loop-at : goal.invariant-loop-at
invariant-loop-at l = has_spliced_end (drop l.at l.bytes) ≡ has_spliced_end l.bytes
