use Rattle.std.proofs.Common.{◌≡◌, drop}
use Rattle.upc_lexer.specs.Splices.{has_trigraph}
use Rattle.upc_lexer.proofs.splices.has_trigraph.Given as goal

-- a trigraph stands in the bytes where one stands in those that are left
abbrev pub invariant-loop-at : goal.invariant-loop-at
invariant-loop-at l = has_trigraph (drop l.at l.bytes) ≡ has_trigraph l.bytes
