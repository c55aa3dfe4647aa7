use Rattle.std.proofs.Common.{◌≡◌, drop}
use Rattle.upc_macros.specs.declared.continuation.Reading.TheVariants.{Blank}
use Rattle.upc_macros.specs.Continuation.{goes_on}
use Rattle.upc_macros.proofs.continuation.goes_on.Given as goal

-- what is left to read decides
abbrev pub invariant-loop-byte : goal.invariant-loop-byte
invariant-loop-byte l = goes_on l.reading (drop l.byte-index l.bytes) ≡ goes_on Blank l.bytes
