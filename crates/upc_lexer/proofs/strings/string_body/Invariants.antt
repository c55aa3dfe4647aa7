use Rattle.std.proofs.Common.{◌≡◌, ◌-◌, ◌≤◌, Some, length, take}
use Rattle.upc_lexer.specs.Strings.{string_value}
use Rattle.upc_lexer.proofs.strings.string_body.Given as goal

abbrev pub invariant-loop-byte : goal.invariant-loop-byte
invariant-loop-byte l = record {
  within : l.at ≤ length l.inside;
  value_is : string_value (take l.at l.inside) ≡ Some l.value;
}

abbrev pub decreases-loop-byte : goal.decreases-loop-byte
decreases-loop-byte l = length l.inside - l.at
