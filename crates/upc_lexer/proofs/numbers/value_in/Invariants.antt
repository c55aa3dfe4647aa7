use Rattle.std.proofs.Common.{◌≡◌, ◌<◌, ◌^◌, take}
use Rattle.upc_lexer.specs.Numbers.{value_in}
use Rattle.upc_lexer.proofs.numbers.value_in.Given as goal

abbrev pub invariant-loop-digit : goal.invariant-loop-digit
invariant-loop-digit l = record { value_is : l.value ≡ value_in l.base (take l.digit-index l.digits); fits : l.value < 2 ^ 64 }
