use Rattle.std.proofs.Common.{◌≡◌, map, take}
use Rattle.upc_values.specs.Operations.{Place}
use Rattle.upc_verify_orders.specs.code.Keys.{looked}
use Rattle.upc_verify_orders.specs.layer.Numbers.{first_at, number_in}
use Rattle.upc_verify_orders.proofs.numbers.numbers_of.Given as goal

abbrev pub invariant-loop-i : goal.invariant-loop-i
invariant-loop-i l = record {
  kept : (p : Place) → looked l.firsts p ≡ first_at p 0 (take l.i l.operations);
  numbers : l.numbers.items ≡ map (λ o. number_in l.operations o.place) (take l.i l.operations);
}
