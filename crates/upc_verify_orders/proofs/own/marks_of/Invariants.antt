use Rattle.std.proofs.Common.{◌≡◌, length, take}
use Rattle.upc_values.specs.Lists.{Each}
use Rattle.upc_verify_orders.specs.code.Found.{taken}
use Rattle.upc_verify_orders.specs.layer.Numbers.{number_in, marks_by}
use Rattle.upc_verify_orders.specs.code.Program.{IsMark}
use Rattle.upc_verify_orders.proofs.own.marks_of.Given as goal

abbrev pub invariant-loop-i : goal.invariant-loop-i
invariant-loop-i l = record {
  marks : l.list.items ≡ marks_by (number_in l.operations) l.thread (taken l.operations (take l.i l.at));
  fit : Each (IsMark (length l.operations)) l.list.items;
}
