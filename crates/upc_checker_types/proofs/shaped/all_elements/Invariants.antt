use Rattle.std.proofs.Common.{◌≡◌, ◌≤◌, drop}
use Rattle.upc_checker_types.specs.Specifiers as pure
use Rattle.upc_checker_types.proofs.shaped.all_elements.Given as goal

abbrev pub invariant-loop-i : goal.invariant-loop-i
invariant-loop-i l = record {
  rest : l.all ≡ pure.all_elements (drop l.i l.sizes);
  most : l.all ≤ 16777217;
}
