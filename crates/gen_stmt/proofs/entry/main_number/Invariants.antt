use Rattle.std.proofs.Common.{◌≡◌, ◌+◌, ◌≤◌, map, drop}
use Rattle.typed_tree.specs.ViewStatements.{view_function}
use Rattle.gen_stmt.specs.layer.Programs.{main_number}
use Rattle.gen_stmt.proofs.entry.main_number.Given as goal

abbrev pub invariant-loop-function : goal.invariant-loop-function
invariant-loop-function l = record {
  told :
      l.number + main_number (map view_function (drop l.function-index l.functions))
      ≡ main_number (map view_function l.functions);
  few : l.number ≤ l.function-index;
}
