use Rattle.std.proofs.Common.{◌≡◌, map, drop}
use Rattle.std.specs.List.{list_any}
use Rattle.typed_tree.specs.ViewStatements.{view_function}
use Rattle.upc_checker.specs.Units.{is_main_function}
use Rattle.upc_checker.proofs.units.has_main.Given as goal

-- what is left decides
abbrev pub invariant-loop-function : goal.invariant-loop-function
invariant-loop-function l = list_any is_main_function (map view_function l.functions) ≡ list_any is_main_function (map view_function (drop l.function-index l.functions))
