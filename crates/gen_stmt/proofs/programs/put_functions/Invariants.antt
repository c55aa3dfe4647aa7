use Rattle.std.proofs.Common.{◌≡◌, [], map, drop}
use Rattle.typed_tree.specs.ViewStatements.{view_function}
use Rattle.gen_expr.specs.layer.ViewSource.{view_source}
use Rattle.gen_stmt.specs.layer.Programs.{function_code}
use Rattle.gen_stmt.specs.code.Compiled.{with_functions}
use Rattle.gen_stmt.proofs.programs.put_functions.Given as goal

abbrev pub invariant-loop-function : goal.invariant-loop-function
invariant-loop-function l = record {
  ended : l.builder.current ≡ [];
  told :
      with_functions
      (map (function_code (view_source l.source)) (map view_function (drop l.function-index l.functions))) l.builder
      ≡ with_functions (map (function_code (view_source l.source)) (map view_function l.functions)) l.initial.builder;
}
