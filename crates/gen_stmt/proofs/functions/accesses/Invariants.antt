use Rattle.std.proofs.Common.{◌≡◌, ◌++◌, map, drop}
use Rattle.upc_types.specs.View.{view}
use Rattle.gen_expr.specs.layer.ViewSource.{view_source}
use Rattle.gen_stmt.specs.layer.Programs.{parameter_access}
use Rattle.gen_stmt.proofs.functions.accesses.Given as goal

abbrev pub invariant-loop-t : goal.invariant-loop-t
invariant-loop-t l =
    l.cells.items ++ map (parameter_access (view_source l.source)) (map view (drop l.t-index l.parameters))
    ≡ map (parameter_access (view_source l.source)) (map view l.parameters)
