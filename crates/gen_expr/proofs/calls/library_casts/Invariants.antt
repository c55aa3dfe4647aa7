use Rattle.std.proofs.Common.{◌≡◌, ◌++◌, map, drop}
use Rattle.source_meaning.specs.Types.{parameter_conversion}
use Rattle.gen_expr.proofs.calls.library_casts.Given as goal

abbrev pub invariant-loop-parameter : goal.invariant-loop-parameter
invariant-loop-parameter l =
    l.casts.items ++ map parameter_conversion (drop l.parameter-index l.parameters)
    ≡ map parameter_conversion l.parameters
