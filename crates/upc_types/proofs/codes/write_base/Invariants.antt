use Rattle.std.proofs.Common.{◌≡◌}
use Rattle.upc_types.specs.code.TypeCodes.{with_base}
use Rattle.upc_types.specs.View.{view_base}
use Rattle.upc_types.proofs.codes.write_base.Given as goal

abbrev pub invariant-loop-base : goal.invariant-loop-base
invariant-loop-base l = record {
  rest : with_base l.hasher (view_base l.base) ≡ with_base l.fn.hasher (view_base l.fn.base);
}
