use Rattle.std.proofs.Common.{◌≡◌}
use Rattle.upc_types.specs.Same.{same_base}
use Rattle.upc_types.specs.View.{view_base}
use Rattle.upc_types.specs.code.Depth.{base_depth}
use Rattle.upc_types.proofs.same.same_base.Given as goal

abbrev pub invariant-loop-a : goal.invariant-loop-a
invariant-loop-a l = record {
  rest : same_base (view_base l.a) (view_base l.b) ≡ same_base (view_base l.fn.a) (view_base l.fn.b);
}

abbrev pub decreases-loop-a : goal.decreases-loop-a
decreases-loop-a l = base_depth (view_base l.a)
