use Rattle.std.proofs.Common.{◌<◌, length, subst, arith}
use Rattle.block_layout.specs.code.Runs.{run_cells}
use Rattle.block_layout.specs.code.SameRuns.{IsTold}
use Rattle.block_layout.proofs.Told.{told_take, told_differ}
use Rattle.block_layout.proofs.same_runs.same_runs.Goals as goal

pub returns-then-not-same : goal.returns-then-not-same
returns-then-not-same c =
    let a = c.index-a-i.result in
    let b = c.index-b-i.result in
    let within : c.loop-i.i < length c.args.b.now = omega (arith, c.loop-i.invariant.lengths) in
    told_differ c.args.a.now c.args.b.now c.loop-i.i a b c.loop-i-test.true within c.index-a-i.is c.index-b-i.is c.loop-i.invariant.equal
    (subst (λ t. IsTold t (run_cells a) (run_cells b)) c.if-not-same.true c.in_ok-same.ensures)

pub loop-i-preserved : goal.loop-i-preserved
loop-i-preserved c =
    let a = c.index-a-i.result in
    let b = c.index-b-i.result in
    let within : c.loop-i.i < length c.args.b.now = omega (arith, c.loop-i.invariant.lengths) in
    record {
      equal = told_take c.args.a.now c.args.b.now c.loop-i.i a b c.loop-i-test.true within c.index-a-i.is c.index-b-i.is c.loop-i.invariant.equal
          (subst (λ t. IsTold t (run_cells a) (run_cells b)) c.if-not-same.false c.in_ok-same.ensures);
      lengths = c.loop-i.invariant.lengths;
    }
