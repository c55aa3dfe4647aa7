use Rattle.block_layout.proofs.LieBehind.{lie_next_run}
use Rattle.block_layout.proofs.ends.end_of_runs.Goals as goal

pub loop-run-preserved : goal.loop-run-preserved
loop-run-preserved c =
    lie_next_run c.args.runs.now 0 c.loop-run.end c.in_ok-end.end c.loop-run.run-index c.run-item.result c.loop-run-test.true c.run-item.is c.loop-run.invariant c.in_ok-end.ensures
