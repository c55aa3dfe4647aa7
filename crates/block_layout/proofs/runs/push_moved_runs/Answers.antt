use Rattle.block_layout.specs.code.Runs.{runs_cells}
use Rattle.block_layout.proofs.RunLists.{moved_more}
use Rattle.block_layout.proofs.runs.push_moved_runs.Goals as goal

pub loop-run-preserved : goal.loop-run-preserved
loop-run-preserved c =
    moved_more c.args.runs.now (runs_cells c.loop-run.to.items) (runs_cells c.args.to.now.items) (runs_cells c.push_run.new.to.items) c.args.start c.loop-run.run-index
    c.in_ok-moved.field-0 c.run-item.result c.loop-run-test.true c.run-item.is c.in_ok-moved.ensures c.loop-run.invariant c.in_ok-push_run.ensures
