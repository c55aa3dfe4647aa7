use Rattle.std.proofs.Common.{◌++◌, sym, ap, ◌∙◌}
use Rattle.block_layout.specs.Cells.{sharable}
use Rattle.block_layout.specs.code.Runs.{run_cells}
use Rattle.block_layout.proofs.SharableCells.{sharable_take}
use Rattle.block_layout.proofs.sharable.sharable_runs.Goals as goal

pub loop-run-preserved : goal.loop-run-preserved
loop-run-preserved c =
    let run = c.run-item.result in
    c.in_ok-push_sharable.ensures ∙ ap (λ ys. ys ++ sharable (run_cells run)) c.loop-run.invariant
    ∙ sym (sharable_take c.args.runs.now c.loop-run.run-index run c.loop-run-test.true c.run-item.is)
