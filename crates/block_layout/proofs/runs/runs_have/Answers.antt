use Rattle.std.proofs.Common.{sym, ◌∙◌, arith}
use Rattle.block_layout.proofs.FoundRuns.{runs_has_at, runs_has_next, runs_has_end}
use Rattle.block_layout.proofs.runs.runs_have.Goals as goal

pub returns-then-has : goal.returns-then-has
returns-then-has c =
    sym (runs_has_at c.args.runs.now c.args.place c.loop-run.run-index c.run-item.result c.args.kind c.loop-run-test.true c.run-item.is (sym c.has.ensures ∙ c.if-has.true))

pub loop-run-preserved : goal.loop-run-preserved
loop-run-preserved c =
    runs_has_next c.args.runs.now c.args.place c.loop-run.run-index c.run-item.result c.args.kind c.loop-run-test.true c.run-item.is (sym c.has.ensures ∙ c.if-has.false)
    ∙ c.loop-run.invariant

pub returns : goal.returns
returns c = sym (sym c.loop-run.invariant ∙ runs_has_end c.args.runs.now c.args.place c.loop-run.run-index c.args.kind (omega arith))
