use Rattle.std.proofs.lemmas.Result.{err_from_is_err_and}
use Rattle.run_recorder_parts.specs.layer.Readers.{many, texts}
use Rattle.run_recorder_parts.proofs.Loops.{ends, goes_on}
use Rattle.run_recorder_parts.proofs.series.many.Goals as goal

pub returns-in_err-part : goal.returns-in_err-part
returns-in_err-part g c =
    let p = err_from_is_err_and c.from_residual.result c.from_residual.ensures.1 in
    rw (p.1, p.2) (ends c.in_err-part.field-0.0 g.T.Part.of c.loop-at.found.items c.args.count c.loop-at.at
    (texts c.loop-at.parts.rest.now) (many 0 c.args.count g.T.Part.of (texts c.args.parts.now.rest.now))
    c.loop-at-test.true c.in_err-part.ensures c.loop-at.invariant)

pub loop-at-preserved : goal.loop-at-preserved
loop-at-preserved g c =
    rw c.in_ok-push.ensures.items
    (goes_on g.T.Part.of c.loop-at.found.items c.args.count c.loop-at.at (texts c.loop-at.parts.rest.now)
    (texts c.read.new.parts.rest.now) c.in_ok-part.part
    (many 0 c.args.count g.T.Part.of (texts c.args.parts.now.rest.now)) c.loop-at-test.true c.in_ok-part.ensures
    c.loop-at.invariant)
