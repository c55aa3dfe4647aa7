use Rattle.gen_expr.proofs.Counts.{fewer, enough}
use Rattle.gen_expr.proofs.calls.count.Goals as goal

pub returns-then-casts-args : goal.returns-then-casts-args
returns-then-casts-args c = fewer c.args.casts.now c.args.args.now c.if-casts-args.true

pub returns-else-casts-args : goal.returns-else-casts-args
returns-else-casts-args c = enough c.args.casts.now c.args.args.now c.if-casts-args.false
