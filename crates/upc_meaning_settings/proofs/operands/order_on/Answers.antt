use Rattle.std.proofs.Common.{rules}
use Rattle.thread_steps.specs.layer.Ranges.{IsHeld}
use Rattle.upc_meaning_settings.proofs.operands.order_on.Goals as goal

pub order-requires-clause-later : goal.order-requires-clause-later
order-requires-clause-later c =
    let held : IsHeld c.args.runner.threads c.args.runner.shapes.now c.args.q.now = search rules in
    (c.args.runner.shapes.now, held)

pub order-requires-clause-pointer : goal.order-requires-clause-pointer
order-requires-clause-pointer c =
    let held : IsHeld c.args.runner.threads c.args.runner.shapes.now c.args.p.now = search rules in
    (c.args.runner.shapes.now, held)
