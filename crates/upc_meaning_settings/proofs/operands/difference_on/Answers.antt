use Rattle.std.proofs.Common.{rules}
use Rattle.thread_steps.specs.layer.Ranges.{IsHeld}
use Rattle.upc_meaning_settings.proofs.operands.difference_on.Goals as goal

pub difference-requires-clause-later : goal.difference-requires-clause-later
difference-requires-clause-later c =
    let held : IsHeld c.args.runner.threads c.args.runner.shapes.now c.args.q.now = search rules in
    (c.args.runner.shapes.now, held)

pub difference-requires-clause-pointer : goal.difference-requires-clause-pointer
difference-requires-clause-pointer c =
    let held : IsHeld c.args.runner.threads c.args.runner.shapes.now c.args.p.now = search rules in
    (c.args.runner.shapes.now, held)
