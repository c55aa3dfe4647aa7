use Rattle.std.proofs.Common.{rules}
use Rattle.thread_steps.specs.layer.Ranges.{IsHeld}
use Rattle.upc_meaning_settings.proofs.operands.advanced_on.Goals as goal

pub advanced-requires-clause-pointer : goal.advanced-requires-clause-pointer
advanced-requires-clause-pointer c =
    let held : IsHeld c.args.runner.threads c.args.runner.shapes.now c.args.p = search rules in
    (c.args.runner.shapes.now, held)
