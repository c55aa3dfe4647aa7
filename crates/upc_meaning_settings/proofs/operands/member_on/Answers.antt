use Rattle.std.proofs.Common.{rules}
use Rattle.thread_steps.specs.layer.Ranges.{IsHeld}
use Rattle.upc_meaning_settings.specs.layer.Runners.{thread_seen}
use Rattle.upc_meaning_settings.proofs.operands.member_on.Goals as goal

pub member_behind-requires : goal.member_behind-requires
member_behind-requires c =
    let held : IsHeld c.args.runner.threads c.args.runner.shapes.now c.args.p = search rules in
    (c.args.runner.threads, (c.args.runner.shapes.now, held))

pub returns : goal.returns
returns c = c.member_behind.ensures.value (thread_seen c.args.runner)
