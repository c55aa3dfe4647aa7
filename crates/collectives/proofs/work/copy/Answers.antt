use Rattle.std.proofs.Common.{◌∙◌}
use Rattle.collectives.proofs.work.copy.Goals as goal

pub returns-in-Ok-clause-made : goal.returns-in-Ok-clause-made
returns-in-Ok-clause-made c =
    let t = c.args.thread.now in
    c.copied.ensures t.threads t.shapes.now t.number ∙ c.in-Ok.ensures.made
