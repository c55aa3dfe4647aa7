use Rattle.std.proofs.Common.{sym, ◌∙◌}
use Rattle.stack_machine.proofs.Openings.{copies_else, copied_formed}
use Rattle.stack_machine.proofs.progress.Progress.begin.Goals as goal

pub begin_copy-requires-clause-copies : goal.begin_copy-requires-clause-copies
begin_copy-requires-clause-copies c =
    copies_else c.args.next.now.call c.requires.walks (sym c.collective_number.ensures ∙ c.in-None.is)

pub returns-in-None-clause-formed : goal.returns-in-None-clause-formed
returns-in-None-clause-formed c =
    let next = c.args.next.now in
    copied_formed c.args.code.now.shapes next.shape c.args.args.now next.call c.begin_copy.result
    (copies_else next.call c.requires.walks (sym c.collective_number.ensures ∙ c.in-None.is))
