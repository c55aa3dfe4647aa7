use Rattle.std.proofs.Common.{sym, ap, ◌∙◌, subst}
use Rattle.std.specs.Option.{option_copied}
use Rattle.upc_values.specs.Expansion.{Expansion}
use Rattle.upc_values.specs.LibraryCalls.{gives_zero}
use Rattle.upc_library.specs.layer.Wishes.{expansion}
use Rattle.thread_values.specs.layer.Copies.{shapes_in}
use Rattle.thread_values.proofs.MemoryCalls.{means}
use Rattle.stack_machine.specs.code.Calls.{WritesHeld}
use Rattle.stack_machine.proofs.CallsOf.{expansion_held}
use Rattle.stack_machine.proofs.Openings.{made_is, fails_as}
use Rattle.stack_machine.proofs.progress.Progress.begin_copy.Goals as goal

pub returns-in-Ok-clause-made : goal.returns-in-Ok-clause-made
returns-in-Ok-clause-made c =
    let code = c.args.code.now in
    let private = shapes_in c.args.self.now.store in
    means code.threads code.shapes c.args.runner.now.number c.args.next.now.shape private c.args.args.now
    c.args.next.now.call c.requires.copies
    ∙ ap gives_zero (sym (c.in-Ok.ensures.made
    ∙ made_is c.threads.result code.threads c.shapes.result.now code.shapes (option_copied c.private_of-private.result)
    private c.spec_of-spec.result c.args.next.now.call c.args.args.now c.threads.ensures.value c.shapes.ensures.value
    c.spec_of-spec.ensures c.private_of-private.ensures.value))

pub returns-in-Ok-clause-values : goal.returns-in-Ok-clause-values
returns-in-Ok-clause-values c =
    let code = c.args.code.now in
    let private = shapes_in c.args.self.now.store in
    subst (λ (x : Expansion (Unit {0})). WritesHeld code.threads code.shapes x)
    (sym (c.in-Ok.ensures.made
    ∙ made_is c.threads.result code.threads c.shapes.result.now code.shapes (option_copied c.private_of-private.result)
    private c.spec_of-spec.result c.args.next.now.call c.args.args.now c.threads.ensures.value c.shapes.ensures.value
    c.spec_of-spec.ensures c.private_of-private.ensures.value))
    (expansion_held code.threads code.shapes code.threads code.shapes private c.args.args.now c.args.next.now.call
    c.requires.copies)

pub returns-in-Err-clause-fails : goal.returns-in-Err-clause-fails
returns-in-Err-clause-fails c =
    let code = c.args.code.now in
    let private = shapes_in c.args.self.now.store in
    fails_as c.in-Err.e
    (expansion c.threads.result c.shapes.result.now (option_copied c.private_of-private.result) c.spec_of-spec.result) _
    c.args.next.now.place c.args.self.now.ticks c.refused.result
    (means code.threads code.shapes c.args.runner.now.number c.args.next.now.shape private c.args.args.now
    c.args.next.now.call c.requires.copies
    ∙ ap gives_zero (sym (made_is c.threads.result code.threads c.shapes.result.now code.shapes
    (option_copied c.private_of-private.result) private c.spec_of-spec.result c.args.next.now.call c.args.args.now
    c.threads.ensures.value c.shapes.ensures.value c.spec_of-spec.ensures c.private_of-private.ensures.value)))
    c.in-Err.ensures.refused c.refused.ensures
