use Rattle.std.proofs.Common.{rules, ◌≡◌, ◌∙◌, Some}
use Rattle.std.proofs.lemmas.Result.{IfOk-weaker}
use Rattle.thread_values.specs.code.Parts.{two_sizes}
use Rattle.thread_values.proofs.Sized.{all-of}
use Rattle.thread_values.proofs.library.all_alloc.Goals as goal

pub returns-in-Some : goal.returns-in-Some
returns-in-Some c threads me =
    let sizes : Some (c.in-Some.nblocks, c.in-Some.nbytes) ≡ two_sizes c.args.args.now = search rules in
    IfOk-weaker c.meeting_to_alloc.result _ _
    (λ s h private. all-of threads c.args.shapes.now me private c.args.shape c.args.args.now c.in-Some.nblocks
    c.in-Some.nbytes sizes ∙ h private)
    (c.meeting_to_alloc.ensures threads me)
