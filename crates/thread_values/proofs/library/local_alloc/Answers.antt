use Rattle.std.proofs.Common.{rules, ◌≡◌, ◌∙◌, Some}
use Rattle.thread_values.specs.code.Parts.{one_size}
use Rattle.thread_values.proofs.Sized.{local-of}
use Rattle.thread_values.proofs.library.local_alloc.Goals as goal

pub returns-in-Some : goal.returns-in-Some
returns-in-Some c threads private =
    let sizes : Some c.in-Some.nbytes ≡ one_size c.args.args.now = search rules in
    local-of threads c.args.shapes.now c.args.me private c.args.shape c.args.args.now c.in-Some.nbytes sizes
    ∙ c.allocation.ensures threads c.args.me private
