use Rattle.std.proofs.Common.{rules, ◌≡◌, ◌∙◌, Some}
use Rattle.thread_values.specs.code.Parts.{two_sizes}
use Rattle.thread_values.proofs.Sized.{global-of}
use Rattle.thread_values.proofs.library.global_alloc.Goals as goal

pub returns-in-Some : goal.returns-in-Some
returns-in-Some c threads me private =
    let sizes : Some (c.in-Some.nblocks, c.in-Some.nbytes) ≡ two_sizes c.args.args.now = search rules in
    global-of threads c.args.shapes.now me private c.args.shape c.args.args.now c.in-Some.nblocks c.in-Some.nbytes sizes
    ∙ c.allocation.ensures threads me private
