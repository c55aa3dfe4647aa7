use Rattle.std.proofs.Common.{sym, ap, ◌∙◌, subst, rules}
use mir.Syntax.{w128}
use Rattle.std.proofs.Math.Facts.{to_z-of_z}
use Rattle.shared_pointers.specs.layer.Ranges.{IsStep}
use Rattle.std.specs.Prelude.{pos, ◌*ℤ◌}
use Rattle.thread_steps.specs.Pointers.{advanced}
use Rattle.stack_code.specs.layer.Codes.{thread_of}
use Rattle.stack_machine_values.proofs.Stepping.{step_of}
use Rattle.stack_machine_values.proofs.Numbers.{number_held}
use Rattle.stack_machine_values.proofs.worths.ahead.Goals as goal

pub index_of-requires : goal.index_of-requires
index_of-requires c = number_held c.args.code.now.threads c.args.code.now.shapes c.args.i.now c.requires.index

pub advanced-requires-clause-pointer : goal.advanced-requires-clause-pointer
advanced-requires-clause-pointer c =
    (c.args.code.now.shapes, rw c.threads.ensures.value c.requires.pointer)

pub advanced-requires-clause-step : goal.advanced-requires-clause-step
advanced-requires-clause-step c =
    subst IsStep (sym (to_z-of_z {w = w128} {z = c.times.result} (search rules))) (step_of c.times.result c.times.ensures.bound)

pub returns-clause-value : goal.returns-clause-value
returns-clause-value c = λ me budget.
    c.advanced.ensures.value (thread_of c.args.code.now me budget) (sym c.threads.ensures.value)
    ∙ ap (λ i. advanced (thread_of c.args.code.now me budget) c.args.elements i c.args.p)
    (to_z-of_z {w = w128} {z = c.times.result} (search rules) ∙ c.times.ensures.value
    ∙ ap (λ i. i *ℤ pos c.args.count) (to_z-of_z {w = w128} {z = c.index_of.result} (search rules) ∙ c.index_of.ensures.value))

pub returns-clause-held : goal.returns-clause-held
returns-clause-held c =
    let h = rw c.threads.ensures.value at (c.advanced.ensures.held c.args.code.now.shapes) in h c.requires.pointer
