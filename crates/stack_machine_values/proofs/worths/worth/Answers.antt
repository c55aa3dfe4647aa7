use Rattle.std.proofs.Common.{sym, ap, ◌∙◌}
use Rattle.stack_code.specs.layer.Codes.{thread_of}
use Rattle.stack_machine_values.specs.layer.Works.{worth}
use Rattle.stack_machine_values.proofs.worths.worth.Goals as goal

pub member_behind-requires : goal.member_behind-requires
member_behind-requires c = (c.args.code.now.threads, (c.args.code.now.shapes, c.requires.first))

pub difference-requires-clause-later : goal.difference-requires-clause-later
difference-requires-clause-later c = (c.args.code.now.shapes, rw c.threads.ensures.value c.requires.second)

pub difference-requires-clause-pointer : goal.difference-requires-clause-pointer
difference-requires-clause-pointer c = (c.args.code.now.shapes, rw c.threads.ensures.value c.requires.first)

pub order-requires-clause-later : goal.order-requires-clause-later
order-requires-clause-later c = (c.args.code.now.shapes, rw c.threads-in-Order.ensures.value c.requires.second)

pub order-requires-clause-pointer : goal.order-requires-clause-pointer
order-requires-clause-pointer c = (c.args.code.now.shapes, rw c.threads-in-Order.ensures.value c.requires.first)

pub returns-in-Operate-clause-held : goal.returns-in-Operate-clause-held
returns-in-Operate-clause-held c = c.operated.ensures.held c.args.code.now.threads c.args.code.now.shapes

pub returns-in-Apply-clause-held : goal.returns-in-Apply-clause-held
returns-in-Apply-clause-held c = c.applied.ensures.held c.args.code.now.threads c.args.code.now.shapes

pub returns-in-Cast-clause-held : goal.returns-in-Cast-clause-held
returns-in-Cast-clause-held c = c.cast.ensures.held c.args.code.now.threads c.args.code.now.shapes c.requires.first

pub returns-in-Member-clause-value : goal.returns-in-Member-clause-value
returns-in-Member-clause-value c = λ budget.
    c.member_behind.ensures.value (thread_of c.args.code.now c.args.me budget)
    ∙ ap (λ w. worth (thread_of c.args.code.now c.args.me budget) w c.args.x.now c.args.a.now c.args.b.now) (sym c.in-Member.is)

pub returns-in-Member-clause-held : goal.returns-in-Member-clause-held
returns-in-Member-clause-held c =
    c.member_behind.ensures.held c.args.code.now.threads c.args.code.now.shapes c.requires.first

pub returns-in-Difference-clause-held : goal.returns-in-Difference-clause-held
returns-in-Difference-clause-held c = rw (← c.threads.ensures.value) (c.difference.ensures.held c.args.code.now.shapes)

pub returns-in-Order-clause-held : goal.returns-in-Order-clause-held
returns-in-Order-clause-held c = rw (← c.threads-in-Order.ensures.value) (c.order.ensures.held c.args.code.now.shapes)
