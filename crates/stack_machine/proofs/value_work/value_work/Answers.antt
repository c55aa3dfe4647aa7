use Rattle.std.proofs.Common.{ap, ◌∙◌, ◌∷◌, drop}
use Rattle.stack_code.specs.layer.Codes.{thread_of}
use Rattle.stack_code.specs.layer.Steps.{At}
use Rattle.stack_machine.specs.code.Turns.{body_seen, state_seen}
use Rattle.stack_machine.proofs.Holding.{third_held}
use Rattle.stack_machine.proofs.Arrivals.{faults, reaches}
use Rattle.stack_machine_values.proofs.Making.{made_err, made_ok}
use Rattle.stack_machine.proofs.value_work.value_work.Goals as goal

pub worth-requires-clause-third : goal.worth-requires-clause-third
worth-requires-clause-third c =
    rw c.third.ensures (third_held c.args.code.now.threads c.args.code.now.shapes c.args.operands.now c.requires.held)

pub returns-in-Err-clause-does : goal.returns-in-Err-clause-does
returns-in-Err-clause-does c = λ budget there given calls before.
    let τ = thread_of c.args.code.now c.args.me budget in
    rw c.fault.ensures (faults before _ c.in-Err.error c.args.place c.args.progress.now c.args.progress.now (body_seen there given c.args.operands.now calls c.args.progress.now) (state_seen before c.args.progress.now)
    (made_err τ c.args.work.now c.args.place c.args.operands.now (λ vs. At there given vs calls)
    (state_seen before c.args.progress.now) c.in-Err.error
    (rw (← c.third.ensures, ← c.second.ensures, ← c.top.ensures) (c.in-Err.ensures.value budget))))

pub returns-in_ok-push-in-Ok-clause-does : goal.returns-in_ok-push-in-Ok-clause-does
returns-in_ok-push-in-Ok-clause-does c = λ budget there given calls before.
    let τ = thread_of c.args.code.now c.args.me budget in
    reaches _ _ c.args.progress.now.reply before
    (made_ok τ c.args.work.now c.args.place c.args.operands.now c.push.new.self (λ vs. At there given vs calls)
    (state_seen before c.args.progress.now) c.in-Ok.v
    (rw (← c.third.ensures, ← c.second.ensures, ← c.top.ensures) (c.in-Ok.ensures.value budget))
    (c.in_ok-push-in-Ok.ensures ∙ ap (λ l. c.in-Ok.v ∷ l) (c.drop_youngest.ensures ∙ ap (λ n. drop n c.args.operands.now) c.taken.ensures)))
