use Rattle.std.proofs.Common.{◌∙◌, Option, subst}
use Rattle.collectives.specs.layer.Walks.{rest}
use Rattle.upc_values.specs.declared.action.Reply.{Reply}
use Rattle.upc_values.specs.Expansion.{after_reply}
use Rattle.upc_meaning_state.specs.declared.progress.Step.{Step}
use Rattle.upc_meaning_state.specs.code.Walking.{IsAnswered, IsAnsweredOrOver}
use Rattle.upc_meaning_state.specs.layer.Came.{state_seen}
use Rattle.upc_meaning_settings.specs.layer.Runners.{thread_seen}
use Rattle.upc_meaning_state.proofs.Walking.{refused_so}
use Rattle.upc_meaning_state.proofs.progress.Progress.go_together.Goals as goal

pub returns-in-Err-Error : goal.returns-in-Err-Error
returns-in-Err-Error c =
    let τ = thread_seen c.args.runner in
    let x = rest c.args.runner.shapes.now c.loop-end.call in
    let σ = state_seen c.loop-end.self in
    let υ = c.answer_together.new.self in
    let goes = subst (λ (o : Option (Step Reply)). IsAnsweredOrOver τ c.args.place x σ o υ) c.in-Some-Gives.is
    c.in_ok-answer_together.ensures.goes in
    c.loop-end.invariant
    ∙ subst (λ (s : Step Reply). IsAnswered τ c.args.place x σ s υ) c.in-Some-Gives.field-0-is goes
    ∙ refused_so τ c.args.place (state_seen υ) (after_reply x c.in-Some-Gives.reply) c.in-Err-Error.code
    (rw c.in-Err-Error.field-0-is at c.in-Err-Error.ensures.refused)
