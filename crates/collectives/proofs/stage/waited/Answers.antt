use Rattle.std.proofs.Common.{◌≡◌, subst}
use Rattle.upc_values.specs.layer.Parts.{unless_refused}
use Rattle.std.specs.Prelude.{IfOk, IfErr}
use Rattle.collectives.proofs.Following.{goes_on}
use Rattle.collectives.proofs.Following.{refuses_both}
use Rattle.collectives.specs.layer.Walks.{from_work}
use Rattle.collectives.specs.layer.Walks.{stage_rest}
use Rattle.collectives.specs.layer.Wishes.{RefusesSo}
use Rattle.collectives.proofs.stage.waited.Goals as goal

pub returns-in-Ok-clause-rest : goal.returns-in-Ok-clause-rest
returns-in-Ok-clause-rest c =
    let t = c.args.thread.now in
    subst (λ x. IfOk c.begun.result (λ s. stage_rest t.threads t.shapes.now t.number s ≡ x))
    (goes_on c.args.reply.now (from_work t.threads t.shapes.now t.number c.args.asked.now) c.in-Ok.ensures.done) c.begun.ensures.made

pub returns-in-Ok-clause-refused : goal.returns-in-Ok-clause-refused
returns-in-Ok-clause-refused c =
    let t = c.args.thread.now in
    subst (λ x. IfErr c.begun.result (λ e. RefusesSo e x))
    (goes_on c.args.reply.now (from_work t.threads t.shapes.now t.number c.args.asked.now) c.in-Ok.ensures.done) c.begun.ensures.refused

pub returns-in-Err-clause-refused : goal.returns-in-Err-clause-refused
returns-in-Err-clause-refused c =
    let t = c.args.thread.now in
    refuses_both (unless_refused c.args.reply.now) (λ u. from_work t.threads t.shapes.now t.number c.args.asked.now) c.in-Err.e
    c.in-Err.ensures.refused
