use Rattle.std.proofs.Common.{◌≡◌, subst, arith}
use Rattle.std.specs.Prelude.{IfOk, IfErr}
use Rattle.collectives.proofs.Following.{at_once}
use Rattle.collectives.proofs.Following.{by_barrier}
use Rattle.collectives.specs.layer.Walks.{from_work}
use Rattle.collectives.specs.layer.Walks.{stage_rest}
use Rattle.collectives.specs.layer.Wishes.{RefusesSo}
use Rattle.collectives.proofs.stage.entered.Goals as goal

pub returns-then-group-eq1-clause-made : goal.returns-then-group-eq1-clause-made
returns-then-group-eq1-clause-made c =
    let t = c.args.thread.now in
    let go = from_work t.threads t.shapes.now t.number c.args.asked in
    subst (λ x. IfOk c.begun.result (λ s. stage_rest t.threads t.shapes.now t.number s ≡ x))
    (at_once c.bits-group.result _ go (omega arith) (c.bits-group.ensures t.threads t.shapes.now t.number)) c.begun.ensures.made

pub returns-then-group-eq1-clause-refused : goal.returns-then-group-eq1-clause-refused
returns-then-group-eq1-clause-refused c =
    let t = c.args.thread.now in
    let go = from_work t.threads t.shapes.now t.number c.args.asked in
    subst (λ x. IfErr c.begun.result (λ e. RefusesSo e x))
    (at_once c.bits-group.result _ go (omega arith) (c.bits-group.ensures t.threads t.shapes.now t.number)) c.begun.ensures.refused

pub returns-else-group-eq1-clause-made : goal.returns-else-group-eq1-clause-made
returns-else-group-eq1-clause-made c =
    let t = c.args.thread.now in
    let go = from_work t.threads t.shapes.now t.number c.args.asked in
    by_barrier c.bits-group.result _ go (λ e. c.if-group-eq1.false e) (c.bits-group.ensures t.threads t.shapes.now t.number)
