use Rattle.std.proofs.Common.{◌++◌, ◌∷◌, [], List, sym, ap, ◌∙◌, subst, arith}
use Rattle.upc_values.specs.Openings.{Opening}
use Rattle.replica_space.specs.declared.event.Event.{Event}
use Rattle.replica_space.specs.Events.{delivered}
use Rattle.replica_space_mail.specs.layer.Deliveries.{Follows, mail_in}
use Rattle.replica_space_acts.proofs.Keeping.{delivered-one, kept-delivery}
use Rattle.replica_space_acts.proofs.replicas.Replicas.deliver.Goals as goal

pub invariant_of-self-then-deliver_one : goal.invariant_of-self-then-deliver_one
invariant_of-self-then-deliver_one c =
    let i = c.self.inside in
    let a = c.self.invariant in
    let items = c.in_ok-count.ensures.items in
    let new = c.deliver_one.new.events.items in
    let counted = c.in_ok-count.ensures.count in
    let ms = mail_in i.copies c.args.to c.args.from in
    kept-delivery i.world i.copies c.deliver_one.new.copies i.events.items new i.count c.in_ok-count.count c.args.by c.args.to c.args.from a
    (c.deliver_one.ensures.follows i.world.0 (subst (λ (l : List Event). Follows i.world.0 i.copies l) (sym items) a.follows))
    (delivered-one new c.make_room.new.events.items c.args.by c.args.to c.args.from ms (c.deliver_one.ensures.found.0 c.if-deliver_one.true)
    c.deliver_one.ensures.events
    ∙ ap (λ (l : List Event). l ++ delivered c.args.by c.args.to c.args.from ∷ []) items)
    (omega arith) c.in_ok-count.ensures.few

pub returns-then-deliver_one-clause-events : goal.returns-then-deliver_one-clause-events
returns-then-deliver_one-clause-events c =
    let i = c.self.inside in
    let new = c.deliver_one.new.events.items in
    let ms = mail_in i.copies c.args.to c.args.from in
    delivered-one new c.make_room.new.events.items c.args.by c.args.to c.args.from ms (c.deliver_one.ensures.found.0 c.if-deliver_one.true)
    c.deliver_one.ensures.events
    ∙ ap (λ (l : List Event). l ++ delivered c.args.by c.args.to c.args.from ∷ [])
    (c.in_ok-count.ensures.items ∙ ap (λ (p : Opening × List Event). p.1) c.self.view_is)
