use Rattle.std.proofs.Common.{◌++◌, List, drop, ap, ◌∙◌, subst, sym, refl}
use Rattle.std.proofs.lemmas.Bool.{both_ways}
use Rattle.replica_space.specs.declared.event.Event.{Event}
use Rattle.replica_space_copies.specs.layer.Copies.{space_of}
use Rattle.replica_space_mail.specs.layer.Deliveries.{mail_in, deliveries, Follows}
use Rattle.replica_space_mail.proofs.Following.{delivery-follows, same-follows, nothing-received}
use Rattle.replica_space_mail.proofs.Lists.{one-more, none-more, nil-from, received-mail}
use Rattle.replica_space_mail.proofs.deliveries.deliver_one.Goals as goal

pub returns-then-deliver-clause-events : goal.returns-then-deliver-clause-events
returns-then-deliver-clause-events c =
    let ms = mail_in c.args.copies.now c.args.to c.args.from in
    ap (λ (l : List Event). l ++ deliveries c.args.by c.args.to c.args.from (drop 1 ms)) c.push.ensures.items
    ∙ one-more c.args.events.now.items c.args.by c.args.to c.args.from ms (c.deliver.ensures.found.0 c.if-deliver.true)

pub returns-then-deliver-clause-mail : goal.returns-then-deliver-clause-mail
returns-then-deliver-clause-mail c = λ u v hu hv.
    c.deliver.ensures.received.mail u v hu hv
    ∙ received-mail c.args.to c.args.from u v (mail_in c.args.copies.now c.args.to c.args.from) (space_of c.args.copies.now) refl

pub returns-then-deliver-clause-follows : goal.returns-then-deliver-clause-follows
returns-then-deliver-clause-follows c = λ o f.
    subst (λ (l : List Event). Follows o c.deliver.new.self l) (sym c.push.ensures.items)
    (delivery-follows o c.args.copies.now c.deliver.new.self c.args.events.now.items c.args.by c.args.to c.args.from f
    c.requires.by c.requires.to c.requires.from (c.deliver.ensures.found.0 c.if-deliver.true) c.deliver.ensures.steady.many c.deliver.ensures.received)

pub returns-clause-events : goal.returns-clause-events
returns-clause-events c =
    let ms = mail_in c.args.copies.now c.args.to c.args.from in
    none-more c.args.events.now.items c.args.by c.args.to c.args.from ms
    (nil-from ms (λ ne. both_ways c.deliver.result c.if-deliver.false (c.deliver.ensures.found.1 ne)))

pub returns-clause-mail : goal.returns-clause-mail
returns-clause-mail c = λ u v hu hv.
    c.deliver.ensures.received.mail u v hu hv
    ∙ received-mail c.args.to c.args.from u v (mail_in c.args.copies.now c.args.to c.args.from) (space_of c.args.copies.now) refl

pub returns-clause-follows : goal.returns-clause-follows
returns-clause-follows c = λ o f.
    let ms = mail_in c.args.copies.now c.args.to c.args.from in
    same-follows o c.args.copies.now c.deliver.new.self c.args.events.now.items f c.deliver.ensures.steady.many
    (nothing-received c.args.copies.now c.deliver.new.self c.args.to c.args.from
    (nil-from ms (λ ne. both_ways c.deliver.result c.if-deliver.false (c.deliver.ensures.found.1 ne))) c.deliver.ensures.received)
