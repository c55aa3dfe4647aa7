use Rattle.std.proofs.Common.{◌≡◌, ◌==◌, ◌&&◌, ◌++◌, List, drop, refl, ap, ◌∙◌, arith, eq-eqb}
use Rattle.std.proofs.lemmas.Bool.{cond-true, cond-false, and_from}
use Rattle.replica_space.specs.declared.message.Message.{Message}
use Rattle.replica_space_mail.specs.layer.Deliveries.{mail_in, deliveries}
use Rattle.replica_space_mail.proofs.Following.{steady-then}
use Rattle.replica_space_mail.proofs.deliveries.deliver_from.Goals as goal

pub loop-preserved : goal.loop-preserved
loop-preserved c =
    let inv = c.loop.invariant in
    let ens = c.deliver_one.ensures in
    let first = c.args.copies.now in
    let now = c.loop.copies in
    let new = c.deliver_one.new.copies in
    let to = c.args.to in
    let from = c.args.from in
    let many = inv.steady.many in
    let in_to = c.requires.to in
    let in_from = c.requires.from in
    let ms = mail_in now to from in
    let here : mail_in new to from ≡ drop 1 ms =
    ens.mail to from (omega arith) (omega arith)
    ∙ cond-true ((to == to) && (from == from)) (drop 1 ms) ms (and_from (to == to) (from == from) (eq-eqb to to refl) (eq-eqb from from refl)) in
    record {
      steady = steady-then first now new inv.steady ens.steady;
      events = ap (λ (l : List Message). c.deliver_one.new.events.items ++ deliveries c.args.by to from l) here ∙ ens.events ∙ inv.events;
      mail = λ u v hu hv b.
          ens.mail u v (omega arith) (omega arith)
          ∙ cond-false ((u == to) && (v == from)) (drop 1 (mail_in now u v)) (mail_in now u v) b
          ∙ inv.mail u v hu hv b;
      follows = λ o f. ens.follows o (inv.follows o f);
      room = λ k h. ens.room k (inv.room k h);
    }

pub returns-clause-room : goal.returns-clause-room
returns-clause-room c = λ k h. c.deliver_one.ensures.room k (c.loop.invariant.room k h)
