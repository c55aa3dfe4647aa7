use Rattle.std.proofs.Common.{◌≡◌, ◌==◌, ◌&&◌, ◌++◌, nat_lt, [], ap, ◌∙◌, arith}
use Rattle.std.proofs.lemmas.Bool.{cond-false, and_right, le-ltb}
use Rattle.replica_space_copies.specs.layer.Copies.{space_of}
use Rattle.replica_space_mail.specs.layer.Deliveries.{mail_in, deliveries_to}
use Rattle.replica_space_mail.proofs.Following.{steady-then}
use Rattle.replica_space_mail.proofs.Lists.{to-next, row-next, row-end}
use Rattle.replica_space_mail.proofs.deliveries.deliver_to.Goals as goal

pub loop-from-preserved : goal.loop-from-preserved
loop-from-preserved c =
    let inv = c.loop-from.invariant in
    let ens = c.deliver_from.ensures in
    let first = c.args.copies.now in
    let now = c.loop-from.copies in
    let new = c.deliver_from.new.copies in
    let to = c.args.to in
    let from = c.loop-from.from in
    let n = inv.steady.many in
    let all = c.requires.all in
    let lt = c.loop-from-test.true in
    let to_in = c.requires.to in
    let kept : mail_in now to from ≡ mail_in first to from =
    inv.mail to from (omega arith) (omega arith)
    ∙ cond-false ((to == to) && nat_lt from from) [] (mail_in first to from) (and_right (to == to) (nat_lt from from) (le-ltb from from (omega arith))) in
    record {
      steady = steady-then first now new inv.steady ens.steady;
      events = to-next c.args.events.now.items c.loop-from.events.items c.deliver_from.new.events.items c.args.by to from (space_of first) (mail_in now to from) inv.events kept ens.events;
      mail = λ u v hu hv.
          ens.mail u v (omega arith) (omega arith)
          ∙ row-next (u == to) v from (mail_in first u v) (mail_in now u v) (inv.mail u v hu hv);
      follows = λ o f. ens.follows o (inv.follows o f);
      room = λ k h. ens.room k (inv.room k h);
    }

pub returns-clause-mail : goal.returns-clause-mail
returns-clause-mail c = λ u v hu hv.
    let past = c.loop-from-test.false in
    c.loop-from.invariant.mail u v hu hv ∙ row-end (u == c.args.to) v c.loop-from.from (mail_in c.args.copies.now u v) (omega arith)

pub returns-clause-events : goal.returns-clause-events
returns-clause-events c =
    let past = c.loop-from-test.false in
    let upto = c.loop-from.auto.from-end in
    let e : c.loop-from.from ≡ c.args.threads = omega arith in
    c.loop-from.invariant.events
    ∙ ap (λ k. c.args.events.now.items ++ deliveries_to c.args.by c.args.to k (space_of c.args.copies.now)) e
