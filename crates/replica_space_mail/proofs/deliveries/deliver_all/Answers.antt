use Rattle.std.proofs.Common.{◌≡◌, ◌++◌, nat_lt, true, [], ap, ◌∙◌, arith}
use Rattle.std.proofs.lemmas.Bool.{cond-true, cond-false, lt-ltb, le-ltb}
use Rattle.replica_space_copies.specs.layer.Copies.{space_of}
use Rattle.replica_space_mail.specs.layer.Deliveries.{mail_in, all_deliveries}
use Rattle.replica_space_mail.proofs.Following.{steady-then}
use Rattle.replica_space_mail.proofs.Lists.{all-next, row-next}
use Rattle.replica_space_mail.proofs.deliveries.deliver_all.Goals as goal

pub loop-to-preserved : goal.loop-to-preserved
loop-to-preserved c =
    let inv = c.loop-to.invariant in
    let ens = c.deliver_to.ensures in
    let first = c.args.copies.now in
    let now = c.loop-to.copies in
    let new = c.deliver_to.new.copies in
    let to = c.loop-to.to in
    let n = inv.steady.many in
    let all = c.requires.all in
    let lt = c.loop-to-test.true in
    record {
      steady = steady-then first now new inv.steady ens.steady;
      events = all-next c.args.events.now.items c.loop-to.events.items c.deliver_to.new.events.items c.args.by c.args.threads to (space_of first) (space_of now) inv.events
          (λ v h. inv.mail to v (omega arith) h ∙ cond-false (nat_lt to to) [] (mail_in first to v) (le-ltb to to (omega arith)))
          ens.events;
      mail = λ u v hu hv.
          ens.mail u v hu hv ∙ row-next true u to (mail_in first u v) (mail_in now u v) (inv.mail u v hu hv);
      follows = λ o f. ens.follows o (inv.follows o f);
      room = λ k h. ens.room k (inv.room k h);
    }

pub returns-clause-none : goal.returns-clause-none
returns-clause-none c = λ to from h k.
    let past = c.loop-to-test.false in
    c.loop-to.invariant.mail to from h k
    ∙ cond-true (nat_lt to c.loop-to.to) [] (mail_in c.args.copies.now to from) (lt-ltb to c.loop-to.to (omega arith))

pub returns-clause-events : goal.returns-clause-events
returns-clause-events c =
    let past = c.loop-to-test.false in
    let upto = c.loop-to.auto.to-end in
    let e : c.loop-to.to ≡ c.args.threads = omega arith in
    c.loop-to.invariant.events
    ∙ ap (λ k. c.args.events.now.items ++ all_deliveries c.args.by c.args.threads k (space_of c.args.copies.now)) e
