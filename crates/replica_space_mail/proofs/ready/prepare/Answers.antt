use Rattle.std.proofs.Common.{◌+◌, ◌≤◌, Bool, sym, subst, arith}
use Rattle.replica_space_mail.specs.layer.Deliveries.{due, IsReady}
use Rattle.replica_space_mail.proofs.Following.{met-after}
use Rattle.replica_space_mail.proofs.ready.prepare.Goals as goal

pub returns-then-meets-clause-ready : goal.returns-then-meets-clause-ready
returns-then-meets-clause-ready c = λ o f.
    let old = c.args.copies.now in
    let now = c.deliver_waiting.new.copies in
    let ens = c.deliver_waiting.ensures in
    subst (λ (b : Bool). IsReady o b c.args.thread c.args.events.now.items c.meet.new.self c.deliver_waiting.new.events.items)
    (sym c.if-meets.true)
    (met-after o old now c.meet.new.self c.args.events.now.items c.deliver_waiting.new.events.items c.args.thread c.args.threads
    f (ens.follows o f) c.requires.all ens.events ens.none c.meet.ensures.steady.many c.meet.ensures.met)

pub returns-then-meets-clause-room : goal.returns-then-meets-clause-room
returns-then-meets-clause-room c =
    let old = c.args.copies.now in
    let there : 1 + old.waiting ≤ c.args.events.now.room =
    subst (λ (b : Bool). 1 + due b old ≤ c.args.events.now.room) c.if-meets.true c.requires.room in
    let more = c.deliver_waiting.ensures.room 1 there in
    omega arith
