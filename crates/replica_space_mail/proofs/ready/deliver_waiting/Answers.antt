use Rattle.std.proofs.Common.{◌≡◌, sym, ◌∙◌, arith}
use Rattle.replica_space_copies.specs.layer.Copies.{threads_of, space_of}
use Rattle.replica_space_copies.specs.layer.Counts.{waiting_in}
use Rattle.replica_space_mail.proofs.Lists.{each-once, none-delivered, none-waits}
use Rattle.replica_space_mail.proofs.ready.deliver_waiting.Goals as goal

pub returns-then-waiting-gt0-clause-many : goal.returns-then-waiting-gt0-clause-many
returns-then-waiting-gt0-clause-many c =
    let old = c.args.copies.now in
    each-once c.args.events.now.items c.deliver_all.new.events.items c.args.thread c.args.threads (threads_of old) old.waiting (space_of old)
    c.deliver_all.ensures.events c.requires.all (sym c.waiting.ensures.value ∙ c.waiting.ensures.counted)

pub returns-else-waiting-gt0-clause-events : goal.returns-else-waiting-gt0-clause-events
returns-else-waiting-gt0-clause-events c =
    let old = c.args.copies.now in
    let past = c.if-waiting-gt0.false in
    let none : waiting_in (threads_of old) (space_of old) ≡ 0 = omega (arith, c.waiting.ensures.counted) in
    none-delivered c.args.events.now.items c.args.thread c.args.threads (threads_of old) (space_of old) c.requires.all none

pub returns-else-waiting-gt0-clause-none : goal.returns-else-waiting-gt0-clause-none
returns-else-waiting-gt0-clause-none c =
    let old = c.args.copies.now in
    let past = c.if-waiting-gt0.false in
    let none : waiting_in (threads_of old) (space_of old) ≡ 0 = omega (arith, c.waiting.ensures.counted) in
    none-waits c.args.threads (threads_of old) (space_of old) c.requires.all none
