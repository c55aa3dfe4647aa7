use Rattle.std.proofs.Common.{◌≡◌, replicate, ap, ◌∙◌, arith}
use Rattle.replica_space_copies.proofs.Letters.{none_sent}
use Rattle.replica_space_copies.proofs.outbox.Outbox.make.Goals as goal

pub returns : goal.returns
returns c =
    let past = c.loop-test.false in
    let upto = c.loop.auto.counter-end in
    let all : c.loop.counter ≡ c.args.threads = omega arith in
    none_sent c.new.result.items c.loop.taken.items c.args.threads c.new.ensures (c.loop.invariant ∙ ap (λ n. replicate n 0) all)
