use Rattle.std.proofs.Common.{ℕ, ◌<◌, length, drop, ap, arith}
use Rattle.std.proofs.lemmas.List.{get_or_read, length-map}
use Rattle.replica_space_copies.proofs.Letters.{one-taken}
use Rattle.replica_space_copies.proofs.outbox.Outbox.take.Goals as goal

pub returns-clause-taken : goal.returns-clause-taken
returns-clause-taken c = λ u.
    let ms = c.self.inside.messages.items in
    let taken = c.self.inside.taken.items in
    let within : c.args.to < length taken = omega (arith, ap length c.self.view_is, length-map taken (λ (n : ℕ). drop n ms), c.requires) in
    rw (← c.self.view_is)
    (one-taken ms taken c.args.to c.index-next.result.now u within
    (get_or_read taken c.args.to c.index-next.result.now within c.index-next.ensures 0))
