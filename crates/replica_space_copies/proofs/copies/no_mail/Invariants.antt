use Rattle.std.proofs.Common.{◌≡◌, [], replicate}
use Rattle.replica_space_copies.proofs.copies.no_mail.Given as goal

abbrev pub invariant-loop : goal.invariant-loop
invariant-loop l = l.boxes.items ≡ replicate l.counter (replicate l.threads [])
