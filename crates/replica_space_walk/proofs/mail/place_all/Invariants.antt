use Rattle.std.proofs.Common.{◌≡◌}
use Rattle.replica_space_copies.specs.layer.Copies.{space_of}
use Rattle.replica_space_walk.specs.code.Walking.{with_mail_of}
use Rattle.replica_space_walk.proofs.mail.place_all.Given as goal

abbrev pub invariant-loop-from : goal.invariant-loop-from
invariant-loop-from l = l.row ≡ with_mail_of l.from ((space_of l.copies).mail l.to) l.initial.row
