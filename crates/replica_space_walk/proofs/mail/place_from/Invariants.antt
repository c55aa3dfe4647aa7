use Rattle.std.proofs.Common.{◌≡◌, drop}
use Rattle.replica_space_rows.specs.layer.Rows.{with_members}
use Rattle.replica_space_copies.specs.layer.Copies.{space_of}
use Rattle.replica_space_walk.proofs.mail.place_from.Given as goal

abbrev pub invariant-loop-number : goal.invariant-loop-number
invariant-loop-number l =
    let ms = (space_of l.copies).mail l.to l.from in
    with_members (drop l.number ms) l.row ≡ with_members ms l.initial.row
