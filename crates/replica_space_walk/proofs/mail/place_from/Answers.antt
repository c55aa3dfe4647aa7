use Rattle.std.proofs.Common.{◌+◌, drop, sym, ap, ◌∙◌, arith}
use Rattle.replica_space_rows.specs.layer.Rows.{with_members}
use Rattle.replica_space_copies.specs.layer.Copies.{space_of}
use Rattle.replica_space_walk.proofs.Letters.{next-letter, no-letter}
use Rattle.replica_space_walk.proofs.mail.place_from.Goals.{in-Some+in_ok-put, in_default}
use Rattle.replica_space_walk.proofs.mail.place_from.Goals as goal

pub loop-number-preserved : goal.loop-number-preserved
loop-number-preserved c =
    let ms = (space_of c.args.copies.now).mail c.args.to c.args.from in
    let k = c.loop-number.number in
    elim c.match-letter.branch [
      | in-Some+in_ok-put w ↦
          ap (with_members (drop (k + 1) ms)) (w.row-is ∙ w.in_ok-put.ensures)
          ∙ sym (ap (λ l. with_members l c.loop-number.row) (next-letter ms k w.in-Some.message (sym w.in-Some.is ∙ c.letter.ensures)))
          ∙ c.loop-number.invariant
      | in_default w ↦
          let len = c.mail-number-end.ensures in
          let lt = c.loop-number-test.true in
          absurd (no-letter ms k (omega arith) (sym c.letter.ensures ∙ w.in_default.is))
    ]
