use Rattle.std.proofs.Common.{◌≡◌, ◌+◌, cond, take, ap, sym, ◌∙◌, arith}
use Rattle.replica_space.specs.Runs.{next_index}
use Rattle.replica_space_mail.proofs.Counting.{counted-more}
use Rattle.replica_space_mail.proofs.roll.count_in.Goals.{then-is_action_of, else-is_action_of}
use Rattle.replica_space_mail.proofs.roll.count_in.Goals as goal

pub loop-event-preserved : goal.loop-event-preserved
loop-event-preserved c =
    let i = c.loop-event.event-index in
    let t = c.args.thread in
    let es = c.args.part.now in
    let inv = c.loop-event.invariant in
    let more : next_index t (take (i + 1) es) ≡ next_index t (take i es) + cond c.is_action_of.result 1 0 =
    counted-more t es i c.event-item.result c.loop-event-test.true c.event-item.is
    ∙ ap (λ n. next_index t (take i es) + n) (sym c.is_action_of.ensures) in
    elim c.if-is_action_of.branch [
      | then-is_action_of w ↦
          let one = more ∙ ap (λ b. next_index t (take i es) + cond b 1 0) w.if-is_action_of.true in
          (omega (arith, w.count-is, one, inv.0), omega (arith, w.count-is, inv.1))
      | else-is_action_of w ↦
          let none = more ∙ ap (λ b. next_index t (take i es) + cond b 1 0) w.if-is_action_of.false in
          (omega (arith, w.count-is, none, inv.0), omega (arith, w.count-is, inv.1))
    ]
