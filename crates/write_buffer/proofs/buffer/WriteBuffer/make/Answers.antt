use Rattle.std.proofs.Common.{◌≤◌, [], length, sym, ap, subst, arith}
use Rattle.write_buffer.specs.layer.Buffer.{AreApart}
use Rattle.write_buffer.specs.code.Counts.{IsCounted}
use Rattle.write_buffer.proofs.Counting.{is_counted-none}
use Rattle.write_buffer.proofs.buffer.WriteBuffer.make.Goals as goal

pub invariant_of-result : goal.invariant_of-result
invariant_of-result c =
    let items = ap (λ b. b.items) c.in_ok-with_capacity.ensures in
    let room = ap (λ b. b.capacity) c.in_ok-with_capacity.ensures in (
      subst (λ z. length z ≤ 64) (sym items) (omega arith),
      room,
      subst (λ z. IsCounted z c.no_counts.result) (sym items) (subst (λ k. IsCounted [] k) (sym c.no_counts.ensures) is_counted-none),
      subst AreApart (sym items) tt,
    )
