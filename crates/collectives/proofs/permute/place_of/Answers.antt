use Rattle.std.proofs.Common.{Bool, pos, sym, below_more, arith, ◌∙◌}
use Rattle.std.proofs.Math.IntN.{ℤ}
use Rattle.std.specs.Ordering.{int_eq}
use Rattle.std.proofs.lemmas.List.Sums.{position_or_len_is}
use Rattle.collectives.proofs.permute.place_of.Goals as goal

pub loop-place-preserved : goal.loop-place-preserved
loop-place-preserved c = below_more _ _ c.loop-place.invariant (sym c.is_number.ensures ∙ c.if-is_number.false)

pub returns-then-is_number-clause-value : goal.returns-then-is_number-clause-value
returns-then-is_number-clause-value c =
    let p : ℤ → Bool = λ v. int_eq v (pos c.args.thread) in
    sym (position_or_len_is p c.args.numbers.now c.loop-place.place (pos 0) (omega arith) c.loop-place.invariant (λ h. sym c.is_number.ensures ∙ c.if-is_number.true))

pub returns-clause-value : goal.returns-clause-value
returns-clause-value c =
    let p : ℤ → Bool = λ v. int_eq v (pos c.args.thread) in
    sym (position_or_len_is p c.args.numbers.now _ (pos 0) (omega arith) (λ k h. c.loop-place.invariant k (omega arith)) (λ h. absurd (omega arith)))
