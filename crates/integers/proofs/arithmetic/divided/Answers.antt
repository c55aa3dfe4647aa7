use Rattle.std.proofs.Common.{rules, ◌≢◌, ◌≤◌, ◌^◌, arith, FitsSigned, int_div, sym, ap, ◌∙◌, subst, unsigned_abs}
use Rattle.std.proofs.Math.IntN.{ℤ, negsuc}
use Rattle.std.specs.Int.{w64, w128, cast_unsigned}
use Rattle.std.proofs.lemmas.Int.{to_z-of_z, fits_signed_from_abs}
use Rattle.integers.proofs.Conversions.{quotient-near, quotient-fits, int-near, int-fits, long-fits}
use Rattle.integers.proofs.arithmetic.divided.Goals as goal

pub returns-in-Int-clause-value : goal.returns-in-Int-clause-value
returns-in-Int-clause-value c =
    let left : FitsSigned w128 c.args.a = c.ranges.a in
    let right : FitsSigned w128 c.args.b = c.ranges.b in
    let short : FitsSigned w64 c.args.a = int-fits c.args.a c.args.kind c.requires.left c.in-Int.is in
    let by : FitsSigned w64 c.args.b = int-fits c.args.b c.args.kind c.requires.right c.in-Int.is in
    let near : unsigned_abs c.args.a ≤ 2 ^ 32 = int-near c.args.a c.args.kind c.requires.left c.in-Int.is in
    let both : FitsSigned w64 (int_div c.args.a c.args.b) =
    fits_signed_from_abs w64 (int_div c.args.a c.args.b) (omega (arith, quotient-near c.args.a c.args.b, near)) in
    let mine : FitsSigned w128 c.from.result = search rules in
    to_z-of_z w128 c.from.result mine ∙ (simp to_z-of_z at c.from.ensures)

pub returns-in-Int-clause-bound : goal.returns-in-Int-clause-bound
returns-in-Int-clause-bound c =
    subst (λ (z : ℤ). unsigned_abs z ≤ unsigned_abs c.args.a) (sym (returns-in-Int-clause-value c)) (quotient-near c.args.a c.args.b)

pub returns-in-Long-clause-value : goal.returns-in-Long-clause-value
returns-in-Long-clause-value c =
    let left : FitsSigned w128 c.args.a = c.ranges.a in
    let right : FitsSigned w128 c.args.b = c.ranges.b in
    let short : FitsSigned w64 c.args.a = long-fits c.args.a c.args.kind c.requires.left c.in-Long.is in
    let by : FitsSigned w64 c.args.b = long-fits c.args.b c.args.kind c.requires.right c.in-Long.is in
    let some : c.args.b ≢ negsuc 0 = λ e. c.if-b-neminus1.true (ap (cast_unsigned w128) e) in
    let both : FitsSigned w64 (int_div c.args.a c.args.b) = quotient-fits c.args.a c.args.b short some in
    let mine : FitsSigned w128 c.from-in-Long.result = search rules in
    to_z-of_z w128 c.from-in-Long.result mine ∙ (simp to_z-of_z at c.from-in-Long.ensures)

pub returns-in-Long-clause-bound : goal.returns-in-Long-clause-bound
returns-in-Long-clause-bound c =
    subst (λ (z : ℤ). unsigned_abs z ≤ unsigned_abs c.args.a) (sym (returns-in-Long-clause-value c)) (quotient-near c.args.a c.args.b)
