use Rattle.std.proofs.Common.{rules, ◌≡◌, FitsSigned, sym, subst, int_rem}
use Rattle.std.specs.Int.{w128}
use Rattle.std.proofs.Math.IntN.{ℤ}
use Rattle.std.proofs.lemmas.Int.{to_z-of_z}
use Rattle.integers.specs.Integers.{InKind}
use Rattle.integers.proofs.Conversions.{remainder-in_kind}
use Rattle.integers.proofs.arithmetic.remainder.Goals as goal

pub returns-clause-range : goal.returns-clause-range
returns-clause-range c =
    let mine : FitsSigned w128 c.left_over.result = search rules in
    let same : c.left_over.result ≡ int_rem c.args.a c.args.b = search rules in
    simp to_z-of_z (subst (λ (z : ℤ). InKind z c.args.kind) (sym same) (remainder-in_kind c.args.a c.args.b c.args.kind c.requires.left))
