use Rattle.std.proofs.Common.{◌≡◌, subst, arith}
use Rattle.std.proofs.Math.IntN.{◌+ℤ◌}
use Rattle.std.specs.Int.{w64, w128, cast_signed, cast_unsigned}
use Rattle.std.proofs.lemmas.Int.{ints}
use Rattle.block_layout.specs.declared.kind.Kind.{Kind}
use Rattle.block_layout.specs.declared.kind.Kind.TheVariants.{Int}
use Rattle.integers.specs.Integers.{InKind}
use Rattle.integers.proofs.Conversions.{brought-as, lost-as, kind-near}
use Rattle.integers.proofs.arithmetic.sum.Goals as goal

-- The sum of two ints as the code has it.
same : (c : goal.After-bring_int) → cast_signed w64 (cast_unsigned w64 (cast_signed w64 (cast_unsigned w64 (cast_signed w128 (cast_unsigned w128 c.args.a))) +ℤ cast_signed w64 (cast_unsigned w64 (cast_signed w128 (cast_unsigned w128 c.args.b))))) ≡ c.args.a +ℤ c.args.b
same c =
    let left : InKind c.args.a Int = subst (λ (x : Kind). InKind c.args.a x) c.in-Int.is c.requires.left in
    let right : InKind c.args.b Int = subst (λ (x : Kind). InKind c.args.b x) c.in-Int.is c.requires.right in
    omega (arith, ints, left.low, left.high, right.low, right.high)

pub returns-in-Int-clause-value : goal.returns-in-Int-clause-value
returns-in-Int-clause-value c = rw c.in-Int.is (brought-as Int _ _ _ c.bring_int.ensures.value (same c))

pub returns-in-Int-clause-overflow : goal.returns-in-Int-clause-overflow
returns-in-Int-clause-overflow c = rw c.in-Int.is (lost-as Int _ _ _ c.bring_int.ensures.overflow (same c))

pub returns-in_default-clause-value : goal.returns-in_default-clause-value
returns-in_default-clause-value c =
    brought-as c.args.kind _ _ _ c.bring.ensures.value
    (omega (arith, ints, kind-near c.args.a c.args.kind c.requires.left, kind-near c.args.b c.args.kind c.requires.right))

pub returns-in_default-clause-overflow : goal.returns-in_default-clause-overflow
returns-in_default-clause-overflow c =
    lost-as c.args.kind _ _ _ c.bring.ensures.overflow
    (omega (arith, ints, kind-near c.args.a c.args.kind c.requires.left, kind-near c.args.b c.args.kind c.requires.right))
