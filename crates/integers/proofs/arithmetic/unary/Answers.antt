use Rattle.block_layout.specs.declared.run_error.TheConstants.{SIGNED_OVERFLOW}
use Rattle.std.proofs.Math.IntN.{pos, neg_ℤ, ◌-ℤ◌}
use Rattle.integers.specs.Integers.{IsLost}
use Rattle.integers.specs.declared.operator.UnOp.{UnOp}
use Rattle.integers.specs.declared.operator.UnOp.TheVariants.{Minus, Complement}
use Rattle.std.proofs.Common.{◌≡◌, ◌↔◌, ◌∙◌, sym, IsErrOf, arith}
use Rattle.std.proofs.lemmas.Int.{ints}
use Rattle.integers.proofs.Conversions.{brought-as, lost-as, kind-near, complement-not_lost}
use Rattle.integers.proofs.arithmetic.unary.Goals as goal

pub returns-in-Minus-clause-value : goal.returns-in-Minus-clause-value
returns-in-Minus-clause-value c = rw c.in-Minus.is (brought-as c.args.kind _ _ _ c.bring.ensures.value (omega (arith, ints, kind-near c.args.a c.args.kind c.requires.operand)))

pub returns-in-Complement-clause-value : goal.returns-in-Complement-clause-value
returns-in-Complement-clause-value c = rw c.in-Complement.is (brought-as c.args.kind _ _ _ c.bring-in-Complement.ensures.value (omega (arith, ints, kind-near c.args.a c.args.kind c.requires.operand)))

pub returns-in-Complement-clause-overflow : goal.returns-in-Complement-clause-overflow
returns-in-Complement-clause-overflow c =
    let exact : IsErrOf c.bring-in-Complement.result SIGNED_OVERFLOW ↔ IsLost c.args.kind (neg_ℤ c.args.a -ℤ pos 1) = lost-as c.args.kind _ _ _ c.bring-in-Complement.ensures.overflow (omega (arith, ints, kind-near c.args.a c.args.kind c.requires.operand)) in
    (λ e. absurd (complement-not_lost c.args.a c.args.kind c.requires.operand (exact.0 e)), λ x. absurd (other (sym c.in-Complement.is ∙ x.0)))
  where
    other : ◌≡◌ {A = UnOp} Complement Minus → ⊥
    other e = cc
