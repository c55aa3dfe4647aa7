use Rattle.std.proofs.Common.{rules, ◌≡◌, ◌∙◌, refl, inl, subst, FitsSigned}
use Rattle.std.proofs.Math.IntN.{ℤ, ◌*ℤ◌}
use Rattle.std.specs.Int.{w64, w128, cast_signed, cast_unsigned}
use Rattle.std.proofs.lemmas.Int.{to_z-of_z}
use Rattle.block_layout.specs.declared.kind.Kind.{Kind}
use Rattle.block_layout.specs.declared.kind.Kind.TheVariants.{Int}
use Rattle.integers.specs.Integers.{InKind}
use Rattle.integers.proofs.Conversions.{brought-as, lost-as, int-fits, int-product-fits}
use Rattle.integers.proofs.arithmetic.product.Goals as goal

-- The product of two ints as the code has it.
in_64 : (a b : ℤ) → FitsSigned w128 a → FitsSigned w128 b → InKind a Int → InKind b Int
    → cast_signed w64 (cast_unsigned w64 (cast_signed w64 (cast_unsigned w64 (cast_signed w128 (cast_unsigned w128 a))) *ℤ cast_signed w64 (cast_unsigned w64 (cast_signed w128 (cast_unsigned w128 b))))) ≡ a *ℤ b
in_64 a b left right h k =
    let short : FitsSigned w64 a = int-fits a Int h (inl refl) in
    let by : FitsSigned w64 b = int-fits b Int k (inl refl) in
    let both : FitsSigned w64 (a *ℤ b) = int-product-fits a b h k in
    simp to_z-of_z refl

same : (c : goal.After-bring_int) → cast_signed w64 (cast_unsigned w64 (cast_signed w64 (cast_unsigned w64 (cast_signed w128 (cast_unsigned w128 c.args.a))) *ℤ cast_signed w64 (cast_unsigned w64 (cast_signed w128 (cast_unsigned w128 c.args.b))))) ≡ c.args.a *ℤ c.args.b
same c =
    in_64 c.args.a c.args.b c.ranges.a c.ranges.b (subst (λ (x : Kind). InKind c.args.a x) c.in-Int.is c.requires.left)
    (subst (λ (x : Kind). InKind c.args.b x) c.in-Int.is c.requires.right)

pub returns-in-Int-clause-value : goal.returns-in-Int-clause-value
returns-in-Int-clause-value c = rw c.in-Int.is (brought-as Int _ _ _ c.bring_int.ensures.value (same c))

pub returns-in-Int-clause-overflow : goal.returns-in-Int-clause-overflow
returns-in-Int-clause-overflow c = rw c.in-Int.is (lost-as Int _ _ _ c.bring_int.ensures.overflow (same c))

pub returns-in-Long-clause-overflow : goal.returns-in-Long-clause-overflow
returns-in-Long-clause-overflow c =
    let mine : FitsSigned w128 c.signed_product.result = search rules in
    let is : c.signed_product.result ≡ c.args.a *ℤ c.args.b = search rules in
    lost-as c.args.kind _ _ _ c.bring.ensures.overflow (to_z-of_z w128 c.signed_product.result mine ∙ is)
