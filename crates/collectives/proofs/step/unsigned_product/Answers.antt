use Rattle.std.proofs.Common.{◌≡◌, ◌*◌, ◌%◌, sym, ap, ◌∙◌, arith, rules}
use Rattle.std.proofs.Math.IntN.{ℤ, pos, ◌*ℤ◌, pos-*ℤ-pos}
use Rattle.std.proofs.lemmas.Int.{ints, to_z-of_z}
use mir.Syntax.{w128}
use mir.Val.{SFits, to_z}
use Rattle.integers.specs.Integers.{converted}
use Rattle.collectives.proofs.Classes.{class-product, class-rest}
use Rattle.collectives.proofs.step.unsigned_product.Goals as goal

pub returns : goal.returns
returns c =
    let kind = c.args.kind in
    let n = c.class.result * c.class-2.result in
    let a : SFits w128 c.args.a = search rules in
    let b : SFits w128 c.args.b = search rules in
    let third : SFits w128 c.convert.result = search rules in
    let left = simp to_z-of_z at c.class.ensures.value in
    let right = simp to_z-of_z at c.class-2.ensures.value in
    let small : to_z w128 (n % 18446744073709551616) ≡ pos (n % 18446744073709551616) = omega (arith, ints) in
    simp to_z-of_z
    (c.convert.ensures.value
    ∙ ap (converted kind) small
    ∙ class-rest kind n c.requires.promoted
    ∙ ap (converted kind) (sym (pos-*ℤ-pos c.class.result c.class-2.result))
    ∙ ap (λ (x : ℤ). converted kind (x *ℤ pos c.class-2.result)) left
    ∙ ap (λ (y : ℤ). converted kind (converted kind c.args.a *ℤ y)) right
    ∙ class-product kind c.args.a c.args.b)
