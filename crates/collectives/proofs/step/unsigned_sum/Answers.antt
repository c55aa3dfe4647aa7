use Rattle.std.proofs.Common.{ap, ◌∙◌, arith, rules}
use Rattle.std.proofs.Math.IntN.{ℤ, ◌+ℤ◌}
use Rattle.std.proofs.lemmas.Int.{ints, to_z-of_z}
use mir.Syntax.{w128}
use mir.Val.{SFits}
use Rattle.integers.specs.Integers.{converted}
use Rattle.collectives.proofs.Classes.{class-sum}
use Rattle.collectives.proofs.step.unsigned_sum.Goals as goal

pub returns : goal.returns
returns c =
    let kind = c.args.kind in
    let a : SFits w128 c.args.a = search rules in
    let b : SFits w128 c.args.b = search rules in
    let first : SFits w128 c.wrapped.result = search rules in
    let second : SFits w128 c.wrapped-2.result = search rules in
    let third : SFits w128 c.wrapped-3.result = search rules in
    let both : SFits w128 (c.wrapped.result +ℤ c.wrapped-2.result) = search (arith, ints) in
    let left = simp to_z-of_z at c.wrapped.ensures.value in
    let right = simp to_z-of_z at c.wrapped-2.ensures.value in
    let whole = simp to_z-of_z at c.wrapped-3.ensures.value in
    simp to_z-of_z
    (whole ∙ ap (λ (x : ℤ). converted kind (x +ℤ c.wrapped-2.result)) left ∙ ap (λ (y : ℤ). converted kind (converted kind c.args.a +ℤ y)) right
    ∙ class-sum kind c.args.a c.args.b)
