use Rattle.std.proofs.Common.{rules, ◌≡◌, ◌*◌, ◌%◌, ◌^◌, FitsSigned, unsigned_abs, ◌∙◌}
use Rattle.std.proofs.Math.IntN.{pos}
use Rattle.std.specs.Int.{w128}
use Rattle.std.proofs.lemmas.Int.{to_z-of_z}
use Rattle.integers.specs.Integers.{converted}
use Rattle.integers.proofs.Conversions.{low-product}
use Rattle.integers.proofs.arithmetic.unsigned_product.Goals as goal

pub returns-clause-value : goal.returns-clause-value
returns-clause-value c =
    let left : FitsSigned w128 c.args.a = c.ranges.a in
    let right : FitsSigned w128 c.args.b = c.ranges.b in
    let mine : FitsSigned w128 c.taken.result = search rules in
    let e : c.taken.result ≡ converted c.args.kind (pos (unsigned_abs c.args.a * unsigned_abs c.args.b % 2 ^ 64)) = simp to_z-of_z at c.taken.ensures.value in
    to_z-of_z w128 c.taken.result mine ∙ e ∙ low-product c.args.a c.args.b c.args.kind c.requires.left.0 c.requires.right.0
