use Rattle.std.proofs.Common.{rules, FitsSigned, int_rem, ◌∙◌}
use Rattle.std.specs.Int.{w64, w128}
use Rattle.std.proofs.lemmas.Int.{to_z-of_z}
use Rattle.integers.proofs.Conversions.{rest-fits, int-fits, long-fits}
use Rattle.integers.proofs.arithmetic.left_over.Goals as goal

pub returns-in-Int : goal.returns-in-Int
returns-in-Int c =
    let left : FitsSigned w128 c.args.a = c.ranges.a in
    let right : FitsSigned w128 c.args.b = c.ranges.b in
    let short : FitsSigned w64 c.args.a = int-fits c.args.a c.args.kind c.requires.left c.in-Int.is in
    let by : FitsSigned w64 c.args.b = int-fits c.args.b c.args.kind c.requires.right c.in-Int.is in
    let both : FitsSigned w64 (int_rem c.args.a c.args.b) = rest-fits c.args.a c.args.b short in
    let mine : FitsSigned w128 c.from.result = search rules in
    record { value = to_z-of_z w128 c.from.result mine ∙ (simp to_z-of_z at c.from.ensures) }

pub returns-in-Long : goal.returns-in-Long
returns-in-Long c =
    let left : FitsSigned w128 c.args.a = c.ranges.a in
    let right : FitsSigned w128 c.args.b = c.ranges.b in
    let short : FitsSigned w64 c.args.a = long-fits c.args.a c.args.kind c.requires.left c.in-Long.is in
    let by : FitsSigned w64 c.args.b = long-fits c.args.b c.args.kind c.requires.right c.in-Long.is in
    let both : FitsSigned w64 (int_rem c.args.a c.args.b) = rest-fits c.args.a c.args.b short in
    let mine : FitsSigned w128 c.from-in-Long.result = search rules in
    record { value = to_z-of_z w128 c.from-in-Long.result mine ∙ (simp to_z-of_z at c.from-in-Long.ensures) }
