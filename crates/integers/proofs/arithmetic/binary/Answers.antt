use Rattle.std.proofs.Common.{rules, FitsSigned, Ok, ap, ◌∙◌}
use Rattle.std.proofs.lemmas.Int.{to_z-of_z}
use Rattle.std.specs.Int.{w128}
use Rattle.integers.proofs.Conversions.{low-and, low-xor, low-or}
use Rattle.integers.proofs.arithmetic.binary.Goals as goal

pub returns-in-Divide-clause-overflow : goal.returns-in-Divide-clause-overflow
returns-in-Divide-clause-overflow c =
    let left : FitsSigned w128 c.args.a = c.ranges.a in
    let right : FitsSigned w128 c.args.b = c.ranges.b in
    rw c.in-Divide.is (simp to_z-of_z at c.quotient.ensures.overflow)

pub returns-in-ShiftLeft-clause-overflow : goal.returns-in-ShiftLeft-clause-overflow
returns-in-ShiftLeft-clause-overflow c =
    let left : FitsSigned w128 c.args.a = c.ranges.a in
    let right : FitsSigned w128 c.args.b = c.ranges.b in
    rw c.in-ShiftLeft.is (simp to_z-of_z at c.shift_left.ensures.overflow)

pub returns-in-BitAnd-clause-value : goal.returns-in-BitAnd-clause-value
returns-in-BitAnd-clause-value c =
    let left : FitsSigned w128 c.args.a = c.ranges.a in
    let right : FitsSigned w128 c.args.b = c.ranges.b in
    let mine : FitsSigned w128 c.taken.result = search rules in
    let both = low-and c.args.a c.args.b c.args.kind c.low_bits.result c.low_bits-in-BitAnd.result (simp to_z-of_z at c.low_bits.ensures) (simp to_z-of_z at c.low_bits-in-BitAnd.ensures) in
    rw c.in-BitAnd.is (ap Ok (to_z-of_z w128 c.taken.result mine ∙ c.taken.ensures.value ∙ both))

pub returns-in-BitXor-clause-value : goal.returns-in-BitXor-clause-value
returns-in-BitXor-clause-value c =
    let left : FitsSigned w128 c.args.a = c.ranges.a in
    let right : FitsSigned w128 c.args.b = c.ranges.b in
    let mine : FitsSigned w128 c.taken-in-BitXor.result = search rules in
    let both = low-xor c.args.a c.args.b c.args.kind c.low_bits-in-BitXor.result c.low_bits-in-BitXor-2.result (simp to_z-of_z at c.low_bits-in-BitXor.ensures) (simp to_z-of_z at c.low_bits-in-BitXor-2.ensures) in
    rw c.in-BitXor.is (ap Ok (to_z-of_z w128 c.taken-in-BitXor.result mine ∙ c.taken-in-BitXor.ensures.value ∙ both))

pub returns-in-BitOr-clause-value : goal.returns-in-BitOr-clause-value
returns-in-BitOr-clause-value c =
    let left : FitsSigned w128 c.args.a = c.ranges.a in
    let right : FitsSigned w128 c.args.b = c.ranges.b in
    let mine : FitsSigned w128 c.taken-in-BitOr.result = search rules in
    let both = low-or c.args.a c.args.b c.args.kind c.low_bits-in-BitOr.result c.low_bits-in-BitOr-2.result (simp to_z-of_z at c.low_bits-in-BitOr.ensures) (simp to_z-of_z at c.low_bits-in-BitOr-2.ensures) in
    rw c.in-BitOr.is (ap Ok (to_z-of_z w128 c.taken-in-BitOr.result mine ∙ c.taken-in-BitOr.ensures.value ∙ both))
