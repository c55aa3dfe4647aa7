use Rattle.std.proofs.Common.{rules, w32}
use Rattle.std.proofs.lemmas.Int.{to_z-of_z}
use mir.Val.{SFits}
use Rattle.collectives.proofs.Truths.{first-fails, second-fails, third-decides}
use Rattle.collectives.proofs.arguments.are_reduction_args.Goals as goal

pub returns-then-not-are_flags : goal.returns-then-not-are_flags
returns-then-not-are_flags c =
    let fits : SFits w32 c.args.flags = search rules in
    let flags = simp to_z-of_z at c.are_flags.ensures in
    first-fails _ _ _ flags c.if-not-are_flags.true

pub returns-then-not-is_operator : goal.returns-then-not-is_operator
returns-then-not-is_operator c =
    let fits : SFits w32 c.args.flags = search rules in
    let flags = simp to_z-of_z at c.are_flags.ensures in
    let near : SFits w32 c.args.operands.now.op = search rules in
    let operator = simp to_z-of_z at c.is_operator.ensures in
    second-fails _ _ _ _ _ flags c.if-not-are_flags.false operator c.if-not-is_operator.true

pub returns : goal.returns
returns c =
    let fits : SFits w32 c.args.flags = search rules in
    let flags = simp to_z-of_z at c.are_flags.ensures in
    let near : SFits w32 c.args.operands.now.op = search rules in
    let operator = simp to_z-of_z at c.is_operator.ensures in
    third-decides _ _ _ _ _ _ flags c.if-not-are_flags.false operator c.if-not-is_operator.false c.are_sizes.ensures
