use Rattle.std.proofs.Common.{◌∙◌, ap, ℤ, FitsSigned, rules}
use Rattle.std.specs.Int.{w128}
use Rattle.std.proofs.lemmas.Int.{to_z-of_z}
use Rattle.block_layout.specs.Places.{offset_at}
use Rattle.block_layout.specs.Pointers.{row_offset}
use Rattle.typing_rules_checks.proofs.Wide.{wide_sum}
use Rattle.typing_rules_checks.proofs.addresses.offset_in_row.Goals as goal

pub returns : goal.returns
returns c =
    let mine : FitsSigned w128 c.args.e = search rules in
    let same = ap (λ (z : ℤ). offset_at z c.args.block c.args.size c.args.threads) (to_z-of_z w128 c.args.e mine) in
    wide_sum c.offset_of-offset.result c.row_begin-row.result
    (offset_at c.args.e c.args.block c.args.size c.args.threads) (row_offset c.args.p.now c.args.size)
    (c.offset_of-offset.ensures.value
    ∙ same) c.row_begin-row.ensures.value c.offset_of-offset.ensures.bound c.row_begin-row.ensures.bound
