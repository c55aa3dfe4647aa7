use Rattle.std.proofs.Common.{rules, ◌≡◌, ◌*◌, arith, ap, ◌∙◌, FitsSigned}
use Rattle.std.specs.Int.{w128}
use Rattle.std.proofs.Math.IntN.{ℤ, pos, ◌-ℤ◌, ◌*ℤ◌}
use Rattle.std.proofs.lemmas.Int.{ints, to_z-of_z}
use Rattle.block_layout.specs.Floor.{floor_div}
use Rattle.block_layout.specs.Pointers.{row_offset}
use Rattle.shared_pointers.proofs.apart.rows_apart.Goals as goal

pub returns-clause-value : goal.returns-clause-value
returns-clause-value c =
    let bytes : c.from.result ≡ row_offset c.args.q.now c.args.size -ℤ row_offset c.args.p.now c.args.size = omega (arith, ints, c.from.ensures, c.row_offset.ensures.value, c.row_offset-2.ensures.value) in
    let fits : FitsSigned w128 c.from.result = search rules in
    let mine : FitsSigned w128 c.elements_of_all_rows.result = search rules in
    simp to_z-of_z (simp to_z-of_z at c.elements_of_all_rows.ensures.value ∙ ap (λ (z : ℤ). floor_div z (c.args.block * c.args.size) *ℤ pos c.args.block *ℤ pos c.args.threads) bytes)
