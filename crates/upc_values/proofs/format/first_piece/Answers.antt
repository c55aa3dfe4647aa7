use Rattle.std.proofs.Common.{◌≡◌, ◌<◌, ◌-◌, length, take, drop, ap, ◌∙◌, arith}
use Rattle.std.proofs.lemmas.Grind.{common_steps}
use Rattle.upc_values.specs.Printing as printing
use Rattle.upc_values.proofs.Pieces.{percent-first}
use Rattle.upc_values.proofs.format.first_piece.Goals as goal

pub returns-clause-first : goal.returns-clause-first
returns-clause-first c =
    let xs = c.args.format.now in
    let some : 0 < length xs = grind arith in
    let rest : take (length xs - 1) (drop 1 xs) ≡ drop 1 xs = grind (arith, common_steps) in
    percent-first xs c.found_in-found.result some c.if-first-ne37.false
    (c.found_in-found.ensures.value ∙ ap printing.found_in rest)
