use Rattle.std.proofs.Common.{◌+◌, Bool, false, get_or, take, slice_index, sym, subst}
use Rattle.std.proofs.lemmas.List.{take_more}
use Rattle.order_builder.specs.declared.names.Named.{Named}
use Rattle.race_report_cells.specs.code.Lasts.{races_by, chosen, IsFound}
use Rattle.race_report_cells.proofs.Choosing.{found-more}
use Rattle.race_report_cells.proofs.lasts.first_racing.Goals as goal

pub loop-last-preserved : goal.loop-last-preserved
loop-last-preserved c =
    let xs = c.args.list.now in
    let i = c.loop-last.last-index in
    let d : Named = record { name = record { thread = 0; index = 0; write = false }; strict = false } in
    let test : Named → Bool = races_by (λ u. slice_index c.args.known.now u) c.args.now in
    subst (IsFound test (take (i + 1) xs)) (sym c.chosen-found.ensures)
    (subst (λ z. IsFound test z (chosen test c.loop-last.found (get_or xs i d))) (sym (take_more xs i d c.loop-last-test.true))
    (found-more test (take i xs) (get_or xs i d) c.loop-last.found c.loop-last.invariant))
