use Rattle.std.proofs.Common.{take, slice_index}
use Rattle.race_report_cells.specs.code.Lasts.{IsFound, races_by}
use Rattle.race_report_cells.proofs.lasts.first_racing.Given as goal

abbrev pub invariant-loop-last : goal.invariant-loop-last
invariant-loop-last l =
    IsFound (races_by (λ u. slice_index l.known u) l.now) (take l.last-index l.list) l.found
