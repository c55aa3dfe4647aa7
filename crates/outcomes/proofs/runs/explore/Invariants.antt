use Rattle.std.proofs.Common.{map, take}
use Rattle.typed_tree.specs.ViewProgram.{view_program}
use Rattle.outcomes.specs.Tally.{listed}
use Rattle.outcomes.specs.Found.{IsFound}
use Rattle.outcomes.proofs.runs.explore.Given as goal

abbrev pub invariant-loop-picks : goal.invariant-loop-picks
invariant-loop-picks g l =
    IsFound (view_program l.program) l.limits (map (λ v. v.items) (take l.picks-index l.schedules)) (map listed l.rows.items)
