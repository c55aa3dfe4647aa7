use Rattle.std.proofs.Common.{◌≡◌, ◌++◌, drop}
use Rattle.std.specs.List.{flat_map}
use Rattle.race_report_text.specs.Lines.{race_line}
use Rattle.race_report_text.proofs.lines.races_text.Given as goal

abbrev pub invariant-loop-race : goal.invariant-loop-race
invariant-loop-race l =
    l.text.items ++ flat_map race_line (drop l.race-index l.races)
    ≡ l.fn.text.items ++ flat_map race_line l.races
