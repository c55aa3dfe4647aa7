use Rattle.std.proofs.Common.{◌≡◌, ◌++◌, map}
use Rattle.run_recorder_text.specs.Lines.{entry_line}
use Rattle.run_recorder_text.specs.code.Rows.{rows}
use Rattle.run_recorder_text.proofs.lines.entries.Given as goal

abbrev pub invariant-loop-one : goal.invariant-loop-one
invariant-loop-one l =
    l.out.items ++ rows (map entry_line l.one-iterator)
    ≡ l.fn.out.items ++ rows (map entry_line l.entries)
