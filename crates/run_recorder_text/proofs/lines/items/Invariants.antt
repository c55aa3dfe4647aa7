use Rattle.std.proofs.Common.{◌≡◌, ◌++◌, map}
use Rattle.run_recorder_text.specs.Lines.{item_line}
use Rattle.run_recorder_text.specs.code.Rows.{rows}
use Rattle.run_recorder_text.proofs.lines.items.Given as goal

abbrev pub invariant-loop-one : goal.invariant-loop-one
invariant-loop-one l =
    l.out.items ++ rows (map item_line l.one-iterator) ≡ l.fn.out.items ++ rows (map item_line l.items)
