use Rattle.std.proofs.Common.{◌≡◌, ◌++◌, drop, map}
use Rattle.run_recorder_text.specs.Lines.{op_line}
use Rattle.run_recorder_text.specs.code.Rows.{rows}
use Rattle.run_recorder_text.proofs.lines.ops.Given as goal

abbrev pub invariant-loop-one : goal.invariant-loop-one
invariant-loop-one l =
    l.out.items ++ rows (map op_line (drop l.one-index l.ops)) ≡ l.fn.out.items ++ rows (map op_line l.ops)
