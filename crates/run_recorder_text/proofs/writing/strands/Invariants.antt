use Rattle.std.proofs.Common.{◌≡◌, ◌++◌, drop}
use Rattle.run_recorder_text.specs.Lines.{numbered_lines, strand_lines}
use Rattle.run_recorder_text.specs.code.Rows.{rows}
use Rattle.run_recorder_text.proofs.writing.strands.Given as goal

abbrev pub invariant-loop-t : goal.invariant-loop-t
invariant-loop-t l =
    l.out.items ++ rows (numbered_lines strand_lines l.t (drop l.t l.strands))
    ≡ l.fn.out.items ++ rows (numbered_lines strand_lines 0 l.strands)
