use Rattle.std.proofs.Common.{take}
use Rattle.run_recorder.specs.code.Finding.{AreTables}
use Rattle.run_recorder.proofs.entries.tables.Given as goal

abbrev pub invariant-loop-strand : goal.invariant-loop-strand
invariant-loop-strand l = AreTables (take l.strand-index l.strands) l.tables.items
