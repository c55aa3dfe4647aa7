use Rattle.std.proofs.Common.{◌≡◌, drop}
use Rattle.run_recorder.specs.code.Finding.{entries_of}
use Rattle.run_recorder.proofs.Tables.{behind}
use Rattle.run_recorder.proofs.entries.entries.Given as goal

abbrev pub invariant-loop-name : goal.invariant-loop-name
invariant-loop-name l = behind l.entries.items (entries_of l.strands (drop l.name-index l.names))
    ≡ entries_of l.strands l.names
