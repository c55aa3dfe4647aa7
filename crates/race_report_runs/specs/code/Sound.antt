-- Sound journals as runs of which races are told.
use Rattle.std.specs.Prelude.{◌≤◌}
use Rattle.upc_values.specs.declared.journal.Journal.{Journal}
use Rattle.upc_values.specs.Sound.{IsSound}
use Rattle.upc_values.specs.Waits.{WaitsFollow}
use Rattle.upc_values.specs.Consistent.{FollowsBuffers}
use Rattle.typed_tree.specs.Programs.{Checked}
use Rattle.source_meaning.specs.Laws.{opening_of}
use Rattle.source_meaning.specs.Threads.{thread_outcome}
use Rattle.race_report.specs.Serial.{IsRun}

-- A journal that is sound for a program is a run of which races are told, where each thread is allowed a tick and an
-- item.
abbrev pub SoundIsARun : Type 0
SoundIsARun =
    (program : Checked) (j : Journal)
    → IsSound (opening_of program) (λ budget t. thread_outcome program t budget) j
    → 1 ≤ j.budget → 1 ≤ j.actions → FollowsBuffers j → WaitsFollow j.threads j.history → IsRun j
