-- What threads' sources come to, as the program has it.
use Rattle.std.specs.Prelude.{ℕ, List, [], slice_index_or}
use Rattle.upc_values.specs.declared.record.ToldEnd.TheVariants.{OutOfTicks}
use Rattle.upc_values.specs.Outcomes.{Outcome}
use Rattle.upc_verify_judge.specs.declared.meant.Meant.{Meant}

-- The outcome that it stands for.
abbrev pub outcome_of : Meant → Outcome
outcome_of m = record { actions = m.actions; ticks = m.ticks; «end» = m.«end» }

-- What stands for one that is missing.
abbrev pub none_meant : Meant
none_meant = record { actions = []; ticks = 0; «end» = OutOfTicks }

-- The outcome of thread t among these.
abbrev pub outcome_in : List Meant → ℕ → Outcome
outcome_in meant t = outcome_of (slice_index_or meant t none_meant)
