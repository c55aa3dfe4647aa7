-- Ends that a thread does not come to by itself.
use Rattle.std.specs.Prelude.{Bool, true, false}
use Rattle.upc_values.specs.declared.record.End.{End}
use Rattle.upc_values.specs.declared.record.End.TheVariants.{Halted, Deadlocked}

-- An end that a thread is given where it stands, as the run ends.
abbrev pub is_given : End → Bool
is_given Halted = true
is_given (Deadlocked a) = true
is_given e = false
