-- Ends at which a thread may wait.
use Rattle.std.specs.Prelude.{◌≡◌, true}
use Rattle.upc_values.specs.declared.record.End.{End}
use Rattle.upc_values.specs.declared.record.End.TheVariants.{Deadlocked}
use Rattle.upc_values.specs.Strands.{may_wait}

-- A deadlocked thread wants a Lock or a Wait.
abbrev pub MayWaitAt : End → Type 0
MayWaitAt (Deadlocked a) = may_wait a ≡ true
MayWaitAt e = Unit {0}
