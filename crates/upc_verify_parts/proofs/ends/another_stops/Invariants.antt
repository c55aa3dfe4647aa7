use Rattle.std.proofs.Common.{◌≡◌, ◌≢◌, ◌<◌, ℕ, false, get_or}
use Rattle.upc_values.specs.declared.journal.Strand.{Strand}
use Rattle.upc_values.specs.Ends.{stops}
use Rattle.upc_verify_parts.proofs.ends.another_stops.Given as goal

-- no other strand so far ends the run
abbrev pub invariant-loop-number : goal.invariant-loop-number
invariant-loop-number l =
    (u : ℕ) (d : Strand) → u < l.number → u ≢ l.thread → stops (get_or l.strands u d).«end» ≡ false
