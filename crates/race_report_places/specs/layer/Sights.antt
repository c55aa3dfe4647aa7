-- The operations of a journal in the order of the history, each with what its thread knows where it stands.
use Rattle.std.specs.Prelude.{◌≡◌, ◌==◌, ◌↔◌, nat_le, Bool, true, not, ◌&&◌, ◌||◌}
use Rattle.std.specs.Prelude.{List, [], ◌∷◌, ◌++◌, map}
use Rattle.upc_values.specs.declared.journal.Entry.{Entry}
use Rattle.upc_values.specs.declared.journal.Journal.{Journal}
use Rattle.upc_values.specs.Lists.{Precedes}
use Rattle.upc_values.specs.Operations.{Operation}
use Rattle.upc_values.specs.Orders.{placed, global_order}
use Rattle.upc_values.specs.Consistent.{same_place}
use Rattle.race_report.specs.Races.{AreRacing}
use Rattle.race_report.specs.Serial.{IsRun}
use Rattle.race_report_clocks.specs.layer.Clocks.{Clock, Clocks, known, silent, advanced}

-- An operation with what its thread knows of each thread where it stands.
pub record Sight : Type 0 where
  pub operation : Operation
  pub known : Clock

-- These operations, with what is known there.
abbrev pub seen_with : Clock → List Operation → List Sight
seen_with k os = map (λ o. record { operation = o; known = k }) os

-- The operations in the places of these entries, which stand after others that made these clocks.
abbrev pub sights_from : Journal → List Entry → Clocks → List Entry → List Sight
sights_from j before c [] = []
sights_from j before c (e ∷ es) =
    seen_with (known before c e) (placed j e) ++ sights_from j (before ++ e ∷ []) (advanced before c e) es

-- The operations of a journal in the order of the history, each with what is known there.
abbrev pub sights : Journal → List Sight
sights j = sights_from j [] silent j.history

-- Two operations are of different threads and at one place, one of them is a write, and one of them is relaxed.
abbrev pub might_race : Operation → Operation → Bool
might_race a b =
    not (a.thread == b.thread)
    && (same_place a.place b.place && ((a.write || b.write) && not (a.strict && b.strict)))

-- An operation races with an earlier one: they might race, and the earlier one's number is not below what is known.
abbrev pub shows_race : Sight → Sight → Bool
shows_race a b =
    might_race a.operation b.operation && nat_le (b.known a.operation.thread) a.operation.index

-- The sights are the operations in the order of the history, and show just which of them race.
pub record ShowRaces (j : Journal) : Type 0 where
  pub whole : map (λ s. s.operation) (sights j) ≡ global_order j
  pub exact :
      (a b : Sight) → Precedes (sights j) a b → (AreRacing j a.operation b.operation ↔ (shows_race a b ≡ true))

-- The sights of every run are so.
abbrev pub SightsShowRaces : Type 0
SightsShowRaces = (j : Journal) → IsRun j → ShowRaces j
