-- What the clocks of a history tell of its operations.
use Rattle.std.specs.Prelude.{◌≡◌, ◌≢◌, ◌<◌, ◌≤◌, ◌↔◌, true, false, ◌&&◌, ◌||◌, List, ◌∷◌, ◌++◌}
use Rattle.block_layout.specs.declared.place.Loc.{Loc}
use Rattle.upc_values.specs.declared.journal.Entry.{Entry}
use Rattle.upc_values.specs.declared.journal.Journal.{Journal}
use Rattle.upc_values.specs.Lists.{Has, Precedes}
use Rattle.upc_values.specs.Operations.{Operation, Cell}
use Rattle.upc_values.specs.Orders.{IsOf, placed, global_order}
use Rattle.upc_values.specs.Consistent.{same_place}
use Rattle.race_report.specs.Reach.{ComesBefore}
use Rattle.race_report.specs.Races.{AreRacing}
use Rattle.race_report.specs.Serial.{IsRun}
use Rattle.race_report_clocks.specs.layer.Clocks.{known, clocks}

-- An operation on a location comes before one of another thread just where its number is below what is known of its
-- thread with the entry in whose place the other stands.
abbrev pub ClocksTell : Type 0
ClocksTell =
    (j : Journal) (front rest : List Entry) (e : Entry) (x y : Operation) (l : Loc)
    → IsRun j → j.history ≡ front ++ e ∷ rest → IsOf j x → x.place ≡ Cell l → Has (placed j e) y
    → x.thread ≢ y.thread → (ComesBefore j x y ↔ (x.index < known front (clocks front) e x.thread))

-- An operation that comes before one of another thread stands before it in the order of the history.
abbrev pub ComesForward : Type 0
ComesForward =
    (j : Journal) (a b : Operation) → IsRun j → IsOf j a → IsOf j b → a.thread ≢ b.thread → ComesBefore j a b
    → Precedes (global_order j) a b

-- Two operations might race: they are of different threads and at one place, one of them is a write, one is relaxed.
pub record MightRace (a b : Operation) : Type 0 where
  pub threads : a.thread ≢ b.thread
  pub place : same_place a.place b.place ≡ true
  pub writes : (a.write || b.write) ≡ true
  pub relaxed : (a.strict && b.strict) ≡ false

-- An operation and a later one race just where they might, and what is known of the first one's thread with the entry
-- in whose place the other stands is not above its number.
abbrev pub ClocksShowRaces : Type 0
ClocksShowRaces =
    (j : Journal) (front rest : List Entry) (e : Entry) (x y : Operation)
    → IsRun j → j.history ≡ front ++ e ∷ rest → Has (placed j e) y → Precedes (global_order j) x y
    → (AreRacing j x y ↔ (MightRace x y × (known front (clocks front) e x.thread ≤ x.index)))
