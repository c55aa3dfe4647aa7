-- Races of a journal.
use Rattle.std.specs.Prelude.{◌≡◌, ◌≢◌, true, false, ◌&&◌, ◌||◌}
use Rattle.upc_values.specs.declared.journal.Journal.{Journal}
use Rattle.upc_values.specs.Operations.{Operation}
use Rattle.upc_values.specs.Orders.{IsOf}
use Rattle.upc_values.specs.Consistent.{same_place}
use Rattle.race_report.specs.Reach.{ComesBefore}

-- Two operations of a journal race: they are of different threads and at one place, one of them is a write, one of them
-- is relaxed, and neither comes before the other.
pub record AreRacing (j : Journal) (a b : Operation) : Type 0 where
  pub first : IsOf j a
  pub second : IsOf j b
  pub threads : a.thread ≢ b.thread
  pub place : same_place a.place b.place ≡ true
  pub writes : (a.write || b.write) ≡ true
  pub relaxed : (a.strict && b.strict) ≡ false
  pub not_before : ComesBefore j a b → ⊥
  pub not_after : ComesBefore j b a → ⊥

-- No two operations of the journal race.
abbrev pub IsRaceFree : Journal → Type 0
IsRaceFree j = (a b : Operation) → AreRacing j a b → ⊥
