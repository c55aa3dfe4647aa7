-- The report of a run's races.
use Rattle.std.specs.Prelude.{◌≡◌, ◌<◌, ◌≤◌, ◌⊎◌, true, false, List, ◌∷◌, ◌++◌}
use Rattle.block_layout.specs.declared.place.Loc.{Loc}
use Rattle.upc_values.specs.declared.journal.Journal.{Journal}
use Rattle.upc_values.specs.Lists.{Each, Has, Precedes, Pairwise}
use Rattle.upc_values.specs.Operations.{Operation, Cell}
use Rattle.upc_values.specs.Orders.{rank, name_of, global_order}
use Rattle.race_report.specs.Races.{AreRacing}
use Rattle.race_report.specs.Serial.{IsRun}
use Rattle.race_report_places.specs.declared.report.Race.{Race}
use Rattle.race_report_places.specs.layer.Sights.{Sight, sights, shows_race}

-- One location stands before another: by object, then thread, then offset.
abbrev pub IsBelow : Loc → Loc → Type 0
IsBelow l k =
    (l.object < k.object)
    ⊎ ((l.object ≡ k.object) × ((l.thread < k.thread) ⊎ ((l.thread ≡ k.thread) × (l.offset < k.offset))))

-- The race that is reported of a location: the second is the first operation there, in the order of the history, that
-- races with one before it; the first is, of the lowest thread that has such a one, the last in program order.
pub record IsFirstRace (j : Journal) (l : Loc) (a b : Operation) : Type 0 where
  pub front : List Operation
  pub rest : List Operation
  pub is : global_order j ≡ front ++ b ∷ rest
  pub place : b.place ≡ Cell l
  pub before : Has front a
  pub race : AreRacing j a b
  pub none : (x y : Operation) → Precedes front x y → y.place ≡ Cell l → AreRacing j x y → ⊥
  pub lowest : (x : Operation) → Has front x → AreRacing j x b → a.thread ≤ x.thread
  pub last : (x : Operation) → Has front x → AreRacing j x b → x.thread ≡ a.thread → rank x ≤ rank a

-- The reported pair is the race of its location, by the names of its operations.
pub record IsReported (j : Journal) (r : Race) : Type 0 where
  pub first : Operation
  pub second : Operation
  pub race : IsFirstRace j r.loc first second
  pub first_name : name_of first ≡ r.first
  pub second_name : name_of second ≡ r.second

-- The report of a journal: one race for each location with one, ascending.
pub record IsReport (j : Journal) (races : List Race) : Type 0 where
  pub ascending : Pairwise (λ r s. IsBelow r.loc s.loc) races
  pub each : Each (IsReported j) races
  pub all : (l : Loc) (a b : Operation) → AreRacing j a b → a.place ≡ Cell l → (r : Race) × Has races r × (r.loc ≡ l)

-- Of sights, the first at a location that shows a race with one before it, and of the lowest thread that has such a one
-- the one with the greatest number.
pub record IsFirstShown (all : List Sight) (l : Loc) (a b : Sight) : Type 0 where
  pub front : List Sight
  pub rest : List Sight
  pub is : all ≡ front ++ b ∷ rest
  pub place : b.operation.place ≡ Cell l
  pub before : Has front a
  pub race : shows_race a b ≡ true
  pub none : (x y : Sight) → Precedes front x y → y.operation.place ≡ Cell l → shows_race x y ≡ false
  pub lowest : (x : Sight) → Has front x → shows_race x b ≡ true → a.operation.thread ≤ x.operation.thread
  pub last :
      (x : Sight) → Has front x → shows_race x b ≡ true → x.operation.thread ≡ a.operation.thread
      → x.operation.index ≤ a.operation.index

-- What the sights of a run show first at a location is the race that is reported of it.
abbrev pub ShownIsReported : Type 0
ShownIsReported =
    (j : Journal) (l : Loc) (a b : Sight) → IsRun j → IsFirstShown (sights j) l a b
    → IsFirstRace j l a.operation b.operation

-- No race is shown at a location among these.
abbrev pub IsQuiet : Loc → List Sight → Type 0
IsQuiet l before = (x y : Sight) → Precedes before x y → y.operation.place ≡ Cell l → shows_race x y ≡ false
