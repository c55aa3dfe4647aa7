-- The races that were found, by location.
use Rattle.std.specs.Prelude.{◌≡◌, ◌⊎◌, List, map}
use Rattle.std.specs.declared.cmp.Ordering.{Ordering}
use Rattle.std.specs.Ordering.{nat_cmp, ordering_then}
use Rattle.block_layout.specs.declared.place.Loc.{Loc}
use Rattle.upc_values.specs.Lists.{Each, Has}
use Rattle.race_report_places.specs.declared.report.Race.{Race}
use Rattle.race_report_cells.specs.declared.found.Spot.{Spot}
use Rattle.race_report_cells.specs.declared.found.Found.{Found}

-- A location as a key.
abbrev pub spot_of : Loc → Spot
spot_of l = record { object = l.object; thread = l.thread; offset = l.offset }

-- By object, thread and offset.
abbrev pub spot_cmp : Spot → Spot → Ordering
spot_cmp a b =
    ordering_then (nat_cmp a.object b.object) (ordering_then (nat_cmp a.thread b.thread) (nat_cmp a.offset b.offset))

-- A race stands by its location.
abbrev pub IsKeyedBy : (Spot × Race) → Type 0
IsKeyedBy e = e.0 ≡ spot_of e.1.loc

-- Each race does.
abbrev pub IsKeyed : Found → Type 0
IsKeyed f = Each IsKeyedBy f.races.entries

-- The races that were found, in the order of their locations.
abbrev pub races_in : Found → List Race
races_in f = map (λ e. e.1) f.races.entries

-- A race is put among others: each location that had one has one.
pub record ArePut (race : Race) (old new : List Race) : Type 0 where
  pub has : Has new race
  pub kept : (r : Race) → Has old r → (s : Race) × Has new s × (s.loc ≡ r.loc)
  pub only : (r : Race) → Has new r → Has old r ⊎ (race ≡ r)
