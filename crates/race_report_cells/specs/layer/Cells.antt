-- What is kept of the operations on each location, after those that a walk has seen.
use Rattle.std.specs.Prelude.{◌≡◌, true, false, List, [], length}
use Rattle.block_layout.specs.declared.place.Loc.{Loc}
use Rattle.upc_values.specs.Lists.{Has}
use Rattle.upc_values.specs.Operations.{Operation, Cell}
use Rattle.upc_values.specs.Orders.{name_of}
use Rattle.order_builder.specs.declared.names.Named.{Named}
use Rattle.order_builder.specs.layer.Commits.{named}
use Rattle.race_report_clocks.specs.declared.channel.Channel.TheVariants as over
use Rattle.race_report_tables.specs.layer.Places.{place_of, member_at, ArePlaced}
use Rattle.race_report_places.specs.declared.report.Race.{Race}
use Rattle.race_report_places.specs.layer.Sights.{Sight}
use Rattle.race_report_places.specs.Report.{IsFirstShown, IsQuiet}
use Rattle.race_report_cells.specs.declared.cell.Cell as program
use Rattle.race_report_cells.specs.declared.cells.Cells.{Cells}
use Rattle.race_report_cells.specs.code.Lasts.{IsUpTo}
use Rattle.race_report_cells.specs.layer.Found.{IsKeyed, races_in}

-- An operation is on a location.
abbrev pub IsOn : Loc → Operation → Type 0
IsOn l o = o.place ≡ Cell l

-- What is kept of a location without operations.
abbrev pub fresh : program.Cell
fresh = record { lasts = []; raced = false }

-- What is kept of a location.
abbrev pub cell_at : Cells → Loc → program.Cell
cell_at c l = member_at fresh c.cells.items (place_of c.places (over.Cell l))

-- Of the operations on a location that were seen, of each thread and kind one that is not before the others.
pub record Keeps (l : Loc) (lasts : List Named) (before : List Sight) : Type 0 where
  pub only :
      (n : Named) → Has lasts n
      → (a : Sight) × Has before a × IsOn l a.operation × (named a.operation ≡ n)
  pub all :
      (a : Sight) → Has before a → IsOn l a.operation → (n : Named) × Has lasts n × IsUpTo (named a.operation) n

-- The race is the first that was shown at its location.
pub record IsShown (before : List Sight) (r : Race) : Type 0 where
  pub first : Sight
  pub second : Sight
  pub shown : IsFirstShown before r.loc first second
  pub first_name : name_of first.operation ≡ r.first
  pub second_name : name_of second.operation ≡ r.second

-- Each location has a place of its own, and each race that was found stands by its location.
pub record IsKept (c : Cells) : Type 0 where
  pub placed : ArePlaced c.places (length c.cells.items)
  pub keyed : IsKeyed c.found

-- The operations that a walk has seen are kept: at each location there is no race, and its last operations are kept, or
-- a race there was found, the first one.
pub record IsWalked (c : Cells) (before : List Sight) : Type 0 where
  pub kept : IsKept c
  pub quiet : (l : Loc) → (cell_at c l).raced ≡ false → IsQuiet l before × Keeps l (cell_at c l).lasts before
  pub raced : (l : Loc) → (cell_at c l).raced ≡ true → (r : Race) × Has (races_in c.found) r × (r.loc ≡ l)
  pub found : (r : Race) → Has (races_in c.found) r → IsShown before r
