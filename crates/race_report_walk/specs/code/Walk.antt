-- Where a walk over the history of a journal stands.
use Rattle.std.specs.Prelude.{ℕ, ◌≡◌, ◌<◌, List, [], ◌++◌, map, Option, Some, None}
use Rattle.block_layout.specs.declared.place.Loc.{Loc}
use Rattle.upc_values.specs.declared.action.Action.{Action}
use Rattle.upc_values.specs.declared.action.Action.TheVariants.{Read, Write}
use Rattle.upc_values.specs.declared.journal.Entry.{Entry}
use Rattle.upc_values.specs.declared.journal.Journal.{Journal}
use Rattle.upc_values.specs.Lists.{Has}
use Rattle.upc_values.specs.Orders.{placed}
use Rattle.upc_values.specs.Consistent.{FollowsBuffers}
use Rattle.order_builder.specs.declared.names.Named.{Named}
use Rattle.order_builder.specs.layer.Commits.{named, AreCursors}
use Rattle.race_report_clocks.specs.layer.Clocks.{silent}
use Rattle.race_report_tables.specs.declared.tables.Tables.{Tables}
use Rattle.race_report_tables.specs.layer.Tables.{AreClocks}
use Rattle.race_report_places.specs.layer.Sights.{Sight, sights_from}
use Rattle.race_report_cells.specs.declared.cells.Cells.{Cells}
use Rattle.race_report_cells.specs.layer.Cells.{IsWalked}

-- The location that an action reads or writes, if it does.
abbrev pub location_of : Action → Option Loc
location_of (Read l s) = Some l
location_of (Write s l v) = Some l
location_of a = None

-- The operations in the places of these entries, with which a history begins, and what is known there.
abbrev pub sights_before : Journal → List Entry → List Sight
sights_before j before = sights_from j [] silent before

-- An entry stands in the history of a journal, and the operations in its place have these names.
pub record IsEntry (j : Journal) (e : Entry) (names : List Named) : Type 0 where
  pub follows : FollowsBuffers j
  pub below : e.thread < j.threads
  pub has : Has j.history e
  pub names_are : names ≡ map named (placed j e)

-- The walk has gone through the entries before those that are left.
pub record HasWalked (j : Journal) (left : List Entry) (cursors : List ℕ) (tables : Tables) (cells : Cells)
    : Type 0 where
  pub before : List Entry
  pub parts : before ++ left ≡ j.history
  pub cursors_are : AreCursors j before cursors
  pub clocks : AreClocks j.threads before tables
  pub walked : IsWalked cells (sights_before j before)
