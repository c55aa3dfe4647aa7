-- Runs without races.
use Rattle.std.specs.Prelude.{List, []}
use Rattle.block_layout.specs.declared.place.Loc.{Loc}
use Rattle.upc_values.specs.declared.scalar.Scalar.{Scalar}
use Rattle.upc_values.specs.declared.journal.Journal.{Journal}
use Rattle.upc_values.specs.Lists.{Pairwise}
use Rattle.upc_values.specs.Openings.{Opening}
use Rattle.upc_values.specs.History.{IsLegal}
use Rattle.upc_values.specs.Operations.{Operation}
use Rattle.upc_values.specs.Orders.{IsOf}
use Rattle.upc_values.specs.Consistent.{IsOrderOf, ReadsLast, begins}
use Rattle.race_report.specs.Races.{IsRaceFree}
use Rattle.race_report.specs.Serial.{AreInOrder, IsRun, serial_list}
use Rattle.race_report_places.specs.Report.{IsReport}

-- A list makes the operations of a journal sequentially consistent: it has each of them once and keeps the program
-- order of each thread, and each read has in it the value of the last write before it on its location, or the initial
-- value if there is none.
pub record IsSequential (initial : Loc → Scalar) (j : Journal) (list : List Operation) : Type 0 where
  pub whole : IsOrderOf (IsOf j) list
  pub program : Pairwise AreInOrder list
  pub values : ReadsLast initial list

-- Where the report of a journal is empty, no two operations race.
abbrev pub EmptyIsRaceFree : Type 0
EmptyIsRaceFree = (j : Journal) → IsReport j [] → IsRaceFree j

-- Where the report of a run is empty and its history is legal, the serial order makes it sequentially consistent.
abbrev pub EmptyIsSequential : Type 0
EmptyIsSequential =
    (j : Journal) (o : Opening) → IsRun j → IsReport j [] → IsLegal o j.history
    → IsSequential (begins o j.history) j (serial_list j)
