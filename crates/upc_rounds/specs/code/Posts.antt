-- What the conductor of a run knows of the boxes through which it hands tasks to the other threads.
use Rattle.std.specs.Prelude.{◌≡◌, ℕ, suc, ◌<◌, List, length, slice_index_or}
use Rattle.turn_cell.specs.declared.cell.TurnCell.{TurnCell}
use Rattle.turn_cell.specs.layer.Seats.{id_of, started}
use Rattle.post_box.specs.declared.post.PostBox.{PostBox}
use Rattle.post_box.specs.declared.post.Owner.{Owner}
use Rattle.post_box.specs.layer.Boxes.{work_of}
use Rattle.post_box.specs.layer.Rows.{AreIdle}
use Rattle.upc_values.specs.declared.journal.Entry.{Entry}
use Rattle.upc_values.specs.Openings.{Opening}
use Rattle.stack_code.specs.layer.Codes.{Codes}
use Rattle.upc_task.specs.layer.Sources.{Outcomes}
use Rattle.upc_task.specs.layer.Seated.{IsTask}
use Rattle.upc_rounds.specs.declared.posts.Part.{Part}
use Rattle.upc_rounds_teams.specs.declared.place.Place.{Place}
use Rattle.upc_rounds_teams.specs.layer.Runs.{AreSame}
use Rattle.upc_rounds_teams.specs.layer.Teams.{IsTeam, IsDone, HasEnded, workers_of}

-- The cell of a run.
abbrev pub Cell : Type 0
Cell = TurnCell (Opening × List Entry) Entry Opening

-- A box for tasks.
abbrev pub TaskBox : Type 0
TaskBox = PostBox Part Place

-- A thread may go on with the task of this place.
abbrev pub MayPlay : Cell → Codes → Place → Type 0
MayPlay cell code k = (f : Outcomes) × IsTask (id_of cell) (started cell).0 code f k.task

-- The box is for this cell and this code.
abbrev pub IsFor : Cell → Codes → TaskBox → Type 0
IsFor cell code b = ((work_of b).cell.value ≡ cell) × ((work_of b).code.value ≡ code)

-- Each box is for this cell and this code.
abbrev pub AreFor : Cell → Codes → List TaskBox → Type 0
AreFor cell code bs = (i : ℕ) (b : TaskBox) → i < length bs → IsFor cell code (slice_index_or bs i b)

-- The boxes are for this cell and this code, one for each of the places but the first, and no place is out.
pub record IsStaffed (cell : Cell) (code : Codes) (bs : List TaskBox) (os : List (Owner Part Place)) (places : ℕ)
    : Type 0 where
  pub many : places ≡ suc (length bs)
  pub owned : length os ≡ length bs
  pub work : AreFor cell code bs
  pub idle : AreIdle bs os

-- What all rounds of a run make of its places.
pub record HasRun (cell : Cell) (code : Codes) (ks ms : List Place) : Type 0 where
  pub over : (f : Outcomes) → IsTeam (id_of cell) (started cell).0 code f ks
      → IsDone (id_of cell) (started cell).0 code f ms
  pub rounds : (f : Outcomes) → IsTeam (id_of cell) (started cell).0 code f ks
      → HasEnded (started cell).0 f ms
  pub same : AreSame (workers_of ks) (workers_of ms)
