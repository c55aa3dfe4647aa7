-- What a task keeps, of what its seat has seen.
use Rattle.std.specs.Prelude.{ℕ, ◌≡◌, List, [], ◌++◌, Some}
use mathlib.Core.List.{IsPrefix}
use Rattle.upc_values.specs.declared.journal.Entry.{Entry}
use Rattle.upc_values.specs.Drain.{drain, entries_of}
use Rattle.upc_values.specs.Openings.{Opening, IsOpening}
use Rattle.upc_values.specs.History.{IsLegal, EachBelow}
use Rattle.upc_values.specs.Formed.{AreWellFormed}
use Rattle.stack_code.specs.layer.Codes.{Codes}
use Rattle.turn_cell.specs.declared.seat.Seat.{Seat}
use Rattle.turn_cell.specs.layer.Seats.{TableId, IsFree, cell_of, number_of, own_of, seen_of, opening_of}
use Rattle.upc_task.specs.declared.seated.Task.{Task}
use Rattle.upc_task.specs.layer.Sources.{Outcomes}
use Rattle.upc_task.specs.layer.Kept.{IsKept, Grew}

-- The entries are a legal history from a valid opening; each was well formed after those before it, and is of one of
-- the threads.
pub record IsLawful (o : Opening) (seen : List Entry) : Type 0 where
  pub opening : IsOpening o
  pub legal : IsLegal o seen
  pub formed : AreWellFormed o seen
  pub below : EachBelow o.threads seen

-- A task at the cell z with the opening o, of the program p with these outcomes: what its worker keeps holds over what
-- its seat has seen.
pub record IsTask (z : TableId) (o : Opening) (p : Codes) (f : Outcomes) (k : Task) : Type 0 where
  pub cell : cell_of k.seat ≡ z
  pub opened : opening_of k.seat ≡ Some o
  pub number : number_of k.seat ≡ k.worker.thread
  pub lawful : IsLawful o (seen_of k.seat)
  pub kept : IsKept o p f (seen_of k.seat) k.worker

-- A task of the program p stays one, whatever its cell, its opening and its outcomes are.
abbrev pub StaysTask : Codes → Task → Task → Type 0
StaysTask p k m = (z : TableId) (o : Opening) (f : Outcomes) → IsTask z o p f k → IsTask z o p f m

-- The same seat of the same cell, which has added as much.
pub record IsSeatOf {W M O : Type 0} (s t : Seat W M O) : Type 0 where
  pub cell : cell_of t ≡ cell_of s
  pub number : number_of t ≡ number_of s
  pub opening : opening_of t ≡ opening_of s
  pub own : own_of t ≡ own_of s

-- Since a list was seen others have added entries, none of them of thread t, and then thread t its own.
pub record Gained (t : ℕ) (old new : List Entry) : Type 0 where
  pub others : List Entry
  pub none : entries_of t others ≡ []
  pub grew : Grew t (old ++ others) new

-- A task in order: its seat holds no turn and has its thread's number, what the seat has added is a front of what the
-- record emits with all that was pending, and the list that it has seen is lawful.
pub record IsInOrder (o : Opening) (k : Task) : Type 0 where
  pub free : IsFree (λ (e : Entry). e.thread) k.seat
  pub number : number_of k.seat ≡ k.worker.thread
  pub front : IsPrefix (own_of k.seat) (drain k.worker.thread k.worker.items.items)
  pub lawful : IsLawful o (seen_of k.seat)
