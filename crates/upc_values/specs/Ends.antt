-- Which ends a strand may have.
use Rattle.std.specs.Prelude.{ℕ, ◌≡◌, ◌≢◌, ◌<◌, Bool, true, false, cond, List, length, Option, None, slice_index_or}
use Rattle.upc_values.specs.declared.action.Action.{Action}
use Rattle.upc_values.specs.declared.record.Item.{Item}
use Rattle.upc_values.specs.declared.record.ToldEnd.{ToldEnd}
use Rattle.upc_values.specs.declared.record.ToldEnd.TheVariants as told
use Rattle.upc_values.specs.declared.record.End.{End}
use Rattle.upc_values.specs.declared.record.End.TheVariants.{Ended, Fault, Budget, ActionsFull, Exit, Halted}
use Rattle.upc_values.specs.declared.record.End.TheVariants.{Deadlocked}
use Rattle.upc_values.specs.declared.journal.Strand.{Strand}
use Rattle.upc_values.specs.declared.journal.Journal.{Journal}
use Rattle.upc_values.specs.Lists.{Numbered}
use Rattle.upc_values.specs.Records.{last_item, is_stall, is_beat_item}
use Rattle.upc_values.specs.Openings.{Opening}
use Rattle.upc_values.specs.History.{reply}

-- A thread's end that ends the run.
abbrev pub stops : End → Bool
stops (Fault c p) = true
stops Budget = true
stops ActionsFull = true
stops (Exit v) = true
stops e = false

-- A thread's end in a run in which no thread goes on: Ended or Deadlocked.
abbrev pub settles : End → Bool
settles (Ended v) = true
settles (Deadlocked a) = true
settles e = false

-- The item is a Beat or a Stall, at which a thread rests.
abbrev pub is_pause : Option Item → Bool
is_pause x = cond (is_stall x) true (is_beat_item x)

-- The end of another strand than that of thread t ends the run.
pub record AnotherStops (t : ℕ) (strands : List Strand) : Type 0 where
  pub other : ℕ
  pub differs : other ≢ t
  pub within : other < length strands
  pub stopped : (d : Strand) → stops (slice_index_or strands other d).«end» ≡ true

-- What the end of the source's outcome and the items say of a strand's end, where a record has at most `actions` items.
abbrev pub OwnEnd : ℕ → ToldEnd → List Item → End → Type 0
OwnEnd actions e items (Ended v) = e ≡ told.Ended v
OwnEnd actions e items (Fault c p) = e ≡ told.Fault c p
OwnEnd actions e items (Exit v) = e ≡ told.Exit v
OwnEnd actions e items Budget = e ≡ told.OutOfTicks
OwnEnd actions e items ActionsFull = ((a : Action) × (e ≡ told.Wants a)) × (length items ≡ actions)
OwnEnd actions e items Halted = is_pause (last_item items) ≡ true
OwnEnd actions e items (Deadlocked a) = (e ≡ told.Wants a) × (is_stall (last_item items) ≡ true)

-- What the journal says of the end of thread t's strand: of Halted, that another strand ends the run; of Deadlocked,
-- that its action has no lawful reply after the whole history, and every strand is Ended or Deadlocked.
abbrev pub SharedEnd : Opening → Journal → ℕ → End → Type 0
SharedEnd o j t Halted = AnotherStops t j.strands
SharedEnd o j t (Deadlocked a) =
    (reply o j.history t a ≡ None) × Numbered (λ u s. settles s.«end» ≡ true) j.strands
SharedEnd o j t e = Unit {0}

-- Each strand whose end is Budget has had its budget of ticks.
abbrev pub AreSpent : ℕ → List Strand → Type 0
AreSpent budget strands = Numbered (λ t s. s.«end» ≡ Budget → s.ticks ≡ budget) strands
