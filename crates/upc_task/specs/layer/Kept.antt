-- What a worker keeps, over a prefix of the history that has all entries of its own.
use Rattle.std.specs.Prelude.{ℕ, ◌≡◌, ◌≤◌, true, false, List, [], ◌++◌, length, map, Option, Some, None, is_some}
use Rattle.upc_values.specs.declared.action.Action.TheVariants.{Write}
use Rattle.upc_values.specs.declared.record.End.{End}
use Rattle.upc_values.specs.declared.journal.Entry.{Entry}
use Rattle.upc_values.specs.Lists.{Each}
use Rattle.upc_values.specs.Drain.{entries_in, Walk, walked, entries_of, emptied}
use Rattle.upc_values.specs.Openings.{Opening}
use Rattle.upc_values.specs.Formed.{IsWellFormed}
use Rattle.upc_values.specs.layer.Known.{AreKnown}
use Rattle.upc_values.specs.Outcomes.{wanted}
use Rattle.upc_values.specs.Records.{replies_of}
use Rattle.upc_values.specs.Strands.{AreJustified}
use Rattle.stack_code.specs.layer.Codes.{Codes}
use Rattle.write_buffer.specs.declared.pending.Pending.{Pending}
use Rattle.write_buffer.specs.layer.Buffer.{committed}
use Rattle.upc_task.specs.declared.recorder.Recorder.{Recorder}
use Rattle.upc_task.specs.layer.Sources.{Outcomes}
pub use Rattle.upc_task.specs.layer.Recorded.{AreLimits, Goes, HasEnd, outcome_of, IsRecorded, IsSame, IsPausing}
pub use Rattle.upc_task.specs.layer.Recorded.{Paused, MayFinish, CanEnd, Waits, wanted_of, own_end, Adds, Leaves}
pub use Rattle.upc_task.specs.layer.Recorded.{end_or, strand_of}

-- A recorder whose actions go through a write buffer.
abbrev pub Worker : Type 0
Worker = Recorder (List Pending)

-- The pending writes may be asked for after the entries seen.
abbrev pub AreFormed : Opening → List Entry → List Pending → Type 0
AreFormed o seen ps = Each (λ p. IsWellFormed o seen (Write false p.loc p.value)) ps

-- The entries of thread t among those seen, its buffer and the number of its next action are those of the walk.
pub record Holds (o : Opening) (t : ℕ) (seen : List Entry) (pending : List Pending) (next : ℕ) (w : Walk) : Type 0 where
  pub out : entries_of t seen ≡ entries_in w.emitted
  pub inside : map (committed t) pending ≡ entries_in w.pending
  pub room : length pending ≤ 64
  pub number : next ≡ w.next
  pub agrees : w.agrees ≡ true
  pub formed : AreFormed o seen pending

-- All entries are of thread t.
abbrev pub AllOf : ℕ → List Entry → Type 0
AllOf t es = Each (λ e. e.thread ≡ t) es

-- The history grew by entries of thread t alone.
pub record Grew (t : ℕ) (old new : List Entry) : Type 0 where
  pub more : List Entry
  pub is : new ≡ old ++ more
  pub all_own : AllOf t more

-- The walk of a thread, which has emptied the buffer where the thread has its end.
abbrev pub settled : Option End → Walk → Walk
settled None w = w
settled (Some e) w = emptied w

-- What a worker of the program p keeps between two calls, where these are the threads' outcomes and the entries seen
-- have all its own: what is kept of a recorder, that its stalls are justified and its replies known, and that its
-- buffer, which is empty where it has its end, is that of its record.
pub record IsKept (o : Opening) (p : Codes) (f : Outcomes) (seen : List Entry) (k : Worker) : Type 0 where
  pub recorded : IsRecorded o p f k
  pub holds : Holds o k.thread seen k.buffer k.next (settled k.«end» (walked k.thread k.items.items))
  pub justified : AreJustified o k.thread seen (wanted (outcome_of f k).«end») [] k.items.items
  pub known : AreKnown o seen (replies_of k.items.items)
  pub empty : is_some k.«end» ≡ true → k.buffer ≡ []

-- Whatever its source, a worker that was kept over the one world is kept over the other.
abbrev pub Keeps : Opening × List Entry → Worker → Opening × List Entry → Worker → Type 0
Keeps w k x m = (p : Codes) (f : Outcomes) → IsKept w.0 p f w.1 k → IsKept x.0 p f x.1 m

-- Over the same entries a worker of the program p stays kept.
abbrev pub StaysKept : Codes → Worker → Worker → Type 0
StaysKept p k m = (f : Outcomes) (o : Opening) (seen : List Entry) → IsKept o p f seen k → IsKept o p f seen m
