-- What a run of tasks keeps.
use Rattle.std.specs.Prelude.{ℕ, ◌≡◌, ◌≢◌, ◌<◌, true, false, List, length, map, slice_index_or, Option, Some}
use Rattle.std.specs.Prelude.{None, is_some, Bool, not, count_by, take, ◌%◌, ◌⊎◌}
use Rattle.upc_values.specs.declared.action.Action.{Action}
use Rattle.upc_values.specs.declared.record.End.{End}
use Rattle.upc_values.specs.declared.record.End.TheVariants.{Halted, Deadlocked}
use Rattle.upc_values.specs.declared.journal.Entry.{Entry}
use Rattle.upc_values.specs.Lists.{Numbered}
use Rattle.upc_values.specs.Records.{is_stall, last_item}
use Rattle.upc_values.specs.Openings.{Opening}
use Rattle.upc_values.specs.History.{reply}
use Rattle.upc_values.specs.Ends.{stops, settles}
use Rattle.stack_code.specs.layer.Codes.{Codes}
use Rattle.stack_machine.specs.declared.wish.Wish.{Wish}
use Rattle.stack_machine.specs.declared.wish.Wish.TheVariants.{Act}
use Rattle.upc_task.specs.layer.Kept.{Worker}
use Rattle.upc_task.specs.layer.Sources.{Outcomes}
use Rattle.upc_task.specs.Ends.{is_given}
use Rattle.upc_task.specs.layer.Kept.{IsKept, IsSame, IsPausing, strand_of}
use Rattle.upc_rounds_teams.specs.layer.Course.{Standing, Moment, ArePicked, GoesOut, AreOf}

-- The task of thread i of the program p, after the entries seen.
pub record IsAt (o : Opening) (p : Codes) (f : Outcomes) (seen : List Entry) (i : ℕ) (k : Worker) : Type 0 where
  pub thread : k.thread ≡ i
  pub kept : IsKept o p f seen k

-- The task was not given its end.
abbrev pub HasOwnEnd : Worker → Type 0
HasOwnEnd k = (e : End) → k.«end» ≡ Some e → is_given e ≡ false

-- A task without an end has a wish only where it stands at a Stall.
abbrev pub IsIdle : Worker → Type 0
IsIdle k = k.«end» ≡ None → is_some k.wish ≡ true → is_stall (last_item k.items.items) ≡ true

-- How a task's thread stands.
abbrev pub standing_of : Worker → Standing
standing_of k = record { items = k.items.items; «end» = k.«end» }

-- The moment at which a run stands, by its tasks and its world.
abbrev pub moment_of : Opening × List Entry → List Worker → Moment
moment_of w ks = record { threads = map standing_of ks; history = w.1 }

-- The task of thread i is so related to what it was before.
abbrev pub GoesAt : (Standing → Standing → Type 0) → ℕ → List Worker → List Worker → Type 0
GoesAt R i ks ms = (d : Worker) → R (standing_of (slice_index_or ks i d)) (standing_of (slice_index_or ms i d))

-- A run of p that goes on: one task for each thread, and none was given its end.
pub record IsRunning (o : Opening) (p : Codes) (f : Outcomes) (seen : List Entry) (ks : List Worker) : Type 0 where
  pub many : length ks ≡ o.threads
  pub tasks : Numbered (λ i k. IsAt o p f seen i k) ks
  pub own : Numbered (λ i k. HasOwnEnd k) ks
  pub idle : Numbered (λ i k. IsIdle k) ks

-- The tasks are of the same threads and have the same limits.
pub record AreSame (ks ms : List Worker) : Type 0 where
  pub many : length ms ≡ length ks
  pub each : (i : ℕ) (d : Worker) → i < length ks → IsSame (slice_index_or ks i d) (slice_index_or ms i d)

-- The task of thread i has no end.
abbrev pub IsOpenAt : List Worker → ℕ → Type 0
IsOpenAt ks i = (d : Worker) → (slice_index_or ks i d).«end» ≡ None

-- The task has no end.
abbrev pub is_open : Worker → Bool
is_open k = not (is_some k.«end»)

-- How many of the tasks have no end.
abbrev pub open_among : List Worker → ℕ
open_among ks = count_by is_open ks

-- The task that a pick chooses: of those without an end, by number of thread, the one at the pick modulo their number.
pub record IsChosen (ks : List Worker) (pick at : ℕ) : Type 0 where
  pub within : at < length ks
  pub opened : IsOpenAt ks at
  pub number : open_among (take at ks) ≡ pick % open_among ks

-- The tasks of all other threads are as they were.
abbrev pub OthersStay : ℕ → List Worker → List Worker → Type 0
OthersStay i ks ms = (j : ℕ) (d : Worker) → (j ≢ i) → slice_index_or ms j d ≡ slice_index_or ks j d

-- A round leaves the task at its end, a Beat or a Stall.
abbrev pub Rested : Worker → Type 0
Rested k = k.«end» ≡ None → IsPausing k

-- The end of the task ends the run.
abbrev pub Stops : Worker → Type 0
Stops k = (e : End) × (k.«end» ≡ Some e) × (stops e ≡ true)

-- The end of the task of thread u ends the run.
abbrev pub StopsAt : List Worker → ℕ → Type 0
StopsAt ks u = (u < length ks) × ((d : Worker) → Stops (slice_index_or ks u d))

-- No task has an end that ends the run.
abbrev pub NoneStops : List Worker → Type 0
NoneStops ks = Numbered (λ i k. (e : End) → k.«end» ≡ Some e → stops e ≡ false) ks

-- The task wants an action that is not legal now.
pub record Wanting (o : Opening) (seen : List Entry) (k : Worker) : Type 0 where
  pub action : Action
  pub wish_is : k.wish ≡ Some (Act action)
  pub stalled : is_stall (last_item k.items.items) ≡ true
  pub none : reply o seen k.thread action ≡ None

-- The end of another task than that of thread i ends the run.
pub record Another (i : ℕ) (ks : List Worker) : Type 0 where
  pub other : ℕ
  pub differs : other ≢ i
  pub within : other < length ks
  pub stopped : (d : Worker) → Stops (slice_index_or ks other d)

-- What must hold of the whole run where thread i has this end.
abbrev pub Given : Opening → List Entry → List Worker → ℕ → End → Type 0
Given o seen ks i Halted = Another i ks
Given o seen ks i (Deadlocked a) =
    (reply o seen i a ≡ None) × Numbered (λ u m. (f : End) → m.«end» ≡ Some f → settles f ≡ true) ks
Given o seen ks i e = Unit {0}

-- A run of p that is over: each task has its end, with what must hold of the whole run for it.
pub record IsOver (o : Opening) (p : Codes) (f : Outcomes) (seen : List Entry) (ks : List Worker) : Type 0 where
  pub many : length ks ≡ o.threads
  pub tasks : Numbered (λ i k. IsAt o p f seen i k) ks
  pub ended : Numbered (λ i k. is_some k.«end» ≡ true) ks
  pub given : Numbered (λ i k. (e : End) → k.«end» ≡ Some e → Given o seen ks i e) ks

-- Each task has become what f makes of it.
pub record AreEach (f : Worker → Worker) (ks ms : List Worker) : Type 0 where
  pub many : length ms ≡ length ks
  pub each : (i : ℕ) (d : Worker) → i < length ks → slice_index_or ms i d ≡ f (slice_index_or ks i d)

-- The end of a task, which is Halted where it had none.
abbrev pub halted_end : Option End → Option End
halted_end None = Some Halted
halted_end (Some e) = Some e

-- The task with the end Halted, where it had none.
abbrev pub halted : Worker → Worker
halted k = record k { «end» = halted_end k.«end» }

-- The end of a task, which is Deadlocked where it had none and wants an action.
abbrev pub locked_end : Option Wish → Option End → Option End
locked_end w (Some e) = Some e
locked_end (Some (Act a)) None = Some (Deadlocked a)
locked_end w None = None

-- The task with the end Deadlocked, where it had none and wants an action.
abbrev pub locked : Worker → Worker
locked k = record k { «end» = locked_end k.wish k.«end» }

-- The task may be given the end Deadlocked.
abbrev pub CanLock : Worker → Type 0
CanLock k = (a : Action) × (k.wish ≡ Some (Act a)) × (is_stall (last_item k.items.items) ≡ true)

-- The worker goes on: it has no end, and stands at no Stall, or at one whose action is legal now.
pub record Moving (o : Opening) (seen : List Entry) (ks : List Worker) (at : ℕ) : Type 0 where
  pub within : at < length ks
  pub opened : IsOpenAt ks at
  pub goes : (d : Worker) → let k = slice_index_or ks at d in
      (is_stall (last_item k.items.items) ≡ false)
      ⊎ ((is_stall (last_item k.items.items) ≡ true) × (a : Action) × (k.wish ≡ Some (Act a))
      × (is_some (reply o seen k.thread a) ≡ true))

-- From the one moment the run goes out to a last one, of which the tasks are the strands, with their ends.
abbrev pub EndsOut : Opening × List Entry → List Worker → Opening × List Entry → List Worker → Type 0
EndsOut w ks x ms = (last : Moment) × GoesOut (moment_of w ks) last
    × ((f : Outcomes) → AreOf last x.1 (map (strand_of f) ms))

-- By the picks and then onwards the run goes to a last moment, of which the tasks are the strands, with their ends.
abbrev pub GoesPicked : List ℕ → Opening × List Entry → List Worker → Opening × List Entry → List Worker → Type 0
GoesPicked picks w ks x ms = (mid : Moment) × (last : Moment) × ArePicked picks (moment_of w ks) mid × GoesOut mid last
    × ((f : Outcomes) → AreOf last x.1 (map (strand_of f) ms))
