-- The workers of a run on a memory with a copy of the shared memory for each thread.
use Rattle.std.specs.Prelude.{ℕ, ◌≡◌, ◌≢◌, ◌<◌, ◌%◌, true, List, length, map, take, slice_index_or, count_by, Some}
use Rattle.std.specs.Prelude.{Bool, None, is_some}
use Rattle.upc_values.specs.declared.record.End.{End}
use Rattle.upc_values.specs.declared.record.End.TheVariants.{Halted, Deadlocked}
use Rattle.upc_values.specs.declared.journal.Entry.{Entry}
use Rattle.upc_values.specs.declared.journal.Strand.{Strand}
use Rattle.upc_values.specs.Lists.{Numbered}
use Rattle.upc_values.specs.Openings.{Opening}
use Rattle.upc_values.specs.History.{reply}
use Rattle.upc_values.specs.Ends.{settles}
use Rattle.stack_code.specs.layer.Codes.{Codes}
use Rattle.replica_space.specs.declared.event.Event.{Event}
use Rattle.replica_space.specs.Events.{history_in}
use Rattle.upc_task.specs.declared.limits.Limits.{Limits}
use Rattle.upc_task.specs.declared.recorder.Recorder.{Recorder}
use Rattle.upc_task.specs.layer.Sources.{Outcomes}
use Rattle.upc_task.specs.layer.Recorded.{IsSame, strand_of}
use Rattle.replica_space_tasks.specs.declared.worker.ReplicaWorker.{ReplicaWorker}
use Rattle.replica_space_tasks.specs.layer.Kept.{IsKept, StaysKept, Grew}
use Rattle.upc_rounds_base.specs.layer.Ending as ending
use Rattle.upc_rounds_base.specs.layer.Ending.{HasOwnEnd, IsIdle, IsQuiet, Stops, halted, locked}

-- The worker of thread i of the program p, with these limits, over the events.
pub record IsAt (o : Opening) (p : Codes) (l : Limits) (f : Outcomes) (events : List Event) (i : ℕ) (k : ReplicaWorker)
    : Type 0 where
  pub kept : IsKept o p f events k
  pub thread : k.recorder.thread ≡ i
  pub limits : k.recorder.limits ≡ l

-- It was not given its end, and has a wish only where it stands at a Stall or has its end.
pub record IsMember (o : Opening) (p : Codes) (l : Limits) (f : Outcomes) (events : List Event) (i : ℕ)
    (k : ReplicaWorker) : Type 0 where
  pub at : IsAt o p l f events i k
  pub own : HasOwnEnd k.recorder
  pub idle : IsIdle k.recorder

-- The workers of a run that goes on, one for each thread.
pub record IsCrew (p : Codes) (l : Limits) (f : Outcomes) (w : Opening × List Event) (ks : List ReplicaWorker)
    : Type 0 where
  pub many : length ks ≡ w.0.threads
  pub members : Numbered (IsMember w.0 p l f w.1) ks

-- A run of the code goes on, whatever its limits and its outcomes are.
abbrev pub GoesOn : Codes → Opening × List Event → List ReplicaWorker → Type 0
GoesOn p w ks = (l : Limits) × (f : Outcomes) × IsCrew p l f w ks

-- A run that went on with the ones goes on with as many others, whatever its limits and its outcomes.
pub record StaysCrew (p : Codes) (w : Opening × List Event) (ks : List ReplicaWorker) (x : Opening × List Event)
    (ms : List ReplicaWorker) : Type 0 where
  pub many : length ms ≡ length ks
  pub opening : x.0 ≡ w.0
  pub crew : (l : Limits) (f : Outcomes) → IsCrew p l f w ks → IsCrew p l f x ms

-- The worker of thread i has no end.
abbrev pub IsOpenAt : List ReplicaWorker → ℕ → Type 0
IsOpenAt ks i = (d : ReplicaWorker) → ending.is_open (slice_index_or ks i d).recorder ≡ true

-- The worker has no end.
abbrev pub is_open : ReplicaWorker → Bool
is_open k = ending.is_open k.recorder

-- How many of the workers have no end.
abbrev pub open_among : List ReplicaWorker → ℕ
open_among ks = count_by is_open ks

-- The worker that a pick chooses: of those without an end, by number of thread, the one at the pick modulo their
-- number.
pub record IsChosen (ks : List ReplicaWorker) (pick at : ℕ) : Type 0 where
  pub within : at < length ks
  pub opened : IsOpenAt ks at
  pub number : open_among (take at ks) ≡ pick % open_among ks

-- The workers of all other threads are as they were.
abbrev pub OthersStay : ℕ → List ReplicaWorker → List ReplicaWorker → Type 0
OthersStay i ks ms = (j : ℕ) (d : ReplicaWorker) → (j ≢ i) → slice_index_or ms j d ≡ slice_index_or ks j d

-- The end of the worker of thread u ends the run.
abbrev pub StopsAt : List ReplicaWorker → ℕ → Type 0
StopsAt ks u = (u < length ks) × ((d : ReplicaWorker) → Stops (slice_index_or ks u d).recorder)

-- Some worker has an end that ends the run.
abbrev pub IsStopped : List ReplicaWorker → Type 0
IsStopped ks = (u : ℕ) × StopsAt ks u

-- No worker has an end that ends the run.
abbrev pub NoneStops : List ReplicaWorker → Type 0
NoneStops ks = Numbered (λ _ k. IsQuiet k.recorder) ks

-- The end of another worker than that of thread i ends the run.
pub record Another (i : ℕ) (ks : List ReplicaWorker) : Type 0 where
  pub other : ℕ
  pub differs : other ≢ i
  pub stopped : StopsAt ks other

-- What must hold of the whole run where thread i has this end.
abbrev pub Given : Opening → List Entry → List ReplicaWorker → ℕ → End → Type 0
Given o seen ks i Halted = Another i ks
Given o seen ks i (Deadlocked a) =
    (reply o seen i a ≡ None)
    × Numbered (λ _ m. (f : End) → m.recorder.«end» ≡ Some f → settles f ≡ true) ks
Given o seen ks i e = Unit {0}

-- A run of p that is over: each worker has its end, with what must hold of the whole run for it.
pub record IsOver (p : Codes) (l : Limits) (f : Outcomes) (w : Opening × List Event) (ks : List ReplicaWorker)
    : Type 0 where
  pub many : length ks ≡ w.0.threads
  pub workers : Numbered (IsAt w.0 p l f w.1) ks
  pub ended : Numbered (λ _ k. is_some k.recorder.«end» ≡ true) ks
  pub given :
      Numbered (λ i k. (e : End) → k.recorder.«end» ≡ Some e → Given w.0 (history_in w.1) ks i e) ks

-- A run that went on with the ones is over with as many others, whatever its limits and its outcomes.
pub record ComesToEnd (p : Codes) (w : Opening × List Event) (ks : List ReplicaWorker) (x : Opening × List Event)
    (ms : List ReplicaWorker) : Type 0 where
  pub many : length ms ≡ length ks
  pub opening : x.0 ≡ w.0
  pub over : (l : Limits) (f : Outcomes) → IsCrew p l f w ks → IsOver p l f x ms

-- The worker was given the end Halted, where it had none.
pub record IsHalted (k m : ReplicaWorker) : Type 0 where
  pub is : m.recorder ≡ halted k.recorder
  pub stays : (p : Codes) → StaysKept p k m

-- The worker was given the end Deadlocked, where it had none.
pub record IsLocked (k m : ReplicaWorker) : Type 0 where
  pub is : m.recorder ≡ locked k.recorder
  pub stays : (p : Codes) → StaysKept p k m

-- Each worker is so related to what it was before.
pub record AreEach (R : ReplicaWorker → ReplicaWorker → Type 0) (ks ms : List ReplicaWorker) : Type 0 where
  pub many : length ms ≡ length ks
  pub each : (i : ℕ) (d : ReplicaWorker) → i < length ks → R (slice_index_or ks i d) (slice_index_or ms i d)

-- The strands of workers that have their ends.
abbrev pub strands_of : Outcomes → List ReplicaWorker → List Strand
strands_of f ks = map (λ k. strand_of f k.recorder) ks

-- A worker that has gone on: its thread added events, and it is kept over what there is now.
pub record Moved (p : Codes) (w : Opening × List Event) (k : ReplicaWorker) (x : Opening × List Event)
    (m : ReplicaWorker) : Type 0 where
  pub same : IsSame k.recorder m.recorder
  pub own : HasOwnEnd k.recorder → HasOwnEnd m.recorder
  pub idle : IsIdle k.recorder → IsIdle m.recorder
  pub kept : (f : Outcomes) → IsKept w.0 p f w.1 k → IsKept x.0 p f x.1 m
  pub grew : Grew k.recorder.thread w.1 x.1
  pub opening : x.0 ≡ w.0
