-- How a run by rounds goes on: a step, a task's part in a round, a round of all.
use Rattle.std.specs.Prelude.{ℕ, ◌≡◌, ◌≢◌, ◌<◌, ◌⊎◌, Bool, true, false, List, [], ◌∷◌, ◌++◌, length, slice_index_or}
use Rattle.std.specs.Prelude.{Option, Some, None, is_some}
use Rattle.upc_values.specs.declared.action.Action.{Action}
use Rattle.upc_values.specs.declared.record.Item.{Item}
use Rattle.upc_values.specs.declared.record.Item.TheVariants.{Stall}
use Rattle.upc_values.specs.declared.record.End.{End}
use Rattle.upc_values.specs.declared.record.End.TheVariants.{Halted, ActionsFull}
use Rattle.upc_values.specs.declared.journal.Entry.{Entry}
use Rattle.upc_values.specs.Lists.{Numbered}
use Rattle.upc_values.specs.Openings.{Opening}
use Rattle.upc_values.specs.Drain.{entries_of}
use Rattle.upc_values.specs.Ends.{stops}
use Rattle.upc_values.specs.Outcomes.{wanted}
use Rattle.upc_values.specs.Records.{last_item, is_stall, is_beat}
use Rattle.upc_values.specs.Strands.{next_action}
use Rattle.upc_task.specs.layer.Kept.{Worker}
use Rattle.upc_task.specs.declared.worker.Pause.{Pause}
use Rattle.upc_task.specs.declared.worker.Pause.TheVariants.{Beat, Stalled}
use Rattle.upc_task.specs.layer.Sources.{Outcomes}
use Rattle.upc_task.specs.Ends.{is_given}
use Rattle.upc_task.specs.layer.Kept.{IsSame, Waits, AllOf, outcome_of, end_or}
use Rattle.upc_rounds_teams.specs.Rounds.{joined, BeatsLast, ends_with_beat, StandsAtStall, StandsLast, RestsAfterEach}
use Rattle.upc_rounds_teams.specs.Rounds.{MayGo, AfterEach, AfterLast, but_last}
use Rattle.upc_rounds_teams.specs.layer.Course.{TakesPart}
use Rattle.upc_rounds_teams.specs.layer.Runs.{NoneStops, standing_of}

-- What the worker's source wants next.
abbrev pub want_of : Outcomes → Worker → Option Action
want_of f k = wanted (outcome_of f k).«end»

-- No entry is a Beat.
abbrev pub Quiet : List Entry → Type 0
Quiet [] = Unit {0}
Quiet (e ∷ es) = (is_beat e.action ≡ false) × Quiet es

-- No entry is a Beat; or none but the last, which is one.
abbrev pub QuietBut : Bool → List Entry → Type 0
QuietBut false es = Quiet es
QuietBut true es =
    (front : List Entry) × (e : Entry) × (es ≡ front ++ e ∷ []) × Quiet front × (is_beat e.action ≡ true)

-- A step that pauses so has done a Beat.
abbrev pub beats_at : Pause → Bool
beats_at Beat = true
beats_at p = false

-- Each Stall of the one is a Stall of the other, with the same next action.
abbrev pub KeepsStalls : Outcomes → Worker → Worker → Type 0
KeepsStalls f k m =
    (ahead behind : List Item) (a : Action) → k.items.items ≡ ahead ++ Stall ∷ behind
    → next_action (want_of f k) behind ≡ Some a
    → (rest : List Item) × (m.items.items ≡ ahead ++ Stall ∷ rest) × (next_action (want_of f m) rest ≡ Some a)

-- What a step adds, and how it leaves the worker.
pub record Turned (o : Opening) (f : Outcomes) (p : Pause) (t : ℕ) (old new : List Entry) (k m : Worker) : Type 0 where
  pub more : List Entry
  pub is : new ≡ old ++ more
  pub all_own : AllOf t more
  pub quiet : QuietBut (beats_at p) more
  pub keeps : KeepsStalls f k m
  pub waits : Waits p o new m

-- A step of a seat that had seen the old list: others had added entries, none of them t's.
pub record TurnedSeen (o : Opening) (f : Outcomes) (p : Pause) (t : ℕ) (old new : List Entry) (k m : Worker)
    : Type 0 where
  pub others : List Entry
  pub none : entries_of t others ≡ []
  pub turned : Turned o f p t (old ++ others) new k m

-- What steps have done that did not pause, while others added.
pub record SoFar (f : Outcomes) (t : ℕ) (old new : List Entry) (k m : Worker) : Type 0 where
  pub gained : List Entry
  pub is : new ≡ old ++ gained
  pub quiet : Quiet (entries_of t gained)
  pub keeps : KeepsStalls f k m

-- Where a thread rests that has gained these entries: at a Beat, at its end, or at a Stall.
abbrev pub RestsAt : Opening → ℕ → (gained new : List Entry) → Worker → Type 0
RestsAt o t gained new m =
    ((ends_with_beat (entries_of t gained) ≡ true) × (is_stall (last_item m.items.items) ≡ false))
    ⊎ (is_some m.«end» ≡ true)
    ⊎ ((m.«end» ≡ None) × (ends_with_beat (entries_of t gained) ≡ false) × Waits Stalled o new m)

-- What a thread does in a round, while others add.
pub record Acted (o : Opening) (f : Outcomes) (t : ℕ) (old new : List Entry) (k m : Worker) : Type 0 where
  pub gained : List Entry
  pub is : new ≡ old ++ gained
  pub beats : BeatsLast (entries_of t gained)
  pub keeps : KeepsStalls f k m
  pub rests : RestsAt o t gained new m

-- What a thread did in a round of all, which added the part to the entries before.
pub record Played (o : Opening) (f : Outcomes) (i : ℕ) (before part : List Entry) (k m : Worker) : Type 0 where
  pub beats : BeatsLast (entries_of i part)
  pub keeps : KeepsStalls f k m
  pub rests :
      ((ends_with_beat (entries_of i part) ≡ true) × (is_stall (last_item m.items.items) ≡ false))
      ⊎ (is_some m.«end» ≡ true)
      ⊎ (StandsAtStall o i m.items.items (want_of f m) before part × StandsLast i m.items.items before part)
  pub over : is_some k.«end» ≡ true → (m ≡ k) × (entries_of i part ≡ [])
  pub takes : k.«end» ≡ None → TakesPart (standing_of k) (standing_of m)
  pub full : k.«end» ≡ None → length k.items.items ≡ k.limits.actions → is_some m.«end» ≡ true
  pub same : IsSame k m

-- After a part some worker may go on.
pub record SomeGoes (o : Opening) (f : Outcomes) (ks : List Worker) (before part : List Entry) : Type 0 where
  pub thread : ℕ
  pub within : thread < length ks
  pub goes : (d : Worker) → let k = slice_index_or ks thread d in
      MayGo o thread k.items.items (want_of f k) before part

-- A worker without an end whose last item is a Stall stands there after the last part.
abbrev pub StallsNow : ℕ → Worker → List (List Entry) → Type 0
StallsNow i k parts =
    k.«end» ≡ None → is_stall (last_item k.items.items) ≡ true → AfterLast (StandsLast i k.items.items) [] parts

-- A worker without an end whose last item is no Stall came to a Beat in the last part.
abbrev pub BeatsNow : ℕ → Worker → List (List Entry) → Type 0
BeatsNow i k parts =
    k.«end» ≡ None → is_stall (last_item k.items.items) ≡ false
    → AfterLast (λ before part. ends_with_beat (entries_of i part) ≡ true) [] parts

-- A history that has gone by rounds: these are its parts, and after each the workers rest. A thread without an end
-- counts as one that is given its end later.
pub record HasParts (o : Opening) (f : Outcomes) (seen : List Entry) (ks : List Worker) : Type 0 where
  pub parts : List (List Entry)
  pub whole : joined parts ≡ seen
  pub rests : Numbered (λ i k. RestsAfterEach o i k.items.items (want_of f k) (end_or k.«end») [] parts) ks

-- A run that goes by rounds and goes on: no end has ended it, and after each part some worker may go on.
pub record GoesByRounds (o : Opening) (f : Outcomes) (seen : List Entry) (ks : List Worker) : Type 0 where
  pub has : HasParts o f seen ks
  pub quiet : NoneStops ks
  pub stalls : Numbered (λ i k. StallsNow i k has.parts) ks
  pub goes : AfterEach (SomeGoes o f ks) [] has.parts

-- A run that has gone by rounds, the last of which may have ended it.
pub record GoneByRounds (o : Opening) (f : Outcomes) (seen : List Entry) (ks : List Worker) : Type 0 where
  pub has : HasParts o f seen ks
  pub stalls : Numbered (λ i k. StallsNow i k has.parts) ks
  pub beats : Numbered (λ i k. BeatsNow i k has.parts) ks
  pub before :
      Numbered
      (λ i k. stops (end_or k.«end») ≡ true
      → RestsAfterEach o i k.items.items (want_of f k) Halted [] (but_last has.parts))
      ks
  pub goes : AfterEach (SomeGoes o f ks) [] (but_last has.parts)
  pub full_ends :
      Numbered
      (λ i k. length k.items.items ≡ k.limits.actions → (k.«end» ≢ Some ActionsFull)
      → AfterEach (λ before part. StandsLast i k.items.items before part → ⊥) [] (but_last has.parts))
      ks
  pub full_stood :
      Numbered
      (λ i k. k.«end» ≡ Some ActionsFull → is_stall (last_item k.items.items) ≡ true
      → AfterLast (StandsLast i k.items.items) [] (but_last has.parts))
      ks

-- A worker that was given its end, or kept the one that it had.
pub record IsEnded (k m : Worker) : Type 0 where
  pub thread : m.thread ≡ k.thread
  pub limits : m.limits ≡ k.limits
  pub items : m.items ≡ k.items
  pub own : (e : End) → k.«end» ≡ Some e → m.«end» ≡ Some e
  pub given : k.«end» ≡ None → (e : End) × (m.«end» ≡ Some e) × (is_given e ≡ true)
