-- The course of a run: how far each thread has come, pick by pick and round by round.
use Rattle.std.specs.Prelude.{ℕ, zero, suc, ◌≡◌, ◌≢◌, ◌<◌, ◌≤◌, ◌⊎◌, ◌%◌, Bool, true, false, not, cond, List, []}
use Rattle.std.specs.Prelude.{◌∷◌, ◌++◌, length, take, count_by, slice_index_or, Option, Some, None, is_some}
use Rattle.upc_values.specs.declared.record.Item.{Item}
use Rattle.upc_values.specs.declared.record.End.{End}
use Rattle.upc_values.specs.declared.journal.Entry.{Entry}
use Rattle.upc_values.specs.declared.journal.Strand.{Strand}
use Rattle.upc_values.specs.declared.journal.Journal.{Journal}
use Rattle.upc_values.specs.Lists.{Each, Numbered}
use Rattle.upc_values.specs.Records.{last_item, is_stall}
use Rattle.upc_values.specs.Drain.{entries_in, walked, entries_of}
use Rattle.upc_values.specs.Ends.{stops, is_pause}
use Rattle.upc_task.specs.Ends.{is_given}
use Rattle.upc_task.specs.layer.Kept.{settled}

-- How a thread stands: the items of its record so far, and its end where it has one.
pub record Standing : Type 0 where
  pub items : List Item
  pub «end» : Option End

-- A moment of a run: how each thread stands, by number, and the history so far.
pub record Moment : Type 0 where
  pub threads : List Standing
  pub history : List Entry

-- The thread has no end.
abbrev pub goes_on : Standing → Bool
goes_on s = not (is_some s.«end»)

-- The thread rests: it has its end, or stands at a Beat or a Stall.
abbrev pub rests : Standing → Bool
rests s = cond (is_some s.«end») true (is_pause (last_item s.items))

-- No thread's end has ended the run.
abbrev pub IsQuiet : Moment → Type 0
IsQuiet m = Numbered (λ t s. (e : End) → s.«end» ≡ Some e → stops e ≡ false) m.threads

-- Some thread's end has ended the run.
abbrev pub IsStopped : Moment → Type 0
IsStopped m = (t : ℕ) × (t < length m.threads)
    × ((d : Standing) → (e : End) × ((slice_index_or m.threads t d).«end» ≡ Some e) × (stops e ≡ true))

-- The history is longer, or the same.
abbrev pub Grows : List Entry → List Entry → Type 0
Grows old new = (more : List Entry) × (new ≡ old ++ more)

-- The history has of each thread what its record has emitted, with all that was pending where it has its end.
abbrev pub IsDrained : Moment → Type 0
IsDrained m =
    Numbered (λ t s. entries_of t m.history ≡ entries_in (settled s.«end» (walked t s.items)).emitted) m.threads

-- The moment comes after another: the same threads, and a history that goes on and has what the records have emitted.
pub record IsLater (m n : Moment) : Type 0 where
  pub many : length n.threads ≡ length m.threads
  pub grows : Grows m.history n.history
  pub drained : IsDrained n

-- One step of a thread: its record gains an item, or it stalls where it stood at a Stall, or reaches its own end.
abbrev pub Steps : Standing → Standing → Type 0
Steps s u = (s.«end» ≡ None)
    × (((x : Item) × (u ≡ record { items = s.items ++ x ∷ []; «end» = None }))
    ⊎ (((is_stall (last_item s.items) ≡ true) × (u ≡ s))
    ⊎ ((e : End) × (is_given e ≡ false) × (u ≡ record { items = s.items; «end» = Some e }))))

-- The pick is obeyed: no end has ended the run, and of the threads without an end, by number, the one at the pick
-- modulo how many they are goes on by one step, and no other goes on.
pub record Obeys (pick : ℕ) (m n : Moment) : Type 0 where
  pub quiet : IsQuiet m
  pub at : ℕ
  pub within : at < length m.threads
  pub chosen : count_by goes_on (take at m.threads) ≡ pick % count_by goes_on m.threads
  pub step : (d : Standing) → Steps (slice_index_or m.threads at d) (slice_index_or n.threads at d)
  pub others : (t : ℕ) (d : Standing) → (t ≢ at) → slice_index_or n.threads t d ≡ slice_index_or m.threads t d
  pub later : IsLater m n

-- The picks are obeyed, one after another.
abbrev pub AreObeyed : List ℕ → Moment → Moment → Type 0
AreObeyed [] m n = n ≡ m
AreObeyed (pick ∷ picks) m n = (mid : Moment) × Obeys pick m mid × AreObeyed picks mid n

-- The picks are obeyed up to the last, or until an end has ended the run or all threads have their ends.
pub record ArePicked (picks : List ℕ) (m n : Moment) : Type 0 where
  pub many : ℕ
  pub moves : AreObeyed (take many picks) m n
  pub rest : (length picks ≤ many) ⊎ (IsStopped n ⊎ (count_by goes_on n.threads ≡ 0))

-- A thread's part in a round: items of which none is a Beat or a Stall, and one step more, after which it rests.
pub record TakesPart (s u : Standing) : Type 0 where
  pub opened : s.«end» ≡ None
  pub items : List Item
  pub going : Each (λ x. is_pause (Some x) ≡ false) items
  pub last : Steps (record { items = s.items ++ items; «end» = None }) u
  pub rested : rests u ≡ true

-- In a round a thread without an end takes part, and one with an end stays.
abbrev pub InRound : Standing → Standing → Type 0
InRound s u = ((goes_on s ≡ false) × (u ≡ s)) ⊎ TakesPart s u

-- Once the run has ended a thread that does not rest goes on to its rest, and one that rests stays.
abbrev pub ToRest : Standing → Standing → Type 0
ToRest s u = ((rests s ≡ true) × (u ≡ s)) ⊎ ((rests s ≡ false) × TakesPart s u)

-- Each thread of a moment is so related to itself at another.
abbrev pub EachGoes : (Standing → Standing → Type 0) → Moment → Moment → Type 0
EachGoes R m n = (t : ℕ) (d : Standing) → t < length m.threads
    → R (slice_index_or m.threads t d) (slice_index_or n.threads t d)

-- A round: no end has ended the run, and each thread without an end takes part.
pub record IsRound (m n : Moment) : Type 0 where
  pub quiet : IsQuiet m
  pub each : EachGoes InRound m n
  pub later : IsLater m n

-- So many rounds, one after another.
abbrev pub GoesRounds : ℕ → Moment → Moment → Type 0
GoesRounds zero m n = n ≡ m
GoesRounds (suc many) m n = (mid : Moment) × GoesRounds many m mid × IsRound mid n

-- An end has ended the run, and each thread that does not rest goes on to its rest.
pub record ComesToRest (m n : Moment) : Type 0 where
  pub stopped : IsStopped m
  pub each : EachGoes ToRest m n
  pub later : IsLater m n

-- What follows the picks: rounds, or, where an end has ended the run, that each thread goes on to its rest.
abbrev pub GoesOut : Moment → Moment → Type 0
GoesOut m n = ComesToRest m n ⊎ ((many : ℕ) × GoesRounds many m n)

-- A thread's strand: its record, and its end, which it is given where it has reached none.
pub record IsStrandOf (s : Standing) (r : Strand) : Type 0 where
  pub items : r.items ≡ s.items
  pub own : (e : End) → s.«end» ≡ Some e → r.«end» ≡ e
  pub given : s.«end» ≡ None → is_given r.«end» ≡ true

-- The strands and the history of a journal are those of a moment.
pub record AreOf (m : Moment) (history : List Entry) (strands : List Strand) : Type 0 where
  pub same : history ≡ m.history
  pub many : length strands ≡ length m.threads
  pub each : (t : ℕ) (d : Standing) (r : Strand) → t < length m.threads
      → IsStrandOf (slice_index_or m.threads t d) (slice_index_or strands t r)

-- A moment at which so many threads have done nothing.
pub record IsOutset (threads : ℕ) (m : Moment) : Type 0 where
  pub many : length m.threads ≡ threads
  pub none : Numbered (λ t s. s ≡ record { items = []; «end» = None }) m.threads
  pub empty : m.history ≡ []

-- The journal is that of a run by these picks: from threads that have done nothing the picks are obeyed, then rounds
-- go, and no pick is obeyed and no round begun once an end has ended the run.
pub record IsCourse (picks : List ℕ) (j : Journal) : Type 0 where
  pub first : Moment
  pub picked : Moment
  pub last : Moment
  pub outset : IsOutset j.threads first
  pub obeyed : ArePicked picks first picked
  pub went : GoesOut picked last
  pub out : AreOf last j.history j.strands
