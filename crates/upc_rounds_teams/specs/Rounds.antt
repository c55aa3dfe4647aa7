-- When a journal goes by rounds: its history falls into parts, and between two parts every thread rests.
use Rattle.std.specs.Prelude.{ℕ, ◌≡◌, ◌≢◌, ◌<◌, ◌⊎◌, Bool, true, false, List, [], ◌∷◌, ◌++◌, length}
use Rattle.std.specs.Prelude.{slice_index_or, Option, None, Some, is_some}
use Rattle.upc_values.specs.declared.action.Action.{Action}
use Rattle.upc_values.specs.declared.action.Reply.{Reply}
use Rattle.upc_values.specs.declared.record.Item.{Item}
use Rattle.upc_values.specs.declared.record.Item.TheVariants.{Stall}
use Rattle.upc_values.specs.declared.record.End.{End}
use Rattle.upc_values.specs.declared.record.End.TheVariants.{Halted, ActionsFull}
use Rattle.upc_values.specs.declared.journal.Entry.{Entry}
use Rattle.upc_values.specs.declared.journal.Strand.{Strand}
use Rattle.upc_values.specs.declared.journal.Journal.{Journal}
use Rattle.upc_values.specs.Lists.{Numbered}
use Rattle.upc_values.specs.Records.{replies_of, last_item, is_stall, is_beat}
use Rattle.upc_values.specs.Outcomes.{Outcome, wanted}
use Rattle.upc_values.specs.Drain.{drain, entries_of}
use Rattle.upc_values.specs.Openings.{Opening}
use Rattle.upc_values.specs.History.{reply}
use Rattle.upc_values.specs.Strands.{next_action}
use Rattle.upc_values.specs.Ends.{stops}
use Rattle.upc_task.specs.Ends.{is_given}

-- The entries of all parts, in order.
abbrev pub joined : List (List Entry) → List Entry
joined [] = []
joined (p ∷ ps) = p ++ joined ps

-- None of the entries but the last is a Beat.
abbrev pub BeatsLast : List Entry → Type 0
BeatsLast [] = Unit {0}
BeatsLast (e ∷ []) = Unit {0}
BeatsLast (e ∷ f ∷ es) = (is_beat e.action ≡ false) × BeatsLast (f ∷ es)

-- The last of the entries is a Beat.
abbrev pub ends_with_beat : List Entry → Bool
ends_with_beat [] = false
ends_with_beat (e ∷ []) = is_beat e.action
ends_with_beat (e ∷ f ∷ es) = ends_with_beat (f ∷ es)

-- Thread t, with this record, whose source then wants an action or none. Entries are those of all threads.
module _ (o : Opening) (t : ℕ) (items : List Item) (want : Option Action) where
  -- After a part, which follows the entries before it, the thread stands at a Stall of its record: it has no entries
  -- but those that its items before the Stall emit, and within the part is a moment at which it had all these and at
  -- which its next action had no lawful reply.
  pub record StandsAtStall (before part : List Entry) : Type 0 where
    pub ahead : List Item
    pub behind : List Item
    pub is : items ≡ ahead ++ Stall ∷ behind
    pub drained : entries_of t (before ++ part) ≡ drain t ahead
    pub front : List Entry
    pub rest : List Entry
    pub cut : part ≡ front ++ rest
    pub whole : entries_of t (before ++ front) ≡ drain t ahead
    pub action : Action
    pub wants : next_action want behind ≡ Some action
    pub none : reply o (before ++ front) t action ≡ None

  -- After a part the thread rests: its last entry there is a Beat; or it has no later entry, and an end of its own; or
  -- it stands at a Stall.
  abbrev pub Rests : End → (before part later : List Entry) → Type 0
  Rests e before part later =
      (ends_with_beat (entries_of t part) ≡ true)
      ⊎ ((entries_of t later ≡ []) × (is_given e ≡ false))
      ⊎ StandsAtStall before part

  -- In each of the parts, which follow the entries before them, a Beat is the thread's last entry, and after each part
  -- it rests.
  abbrev pub RestsAfterEach : End → (before : List Entry) → List (List Entry) → Type 0
  RestsAfterEach e before [] = Unit {0}
  RestsAfterEach e before (p ∷ ps) =
      BeatsLast (entries_of t p) × Rests e before p (joined ps) × RestsAfterEach e (before ++ p) ps

  -- After a part the thread stands at a Stall of its record, and its next action has a lawful reply after the history
  -- so far.
  pub record StandsReady (before part : List Entry) : Type 0 where
    pub ahead : List Item
    pub behind : List Item
    pub is : items ≡ ahead ++ Stall ∷ behind
    pub drained : entries_of t (before ++ part) ≡ drain t ahead
    pub action : Action
    pub wants : next_action want behind ≡ Some action
    pub some : is_some (reply o (before ++ part) t action) ≡ true

  -- After a part the thread may go on: its last entry there is a Beat, or it stands at a Stall whose action is legal.
  abbrev pub MayGo : (before part : List Entry) → Type 0
  MayGo before part = (ends_with_beat (entries_of t part) ≡ true) ⊎ StandsReady before part

-- After a part thread t, with this record, stands at the Stall that is its last item, and came to no Beat in the part.
pub record StandsLast (t : ℕ) (items : List Item) (before part : List Entry) : Type 0 where
  pub ahead : List Item
  pub is : items ≡ ahead ++ Stall ∷ []
  pub drained : entries_of t (before ++ part) ≡ drain t ahead
  pub no_beat : ends_with_beat (entries_of t part) ≡ false

-- P holds after each of the parts, of the entries before it and of the part itself.
abbrev pub AfterEach : (List Entry → List Entry → Type 0) → (before : List Entry) → List (List Entry) → Type 0
AfterEach P before [] = Unit {0}
AfterEach P before (p ∷ ps) = P before p × AfterEach P (before ++ p) ps

-- There are parts, and P holds after the last of them.
abbrev pub AfterLast : (List Entry → List Entry → Type 0) → (before : List Entry) → List (List Entry) → Type 0
AfterLast P before [] = ⊥
AfterLast P before (p ∷ []) = P before p
AfterLast P before (p ∷ q ∷ ps) = AfterLast P (before ++ p) (q ∷ ps)

-- All parts but the last.
abbrev pub but_last : List (List Entry) → List (List Entry)
but_last [] = []
but_last (p ∷ []) = []
but_last (p ∷ q ∷ ps) = p ∷ but_last (q ∷ ps)

-- What the source of thread t wants after a record, at the journal's budget.
abbrev pub want_after : (outcome : (budget t : ℕ) → List Reply → Outcome) → Journal → ℕ → List Item → Option Action
want_after outcome j t items = wanted (outcome j.budget t (replies_of items)).«end»

-- The journal goes by rounds, for an opening and the meaning of each thread's source, by budget and thread, at the
-- journal's own budget: the parts of its history are the rounds.
pub record GoesByRounds (o : Opening) (outcome : (budget t : ℕ) → List Reply → Outcome) (j : Journal) : Type 0 where
  pub parts : List (List Entry)
  pub whole : joined parts ≡ j.history
  pub rests :
      Numbered (λ t s. RestsAfterEach o t s.items (want_after outcome j t s.items) s.«end» [] parts) j.strands

-- The journal goes by rounds, and a strand whose end ends the run has come to it in the last part: in those before, it
-- rests as one whose end is given later.
pub record StopsInTime (o : Opening) (outcome : (budget t : ℕ) → List Reply → Outcome) (j : Journal) : Type 0 where
  pub rounds : GoesByRounds o outcome j
  pub before :
      Numbered
      (λ t s. stops s.«end» ≡ true
      → RestsAfterEach o t s.items (want_after outcome j t s.items) Halted [] (but_last rounds.parts))
      j.strands

-- After a part, which follows the entries before it, some strand of the journal may go on.
pub record SomeMayGo (o : Opening) (outcome : (budget t : ℕ) → List Reply → Outcome) (j : Journal)
    (before part : List Entry) : Type 0 where
  pub thread : ℕ
  pub within : thread < length j.strands
  pub goes : (d : Strand) → let s = slice_index_or j.strands thread d in
      MayGo o thread s.items (want_after outcome j thread s.items) before part

-- The run of the journal ends in the round in which it has to. Once an end has ended it, there is no further round. Nor
-- is there one where no thread may go on: a deadlock ends the run in the round in which every thread without an end
-- first stands at a Stall that is not legal. And a thread whose record is full where it stands at a Stall is not passed
-- over: it ends in the next round by its full record, and by that it ends at a Stall in no other case.
pub record EndsInTime (o : Opening) (outcome : (budget t : ℕ) → List Reply → Outcome) (j : Journal) : Type 0 where
  pub stops_in_time : StopsInTime o outcome j
  -- After each part but the last some strand may go on.
  pub goes : AfterEach (SomeMayGo o outcome j) [] (but_last stops_in_time.rounds.parts)
  -- A strand with a full record that did not end it stands at its last item, a Stall, after the last part alone.
  pub full_ends :
      Numbered
      (λ t s. length s.items ≡ j.actions → (s.«end» ≢ ActionsFull)
      → AfterEach (λ before part. StandsLast t s.items before part → ⊥) [] (but_last stops_in_time.rounds.parts))
      j.strands
  -- A strand that its full record ended at a Stall stood there after the last part but one.
  pub full_stood :
      Numbered
      (λ t s. s.«end» ≡ ActionsFull → is_stall (last_item s.items) ≡ true
      → AfterLast (StandsLast t s.items) [] (but_last stops_in_time.rounds.parts))
      j.strands
