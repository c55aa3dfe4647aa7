-- Worked rows on rounds, computed by the definitions themselves.
use Rattle.std.specs.Prelude.{ℕ, ◌≡◌, ◌≢◌, ◌+◌, ◌<◌, true, false, pos, List, [], ◌∷◌, ◌++◌, length, Some, None, is_some, slice_index_or}
use Rattle.std.proofs.Common.{refl, sym, ap, subst, ◌∙◌, inl, inr, arith, append_assoc}
use Rattle.std.proofs.lemmas.Bool.{false≢true}
use Rattle.block_layout.specs.declared.place.Loc.{Loc}
use Rattle.upc_values.specs.declared.scalar.Mark.TheVariants.{Start, Finish, Absent}
use Rattle.upc_values.specs.declared.scalar.Scalar.TheVariants as scalars
use Rattle.upc_values.specs.declared.action.Action.{Action}
use Rattle.upc_values.specs.declared.action.Action.TheVariants.{Read, Beat, Fence, Notify, Wait, Lock, LockMake}
use Rattle.upc_values.specs.declared.action.Reply.{Reply}
use Rattle.upc_values.specs.declared.action.Reply.TheVariants.{Done, Value}
use Rattle.upc_values.specs.declared.record.Item.{Item}
use Rattle.upc_values.specs.declared.record.Item.TheVariants.{Did, Stall}
use Rattle.upc_values.specs.declared.record.End.TheVariants.{Ended, Budget, ActionsFull, Halted, Deadlocked}
use Rattle.upc_values.specs.declared.record.ToldEnd.TheVariants as told
use Rattle.upc_values.specs.declared.journal.Entry.{Entry}
use Rattle.upc_values.specs.declared.journal.Strand.{Strand}
use Rattle.upc_values.specs.declared.journal.Journal.{Journal}
use Rattle.upc_values.specs.Outcomes.{Outcome}
use Rattle.upc_values.specs.Records.{last_item, is_stall}
use Rattle.upc_values.specs.Drain.{entry_of, entries_of}
use Rattle.upc_values.specs.Ends.{stops as stops_at}
use Rattle.upc_values.specs.History.{reply}
use Rattle.upc_values.specs.Strands.{next_action}
use Rattle.upc_values.specs.Openings.{Opening}
use Rattle.upc_rounds_teams.specs.Rounds.{BeatsLast, ends_with_beat, joined, StandsAtStall, StandsReady, StandsLast, MayGo, Rests, RestsAfterEach, AfterEach, AfterLast, but_last, SomeMayGo, GoesByRounds, StopsInTime, EndsInTime, want_after}
use Rattle.upc_rounds.proofs.Cuts.{EachFront, front-has, only-stall, cut-at, beats-each, rests-at, after-at, each-mid, last-two, each-two, joined-append, Quiet, quiet-middle, quiet-part, quiet-own, after-own, rests-next, front-none, may-pass}

-- Two threads with nothing to do but the barriers before and after main.
abbrev opening : Opening
opening = record { threads = 2; declared = []; initials = []; shapes = [] }

abbrev outcome : ℕ → ℕ → List Reply → Outcome
outcome budget t replies =
    record { actions = Notify Start ∷ Wait Start ∷ Notify Finish ∷ Wait Finish ∷ []; ticks = 0; «end» = told.Ended (pos 0) }

abbrev did : Action → Item
did a = Did a Done

-- Thread 0 runs first, and stalls at its first wait; thread 1 stalls at its second.
abbrev items_0 : List Item
items_0 = did (Notify Start) ∷ Stall ∷ did (Wait Start) ∷ did (Notify Finish) ∷ did (Wait Finish) ∷ []

abbrev items_1 : List Item
items_1 = did (Notify Start) ∷ did (Wait Start) ∷ did (Notify Finish) ∷ Stall ∷ did (Wait Finish) ∷ []

abbrev strand : List Item → Strand
strand items = record { items = items; ticks = 0; «end» = Ended (pos 0) }

-- The first round.
abbrev first : List Entry
first =
    entry_of 0 0 (Notify Start) Done ∷ entry_of 1 0 (Notify Start) Done
    ∷ entry_of 1 1 (Wait Start) Done ∷ entry_of 1 2 (Notify Finish) Done ∷ []

-- The second, and last.
abbrev second : List Entry
second =
    entry_of 0 1 (Wait Start) Done ∷ entry_of 0 2 (Notify Finish) Done
    ∷ entry_of 0 3 (Wait Finish) Done ∷ entry_of 1 3 (Wait Finish) Done ∷ []

abbrev journal : Journal
journal =
    record {
      threads = 2;
      budget = 100;
      actions = 100;
      strands = strand items_0 ∷ strand items_1 ∷ [];
      history = first ++ second;
    }

-- After the first round thread 0 stands at its Stall: its wait had no reply while thread 1 had not notified.
stands_0 : StandsAtStall opening 0 items_0 None [] first
stands_0 =
    record {
      ahead = did (Notify Start) ∷ [];
      behind = did (Wait Start) ∷ did (Notify Finish) ∷ did (Wait Finish) ∷ [];
      is = refl;
      drained = refl;
      front = entry_of 0 0 (Notify Start) Done ∷ [];
      rest = entry_of 1 0 (Notify Start) Done ∷ entry_of 1 1 (Wait Start) Done ∷ entry_of 1 2 (Notify Finish) Done ∷ [];
      cut = refl;
      whole = refl;
      action = Wait Start;
      wants = refl;
      none = refl;
    }

-- So does thread 1: its second wait has no reply while thread 0 has one notify.
stands_1 : StandsAtStall opening 1 items_1 None [] first
stands_1 =
    record {
      ahead = did (Notify Start) ∷ did (Wait Start) ∷ did (Notify Finish) ∷ [];
      behind = did (Wait Finish) ∷ [];
      is = refl;
      drained = refl;
      front = first;
      rest = [];
      cut = refl;
      whole = refl;
      action = Wait Finish;
      wants = refl;
      none = refl;
    }

rests_0 : RestsAfterEach opening 0 items_0 None (Ended (pos 0)) [] (first ∷ second ∷ [])
rests_0 = (tt, inr (inr stands_0), ((refl, (refl, tt)), inr (inl (refl, refl)), tt))

rests_1 : RestsAfterEach opening 1 items_1 None (Ended (pos 0)) [] (first ∷ second ∷ [])
rests_1 = ((refl, (refl, tt)), inr (inr stands_1), (tt, inr (inl (refl, refl)), tt))

-- The journal goes by these two rounds.
rests : (t : ℕ) (d : Strand) → t < 2
    → let s = slice_index_or journal.strands t d in RestsAfterEach opening t s.items None s.«end» [] (first ∷ second ∷ [])
rests ℕ.zero d below = rests_0
rests (ℕ.suc ℕ.zero) d below = rests_1
rests (ℕ.suc (ℕ.suc t)) d below = absurd (omega arith)

abbrev rounds : GoesByRounds opening outcome journal
rounds = record { parts = first ∷ second ∷ []; whole = refl; rests = rests }

-- The run of it ends in the round in which it has to.
abbrev stops : StopsInTime opening outcome journal
stops = record { rounds = rounds; before = never_stops }
  where
    never_stops : (t : ℕ) (d : Strand) → t < 2 → stops_at (slice_index_or journal.strands t d).«end» ≡ true
        → let s = slice_index_or journal.strands t d in RestsAfterEach opening t s.items None Halted [] (but_last (first ∷ second ∷ []))
    never_stops ℕ.zero d below h = absurd (false≢true h)
    never_stops (ℕ.suc ℕ.zero) d below h = absurd (false≢true h)
    never_stops (ℕ.suc (ℕ.suc t)) d below h = absurd (omega arith)

-- After the first round thread 0 may go on.
ready_0 : StandsReady opening 0 items_0 None [] first
ready_0 =
    record {
      ahead = did (Notify Start) ∷ [];
      behind = did (Wait Start) ∷ did (Notify Finish) ∷ did (Wait Finish) ∷ [];
      is = refl;
      drained = refl;
      action = Wait Start;
      wants = refl;
      some = refl;
    }

in_time : EndsInTime opening outcome journal
in_time = record {
  stops_in_time = stops;
  goes = (record { thread = 0; within = omega arith; goes = λ d. inr ready_0 }, tt);
  full_ends = few;
  full_stood = no_full;
}
  where
    few : (t : ℕ) (d : Strand) → t < 2 → let s = slice_index_or journal.strands t d in length s.items ≡ 100 → (s.«end» ≢ ActionsFull)
        → AfterEach (λ before part. StandsLast t s.items before part → ⊥) [] (first ∷ [])
    few ℕ.zero d below h n = absurd (omega (arith, h))
    few (ℕ.suc ℕ.zero) d below h n = absurd (omega (arith, h))
    few (ℕ.suc (ℕ.suc t)) d below h n = absurd (omega arith)

    no_full : (t : ℕ) (d : Strand) → t < 2 → let s = slice_index_or journal.strands t d in s.«end» ≡ ActionsFull
        → is_stall (last_item s.items) ≡ true → AfterLast (StandsLast t s.items) [] (first ∷ [])
    no_full ℕ.zero d below h n = absurd (false≢true n)
    no_full (ℕ.suc ℕ.zero) d below h n = absurd (false≢true n)
    no_full (ℕ.suc (ℕ.suc t)) d below h n = absurd (omega arith)

-- ---- one thread before the other

-- Two threads, each with 3,000 turns of an empty loop: two Beats each.
abbrev loops : ℕ → ℕ → List Reply → Outcome
loops budget t replies =
    record {
      actions = Notify Start ∷ Wait Start ∷ Beat ∷ Beat ∷ Notify Finish ∷ Wait Finish ∷ [];
      ticks = 3001;
      «end» = told.Ended (pos 0);
    }

-- Thread 0 stalls at its first wait, and is passed over until thread 1 has come to its end.
abbrev loop_0 : List Item
loop_0 = did (Notify Start) ∷ Stall ∷ did (Wait Start) ∷ did Beat ∷ did Beat ∷ did (Notify Finish) ∷ did (Wait Finish) ∷ []

abbrev loop_1 : List Item
loop_1 = did (Notify Start) ∷ did (Wait Start) ∷ did Beat ∷ did Beat ∷ did (Notify Finish) ∷ Stall ∷ did (Wait Finish) ∷ []

abbrev own : ℕ → ℕ → Action → Entry
own t i a = entry_of t i a Done

-- Up to the second Beat of thread 1, and what follows its next entry.
abbrev up_to_beat : List Entry
up_to_beat = own 0 0 (Notify Start) ∷ own 1 0 (Notify Start) ∷ own 1 1 (Wait Start) ∷ own 1 2 Beat ∷ own 1 3 Beat ∷ []

abbrev after_beat : List Entry
after_beat =
    own 1 4 (Notify Finish) ∷ own 0 1 (Wait Start) ∷ own 0 2 Beat ∷ own 0 3 Beat ∷ own 0 4 (Notify Finish)
    ∷ own 0 5 (Wait Finish) ∷ own 1 5 (Wait Finish) ∷ []

abbrev one_by_one : Journal
one_by_one =
    record {
      threads = 2;
      budget = 10000;
      actions = 100;
      strands =
          record { items = loop_0; ticks = 3001; «end» = Ended (pos 0) }
          ∷ record { items = loop_1; ticks = 3001; «end» = Ended (pos 0) } ∷ [];
      history = up_to_beat ++ after_beat;
    }

-- Once thread 1 has notified, thread 0 stands at its Stall no more: its wait has a reply.
no-longer : (before part later : List Entry) → ((front : List Entry) (rest : List Entry) → part ≡ front ++ rest
    → is_some (reply opening (before ++ front) 0 (Wait Start)) ≡ true) → ends_with_beat (entries_of 0 part) ≡ false
    → (entries_of 0 later ≡ [] → ⊥) → Rests opening 0 loop_0 None (Ended (pos 0)) before part later → ⊥
no-longer before part later replies none more h = elim h [
  | inl b ↦ false≢true (sym none ∙ b)
  | inr r ↦ elim r [
    | inl o ↦ more o.0
    | inr s ↦
        let at = only-stall (did (Notify Start) ∷ []) (did (Wait Start) ∷ did Beat ∷ did Beat ∷ did (Notify Finish) ∷ did (Wait Finish) ∷ [])
        s.ahead s.behind tt tt s.is in
        let wants : Some (Wait Start) ≡ Some s.action = sym (ap (next_action None) at.1) ∙ s.wants in
        let is : Wait Start ≡ s.action = cc in
        false≢true (sym (ap is_some (subst (λ a. reply opening (before ++ s.front) 0 a ≡ None) (sym is) s.none))
        ∙ replies s.front s.rest s.cut)
  ]
]

-- Where thread 0 could rest after a part that ends with the second Beat.
abbrev Passed : List Entry → Type 0
Passed xs = (ys later : List Entry) → xs ++ ys ≡ up_to_beat → BeatsLast (entries_of 1 ys) → (entries_of 0 later ≡ [] → ⊥)
    → Rests opening 0 loop_0 None (Ended (pos 0)) xs ys later → ⊥

abbrev before_beat : List Entry
before_beat = own 0 0 (Notify Start) ∷ own 1 0 (Notify Start) ∷ own 1 1 (Wait Start) ∷ own 1 2 Beat ∷ []

passed : EachFront Passed up_to_beat
passed = (
  (λ ys later is b m r. let e : ys ≡ up_to_beat = cc in false≢true (sym (subst (λ l. BeatsLast (entries_of 1 l)) e b).1.1.0)),
  (
    (λ ys later is b m r.
        let e : ys ≡ own 1 0 (Notify Start) ∷ own 1 1 (Wait Start) ∷ own 1 2 Beat ∷ own 1 3 Beat ∷ [] = cc in
        false≢true (sym (subst (λ l. BeatsLast (entries_of 1 l)) e b).1.1.0)),
    (
      (λ ys later is b m r.
          let e : ys ≡ own 1 1 (Wait Start) ∷ own 1 2 Beat ∷ own 1 3 Beat ∷ [] = cc in false≢true (sym (subst (λ l. BeatsLast (entries_of 1 l)) e b).1.0)),
      (
        (λ ys later is b m r.
            let e : ys ≡ own 1 2 Beat ∷ own 1 3 Beat ∷ [] = cc in false≢true (sym (subst (λ l. BeatsLast (entries_of 1 l)) e b).0)),
        (
          (λ ys later is b m r.
              let e : ys ≡ own 1 3 Beat ∷ [] = cc in
              no-longer before_beat ys later
              (λ front rest cut. front-has (λ l. is_some (reply opening (before_beat ++ l) 0 (Wait Start)) ≡ true) front rest (own 1 3 Beat ∷ []) (sym cut ∙ e) (refl, refl))
              (ap (λ l. ends_with_beat (entries_of 0 l)) e) m r),
          (λ ys later is b m r.
              let e : ys ≡ [] = cc in
              no-longer up_to_beat ys later
              (λ front rest cut. front-has (λ l. is_some (reply opening (up_to_beat ++ l) 0 (Wait Start)) ≡ true) front rest [] (sym cut ∙ e) refl)
              (ap (λ l. ends_with_beat (entries_of 0 l)) e) m r),
        ),
      ),
    ),
  ),
)

-- No parts make this journal one that goes by rounds.
not_one_by_one : GoesByRounds opening loops one_by_one → ⊥
not_one_by_one g =
    let none : Strand = record { items = []; ticks = 0; «end» = Halted } in
    let one = g.rests 1 none (omega arith) in
    let c = cut-at 1 g.parts before_beat (own 1 3 Beat) (own 1 4 (Notify Finish))
    (own 0 1 (Wait Start) ∷ own 0 2 Beat ∷ own 0 3 Beat ∷ own 0 4 (Notify Finish) ∷ own 0 5 (Wait Finish) ∷ own 1 5 (Wait Finish) ∷ [])
    refl refl refl (beats-each opening 1 loop_1 None (Ended (pos 0)) [] g.parts one) g.whole in
    let rests_0 = rests-at opening 0 loop_0 None (Ended (pos 0)) [] c.left c.last c.right
    (subst (RestsAfterEach opening 0 loop_0 None (Ended (pos 0)) []) c.is (g.rests 0 none (omega arith))) in
    front-has Passed (joined c.left) c.last up_to_beat c.ends passed c.last (joined c.right) c.ends
    (each-mid (λ p. BeatsLast (entries_of 1 p)) c.left c.last c.right
    (subst (Rattle.upc_values.specs.Lists.Each (λ p. BeatsLast (entries_of 1 p))) c.is (beats-each opening 1 loop_1 None (Ended (pos 0)) [] g.parts one)))
    (λ e. let bad : entries_of 0 after_beat ≡ [] = ap (entries_of 0) (sym c.goes_on) ∙ e in absurd cc)
    rests_0

-- The same source by rounds.
abbrev round_1 : List Entry
round_1 = own 0 0 (Notify Start) ∷ own 1 0 (Notify Start) ∷ own 1 1 (Wait Start) ∷ own 1 2 Beat ∷ []

abbrev round_2 : List Entry
round_2 = own 0 1 (Wait Start) ∷ own 0 2 Beat ∷ own 1 3 Beat ∷ []

abbrev round_3 : List Entry
round_3 = own 0 3 Beat ∷ own 1 4 (Notify Finish) ∷ []

abbrev round_4 : List Entry
round_4 = own 0 4 (Notify Finish) ∷ own 0 5 (Wait Finish) ∷ own 1 5 (Wait Finish) ∷ []

abbrev by_rounds : Journal
by_rounds = record one_by_one { history = round_1 ++ round_2 ++ round_3 ++ round_4 }

took_turns : GoesByRounds opening loops by_rounds
took_turns = record { parts = round_1 ∷ round_2 ∷ round_3 ∷ round_4 ∷ []; whole = refl; rests = each }
  where
    stands_0 : StandsAtStall opening 0 loop_0 None [] round_1
    stands_0 = record {
      ahead = did (Notify Start) ∷ [];
      behind = did (Wait Start) ∷ did Beat ∷ did Beat ∷ did (Notify Finish) ∷ did (Wait Finish) ∷ [];
      is = refl;
      drained = refl;
      front = own 0 0 (Notify Start) ∷ [];
      rest = own 1 0 (Notify Start) ∷ own 1 1 (Wait Start) ∷ own 1 2 Beat ∷ [];
      cut = refl;
      whole = refl;
      action = Wait Start;
      wants = refl;
      none = refl;
    }

    stands_1 : StandsAtStall opening 1 loop_1 None (round_1 ++ round_2) round_3
    stands_1 = record {
      ahead = did (Notify Start) ∷ did (Wait Start) ∷ did Beat ∷ did Beat ∷ did (Notify Finish) ∷ [];
      behind = did (Wait Finish) ∷ [];
      is = refl;
      drained = refl;
      front = round_3;
      rest = [];
      cut = refl;
      whole = refl;
      action = Wait Finish;
      wants = refl;
      none = refl;
    }

    each : (t : ℕ) (d : Strand) → t < 2 → let s = slice_index_or by_rounds.strands t d in
        RestsAfterEach opening t s.items None s.«end» [] (round_1 ∷ round_2 ∷ round_3 ∷ round_4 ∷ [])
    each ℕ.zero d below = (tt, inr (inr stands_0), ((refl, tt), inl refl, (tt, inl refl, (((refl, tt), inr (inl (refl, refl)), tt)))))
    each (ℕ.suc ℕ.zero) d below = ((refl, (refl, tt)), inl refl, (tt, inl refl, (tt, inr (inr stands_1), (tt, inr (inl (refl, refl)), tt))))
    each (ℕ.suc (ℕ.suc t)) d below = absurd (omega arith)

-- ---- a deadlock

-- Thread 0 holds a lock and waits at a barrier; thread 1 wants the lock.
abbrev stuck : (after_beat : ℕ) → ℕ → ℕ → List Reply → Outcome
stuck beats budget ℕ.zero replies =
    record { actions = Notify Start ∷ Wait Start ∷ LockMake ∷ Lock 1 ∷ Notify Absent ∷ []; ticks = 0; «end» = told.Wants (Wait Absent) }
stuck beats budget t replies =
    record { actions = Notify Start ∷ Wait Start ∷ Fence ∷ []; ticks = 0; «end» = told.Wants (Lock 1) }

abbrev holds_it : List Item
holds_it =
    did (Notify Start) ∷ did (Wait Start) ∷ Did LockMake (Value (scalars.Lock 1)) ∷ did (Lock 1) ∷ did (Notify Absent) ∷ Stall ∷ []

abbrev wants_it : List Item
wants_it = did (Notify Start) ∷ did (Wait Start) ∷ did Fence ∷ Stall ∷ []

abbrev all_stuck : List Entry
all_stuck =
    own 0 0 (Notify Start) ∷ own 1 0 (Notify Start) ∷ own 0 1 (Wait Start) ∷ own 1 1 (Wait Start)
    ∷ entry_of 0 2 LockMake (Value (scalars.Lock 1)) ∷ own 0 3 (Lock 1) ∷ own 0 4 (Notify Absent) ∷ own 1 2 Fence ∷ []

-- One idle round late: thread 0, whose record of six items is full, is ended by that in a further round, though no
-- Thread could go on.
abbrev late : Journal
late =
    record {
      threads = 2;
      budget = 100;
      actions = 6;
      strands =
          record { items = holds_it; ticks = 0; «end» = ActionsFull }
          ∷ record { items = wants_it; ticks = 0; «end» = Halted } ∷ [];
      history = all_stuck;
    }

-- After no front of the history may either go on.
abbrev CannotGo : List Entry → Type 0
CannotGo l =
    (entries_of 0 l ≡ entries_of 0 all_stuck → is_some (reply opening l 0 (Wait Absent)) ≡ true → ⊥)
    × (entries_of 1 l ≡ entries_of 1 all_stuck → is_some (reply opening l 1 (Lock 1)) ≡ true → ⊥)

cannot_go : EachFront CannotGo all_stuck
cannot_go = ((λ e s. absurd cc, λ e s. absurd cc), ((λ e s. absurd cc, λ e s. absurd cc), ((λ e s. absurd cc, λ e s. absurd cc), ((λ e s. absurd cc, λ e s. absurd cc), ((λ e s. absurd cc, λ e s. absurd cc), ((λ e s. absurd cc, λ e s. absurd cc), ((λ e s. absurd cc, λ e s. absurd cc), ((λ e s. false≢true s, λ e s. absurd cc), (λ e s. false≢true s, λ e s. false≢true s)))))))))

no_beats : EachFront (λ l. (ends_with_beat (entries_of 0 l) ≡ true → ⊥) × (ends_with_beat (entries_of 1 l) ≡ true → ⊥)) all_stuck
no_beats = ((false≢true, false≢true), ((false≢true, false≢true), ((false≢true, false≢true), ((false≢true, false≢true), ((false≢true, false≢true), ((false≢true, false≢true), ((false≢true, false≢true), ((false≢true, false≢true), (false≢true, false≢true)))))))))

-- A strand for numbers that have none.
abbrev nobody_else : Strand
nobody_else = record { items = []; ticks = 0; «end» = Halted }

-- After none of its parts may a thread go on.
stuck_after : (xs p : List Entry) (rest : List Entry) → (xs ++ p) ++ rest ≡ all_stuck → (ends_with_beat (entries_of 0 p) ≡ true → ⊥) → (ends_with_beat (entries_of 1 p) ≡ true → ⊥)
    → SomeMayGo opening (stuck 0) late xs p → ⊥
stuck_after xs p rest is no_0 no_1 s = nobody s.thread s.within (s.goes nobody_else)
  where
    cannot : CannotGo (xs ++ p)
    cannot = front-has CannotGo (xs ++ p) rest all_stuck is cannot_go

    nobody : (t : ℕ) → t < 2 → (let s = slice_index_or late.strands t nobody_else in MayGo opening t s.items (want_after (stuck 0) late t s.items) xs p) → ⊥
    nobody ℕ.zero below h = elim h [
      | inl b ↦ no_0 b
      | inr r ↦
          let at = only-stall (did (Notify Start) ∷ did (Wait Start) ∷ Did LockMake (Value (scalars.Lock 1)) ∷ did (Lock 1) ∷ did (Notify Absent) ∷ []) [] r.ahead r.behind tt tt r.is in
          let wants : Some (Wait Absent) ≡ Some r.action = sym (ap (next_action (Some (Wait Absent))) at.1) ∙ r.wants in
          let is : Wait Absent ≡ r.action = cc in
          cannot.0 (r.drained ∙ ap (Rattle.upc_values.specs.Drain.drain 0) at.0) (subst (λ a. is_some (reply opening (xs ++ p) 0 a) ≡ true) (sym is) r.some)
    ]
    nobody (ℕ.suc ℕ.zero) below h = elim h [
      | inl b ↦ no_1 b
      | inr r ↦
          let at = only-stall (did (Notify Start) ∷ did (Wait Start) ∷ did Fence ∷ []) [] r.ahead r.behind tt tt r.is in
          let wants : Some (Lock 1) ≡ Some r.action = sym (ap (next_action (Some (Lock 1))) at.1) ∙ r.wants in
          let is : Lock 1 ≡ r.action = cc in
          cannot.1 (r.drained ∙ ap (Rattle.upc_values.specs.Drain.drain 1) at.0) (subst (λ a. is_some (reply opening (xs ++ p) 1 a) ≡ true) (sym is) r.some)
    ]
    nobody (ℕ.suc (ℕ.suc t)) below h = absurd (omega arith)

-- No entry of a part is a Beat.
no_beat_in : (t : ℕ) (xs p rest : List Entry) → xs ++ (p ++ rest) ≡ all_stuck → ends_with_beat (entries_of t p) ≡ true → ⊥
no_beat_in t xs p rest is b = false≢true (sym (quiet-part t p (quiet-middle xs p rest (subst Quiet (sym is) (refl, (refl, (refl, (refl, (refl, (refl, (refl, (refl, tt))))))))))) ∙ b)

not_late : EndsInTime opening (stuck 0) late → ⊥
not_late h =
    let ps = h.stops_in_time.rounds.parts in
    let none : Strand = record { items = []; ticks = 0; «end» = Halted } in
    let two = last-two (StandsLast 0 holds_it) [] ps (h.full_stood 0 none (omega arith) refl refl) in
    let rest = joined (two.2 ∷ []) in
    let whole : joined two.0 ++ (two.1 ++ rest) ≡ all_stuck =
    sym (joined-append two.0 (two.1 ∷ two.2 ∷ [])) ∙ sym (ap joined two.3) ∙ h.stops_in_time.rounds.whole in
    let s = each-two (SomeMayGo opening (stuck 0) late) [] two.0 two.1 two.2
    (subst (λ l. AfterEach (SomeMayGo opening (stuck 0) late) [] (but_last l)) two.3 h.goes) in
    stuck_after (joined two.0) two.1 rest (append_assoc (joined two.0) two.1 rest ∙ whole)
    (no_beat_in 0 (joined two.0) two.1 rest whole) (no_beat_in 1 (joined two.0) two.1 rest whole) s

-- ---- a full record that is passed over

-- Thread 0 comes to a Beat once before it waits; thread 1, whose record of seven items is full at its Stall by then,
-- Is deadlocked with it.
abbrev beats_before : ℕ → ℕ → List Reply → Outcome
beats_before budget ℕ.zero replies =
    record { actions = Notify Start ∷ Wait Start ∷ LockMake ∷ Lock 1 ∷ Beat ∷ Notify Absent ∷ []; ticks = 1024; «end» = told.Wants (Wait Absent) }
beats_before budget t replies =
    record { actions = Notify Start ∷ Wait Start ∷ Fence ∷ Fence ∷ Fence ∷ Fence ∷ []; ticks = 0; «end» = told.Wants (Lock 1) }

abbrev beats_once : List Item
beats_once =
    did (Notify Start) ∷ did (Wait Start) ∷ Did LockMake (Value (scalars.Lock 1)) ∷ did (Lock 1) ∷ did Beat ∷ did (Notify Absent) ∷ Stall ∷ []

abbrev is_full : List Item
is_full = did (Notify Start) ∷ did (Wait Start) ∷ did Fence ∷ did Fence ∷ did Fence ∷ did Fence ∷ Stall ∷ []

abbrev first_round : List Entry
first_round =
    own 0 0 (Notify Start) ∷ own 1 0 (Notify Start) ∷ own 0 1 (Wait Start) ∷ own 1 1 (Wait Start)
    ∷ entry_of 0 2 LockMake (Value (scalars.Lock 1)) ∷ own 0 3 (Lock 1) ∷ own 1 2 Fence ∷ own 1 3 Fence ∷ own 1 4 Fence ∷ own 1 5 Fence ∷ []

abbrev passed_full : Journal
passed_full =
    record {
      threads = 2;
      budget = 10000;
      actions = 7;
      strands =
          record { items = beats_once; ticks = 1024; «end» = Deadlocked (Wait Absent) }
          ∷ record { items = is_full; ticks = 0; «end» = Deadlocked (Lock 1) } ∷ [];
      history = first_round ++ own 0 4 Beat ∷ own 0 5 (Notify Absent) ∷ [];
    }

not_passed_full : EndsInTime opening beats_before passed_full → ⊥
not_passed_full h =
    let g = h.stops_in_time.rounds in
    let none : Strand = record { items = []; ticks = 0; «end» = Halted } in
    let zero_rests = g.rests 0 none (omega arith) in
    let c = cut-at 0 g.parts first_round (own 0 4 Beat) (own 0 5 (Notify Absent)) [] refl refl refl
    (beats-each opening 0 beats_once (Some (Wait Absent)) (Deadlocked (Wait Absent)) [] g.parts zero_rests) g.whole in
    let full = h.full_ends 1 none (omega arith) refl (λ e. absurd cc) in
    goes-on c.left c.last c.right c.goes_on (subst (λ l. AfterEach (λ before part. StandsLast 1 is_full before part → ⊥) [] (but_last l)) c.is full)
    (record {
      ahead = did (Notify Start) ∷ did (Wait Start) ∷ did Fence ∷ did Fence ∷ did Fence ∷ did Fence ∷ [];
      is = refl;
      drained = ap (entries_of 1) c.ends;
      no_beat = front-back (joined c.left) c.last c.ends;
    })
  where
    goes-on : (left : List (List Entry)) (last : List Entry) (right : List (List Entry)) → joined right ≡ own 0 5 (Notify Absent) ∷ []
        → AfterEach (λ before part. StandsLast 1 is_full before part → ⊥) [] (but_last (left ++ last ∷ right)) → StandsLast 1 is_full (joined left) last → ⊥
    goes-on left last [] is h s = absurd cc
    goes-on left last (q ∷ qs) is h s = after-at (λ before part. StandsLast 1 is_full before part → ⊥) [] left last q qs h s

    front-back : (xs p : List Entry) → xs ++ p ≡ first_round ++ own 0 4 Beat ∷ [] → ends_with_beat (entries_of 1 p) ≡ false
    front-back xs p is =
        quiet-own 1 p (after-own 1 xs p (subst (λ l. Quiet (entries_of 1 l)) (sym is) (refl, (refl, (refl, (refl, (refl, (refl, tt))))))))

-- ---- a stalled thread that is passed over

-- Strict shared int f; int main(void){if(MYTHREAD==1){while(!f);}else f=1;return 0;} on two threads: thread 0 stalls at
-- Its first wait and is passed over for ever, so thread 1 reads 0 until its ticks are spent.
abbrev at_f : Loc
at_f = record { object = 1; thread = 0; offset = 0 }

abbrev reads_f : Action
reads_f = Read at_f true

abbrev gave_0 : Reply
gave_0 = Value (scalars.Int (pos 0))

abbrev spins : ℕ → ℕ → List Reply → Outcome
spins budget ℕ.zero replies = record { actions = Notify Start ∷ []; ticks = 0; «end» = told.Wants (Wait Start) }
spins budget t replies = record { actions = Notify Start ∷ Wait Start ∷ []; ticks = budget; «end» = told.OutOfTicks }

-- So many reads from action i on, as items and as entries.
abbrev read_items : ℕ → List Item
read_items ℕ.zero = []
read_items (ℕ.suc n) = Did reads_f gave_0 ∷ read_items n

abbrev reads : (i n : ℕ) → List Entry
reads i ℕ.zero = []
reads i (ℕ.suc n) = entry_of 1 i reads_f gave_0 ∷ reads (ℕ.suc i) n

-- With 1,023 reads before the first Beat and 1,024 after it a budget of 2,048 is spent.
abbrev spun : (n m : ℕ) → List Item
spun n m = did (Notify Start) ∷ did (Wait Start) ∷ (read_items n ++ did Beat ∷ (read_items (ℕ.suc m) ++ did Beat ∷ []))

abbrev until_beat : ℕ → List Entry
until_beat n = own 0 0 (Notify Start) ∷ own 1 0 (Notify Start) ∷ own 1 1 (Wait Start) ∷ reads 2 n

abbrev starved : (budget n m : ℕ) → Journal
starved budget n m =
    record {
      threads = 2;
      budget = budget;
      actions = 10000;
      strands =
          record { items = did (Notify Start) ∷ Stall ∷ []; ticks = 0; «end» = Halted }
          ∷ record { items = spun n m; ticks = budget; «end» = Budget } ∷ [];
      history = until_beat n ++ own 1 (2 + n) Beat ∷ (reads (3 + n) (ℕ.suc m) ++ own 1 (4 + n + m) Beat ∷ []);
    }

-- What thread 1 does adds nothing of thread 0, and no wait of it.
none_of_0 : (i n : ℕ) (es : List Entry) → entries_of 0 es ≡ [] → entries_of 0 (reads i n ++ es) ≡ []
none_of_0 i ℕ.zero es h = h
none_of_0 i (ℕ.suc n) es h = none_of_0 (ℕ.suc i) n es h

not_starved : (budget n m : ℕ) → GoesByRounds opening spins (starved budget n m) → ⊥
not_starved budget n m g =
    let zero = g.rests 0 nobody_else (omega arith) in
    let c = cut-at 1 g.parts (until_beat n) (own 1 (2 + n) Beat) (entry_of 1 (3 + n) reads_f gave_0) (reads (ℕ.suc (3 + n)) m ++ own 1 (4 + n + m) Beat ∷ [])
    refl refl refl (beats-each opening 1 (spun n m) None Budget [] g.parts (g.rests 1 nobody_else (omega arith))) g.whole in
    after c.left c.last c.right c.ends c.goes_on
    (subst (RestsAfterEach opening 0 (did (Notify Start) ∷ Stall ∷ []) (Some (Wait Start)) Halted []) c.is zero)
  where
    after : (left : List (List Entry)) (last : List Entry) (right : List (List Entry)) → joined left ++ last ≡ until_beat n ++ own 1 (2 + n) Beat ∷ []
        → joined right ≡ entry_of 1 (3 + n) reads_f gave_0 ∷ (reads (ℕ.suc (3 + n)) m ++ own 1 (4 + n + m) Beat ∷ [])
        → RestsAfterEach opening 0 (did (Notify Start) ∷ Stall ∷ []) (Some (Wait Start)) Halted [] (left ++ last ∷ right) → ⊥
    after left last [] ends is h = absurd cc
    after left last (q ∷ qs) ends is h =
        let rests = rests-next opening 0 (did (Notify Start) ∷ Stall ∷ []) (Some (Wait Start)) Halted left last q qs h in
        let none : entries_of 0 q ≡ [] = front-none 0 q (joined qs) (ap (entries_of 0) is ∙ none_of_0 (ℕ.suc (3 + n)) m (own 1 (4 + n + m) Beat ∷ []) refl) in
        elim rests [
          | inl b ↦ false≢true (sym (ap ends_with_beat none) ∙ b)
          | inr r ↦ elim r [
            | inl o ↦ false≢true (sym o.1)
            | inr s ↦
                let at = only-stall (did (Notify Start) ∷ []) [] s.ahead s.behind tt tt s.is in
                let wants : Some (Wait Start) ≡ Some s.action = sym (ap (next_action (Some (Wait Start))) at.1) ∙ s.wants in
                let same : Wait Start ≡ s.action = cc in
                let tail = (own 1 1 (Wait Start) ∷ reads 2 n) ++ own 1 (2 + n) Beat ∷ s.front in
                let seen : (joined left ++ last) ++ s.front ≡ own 0 0 (Notify Start) ∷ own 1 0 (Notify Start) ∷ tail =
                ap (λ l. l ++ s.front) ends ∙ append_assoc (until_beat n) (own 1 (2 + n) Beat ∷ []) s.front in
                let front : entries_of 0 s.front ≡ [] = front-none 0 s.front s.rest (ap (entries_of 0) (sym s.cut) ∙ none) in
                let quiet : entries_of 0 tail ≡ [] = none_of_0 2 n (own 1 (2 + n) Beat ∷ s.front) front in
                false≢true (sym (ap is_some (subst (λ a. reply opening ((joined left ++ last) ++ s.front) 0 a ≡ None) (sym same) s.none))
                ∙ ap (λ l. is_some (reply opening l 0 (Wait Start))) seen ∙ may-pass tail quiet)
          ]
        ]
