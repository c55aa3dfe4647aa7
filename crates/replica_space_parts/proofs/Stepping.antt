-- What a step makes of a worker at its seat, and what its steps make of its part in a round.
use Rattle.std.proofs.Common.{◌≡◌, true, false, List, [], ◌∷◌, ◌++◌, Option, Some, None, is_some, refl, sym, ap, subst, ◌∙◌, append-nil, append_assoc, inl, inr}
use Rattle.std.specs.Prelude.{Result, Ok, Err, IfOk}
use Rattle.std.proofs.lemmas.Bool.{false≢true}
use mathlib.Core.List.{IsPrefix}
use Rattle.upc_values.specs.declared.action.Action.{Action}
use Rattle.upc_values.specs.declared.action.Reply.{Reply}
use Rattle.upc_values.specs.declared.record.Item.{Item}
use Rattle.upc_values.specs.declared.record.Item.TheVariants as item
use Rattle.upc_values.specs.Openings.{Opening}
use Rattle.upc_values.specs.Outcomes.{wanted}
use Rattle.upc_values.specs.Records.{is_beat, replies_of}
use Rattle.upc_values.specs.Strands.{next_action}
use Rattle.upc_values.proofs.Records.{next-did, next-stall, replies-stall}
use Rattle.stack_code.specs.layer.Codes.{Codes}
use Rattle.stack_machine.specs.declared.wish.Wish.{Wish}
use Rattle.stack_machine.specs.declared.wish.Wish.TheVariants.{Act}
use Rattle.turn_cell.specs.declared.seat.Seat.{Seat}
use Rattle.turn_cell.specs.layer.Seats as seats
use Rattle.turn_cell.specs.layer.Seats.{TableId, IsFree, number_of, opening_of, seen_of}
use Rattle.replica_space.specs.declared.event.Event.{Event}
use Rattle.replica_space.specs.Events.{history_in}
use Rattle.upc_task.specs.declared.recorder.Recorder.{Recorder}
use Rattle.upc_task.specs.declared.worker.Pause.{Pause}
use Rattle.upc_task.specs.declared.worker.Pause.TheVariants as pauses
use Rattle.upc_task.specs.layer.Sources.{Outcomes}
use Rattle.upc_task.specs.layer.Recorded.{Adds, IsRecorded, IsSame, Leaves, Paused, Waits}
use Rattle.upc_task.proofs.Options.{none-some}
use Rattle.upc_rounds_base.specs.layer.Ending.{IsIdle, Rested}
use Rattle.upc_rounds_base.proofs.Ending.{paused-own}
use Rattle.replica_space_tasks.specs.declared.worker.ReplicaWorker.{ReplicaWorker}
use Rattle.replica_space_tasks.specs.layer.Kept.{IsKept, Grew, Keeps, StaysKept, events_of}
use Rattle.replica_space_parts.specs.declared.part.Part.{Part}
use Rattle.replica_space_parts.specs.declared.seated.Seated.{Seated}
use Rattle.replica_space_parts.specs.layer.Parts.{begun_of, added_in}
use Rattle.replica_space_parts.specs.layer.Seated.{IsSeated, want_of, KeepsStalls, Stepped, AreGoing, Went, Took}
use Rattle.replica_space_parts.proofs.Parts.{begun-events, begun-grown, begun-within, kept-entered}

-- A result under other words, all of which it has.
pub ok-from : {X E : Type 0} (r : Result X E) (A B C D F Q : X → Type 0) → ((x : X) → A x → B x → C x → D x → F x → Q x)
    → IfOk r A → IfOk r B → IfOk r C → IfOk r D → IfOk r F → IfOk r Q
ok-from (Ok x) A B C D F Q h a b c d e = h x a b c d e
ok-from (Err y) A B C D F Q h a b c d e = tt

no-wish : {W : Type 0} (w : Option W) → w ≡ None → is_some w ≡ true → ⊥
no-wish w n s = false≢true (sym (ap is_some n) ∙ s)

-- ---- Stalls stay

module _ {B : Type 0} where
  same-want : (f : Outcomes) (k m : Recorder B) → m.thread ≡ k.thread → replies_of m.items.items ≡ replies_of k.items.items
      → want_of f m ≡ want_of f k
  same-want f k m t r =
      ap (λ j. wanted (f j (replies_of m.items.items)).«end») t ∙ ap (λ rs. wanted (f k.thread rs).«end») r

  pub keeps-self : (f : Outcomes) (k : Recorder B) → KeepsStalls f k k
  keeps-self f k = λ ahead behind a is next. (behind, is, next)

  pub keeps-then : (f : Outcomes) (k l m : Recorder B) → KeepsStalls f k l → KeepsStalls f l m → KeepsStalls f k m
  keeps-then f k l m h g = λ ahead behind a is next. let s = h ahead behind a is next in g ahead s.0 a s.1 s.2

  pub keeps-same : (f : Outcomes) (k m : Recorder B) → m.thread ≡ k.thread → m.items.items ≡ k.items.items → KeepsStalls f k m
  keeps-same f k m same items = λ ahead behind a is next.
      (behind, items ∙ is, ap (λ w. next_action w behind) (same-want f k m same (ap replies_of items)) ∙ next)

  keeps-did : (f : Outcomes) (k m : Recorder B) (a : Action) (r : Reply) → want_of f k ≡ Some a
      → m.items.items ≡ k.items.items ++ item.Did a r ∷ [] → KeepsStalls f k m
  keeps-did f k m a r w items = λ ahead behind b is next. (
    behind ++ item.Did a r ∷ [],
    items ∙ ap (λ l. l ++ item.Did a r ∷ []) is ∙ append_assoc ahead (item.Stall ∷ behind) (item.Did a r ∷ []),
    next-did (want_of f m) behind a r ∙ ap (λ z. next_action z behind) (sym w) ∙ next,
  )

  keeps-stall : (f : Outcomes) (k m : Recorder B) → m.thread ≡ k.thread → m.items.items ≡ k.items.items ++ item.Stall ∷ []
      → KeepsStalls f k m
  keeps-stall f k m same items = λ ahead behind b is next. (
    behind ++ item.Stall ∷ [],
    items ∙ ap (λ l. l ++ item.Stall ∷ []) is ∙ append_assoc ahead (item.Stall ∷ behind) (item.Stall ∷ []),
    next-stall (want_of f m) behind
        ∙ ap (λ z. next_action z behind) (same-want f k m same (ap replies_of items ∙ replies-stall k.items.items)) ∙ next,
  )

  -- What a wish says of what the source wants.
  pub wished-want : (o : Opening) (c : Codes) (f : Outcomes) (k : Recorder B) (a : Action) → IsRecorded o c f k → k.wish ≡ Some (Act a)
      → want_of f k ≡ Some a
  wished-want o c f k a h w = ap wanted (sym (h.goes.wished (Act a) w).1)

  -- Over a step.
  pub step-keeps : (o : Opening) (c : Codes) (f : Outcomes) (p : Pause) (k m : Recorder B) → IsRecorded o c f k → IsSame k m
      → Adds p k.wish k.items.items m.items.items → KeepsStalls f k m
  step-keeps o c f pauses.Going k m h same a = keeps-did f k m a.0 a.1 (wished-want o c f k a.0 h a.3) a.4
  step-keeps o c f pauses.Beat k m h same a = keeps-did f k m a.0 a.1 (wished-want o c f k a.0 h a.3) a.4
  step-keeps o c f pauses.Stalled k m h same (inl is) = keeps-same f k m same.thread is
  step-keeps o c f pauses.Stalled k m h same (inr is) = keeps-stall f k m same.thread is
  step-keeps o c f pauses.Finished k m h same is = keeps-same f k m same.thread is

  -- After a step a thread has a wish only where it stands at a Stall, or has its end.
  pub step-idle : (p : Pause) (k : Recorder B) (wish : Option Wish) → Paused p k → Leaves p wish k.wish → IsIdle k
  step-idle pauses.Going k wish h left e s = absurd (no-wish k.wish left s)
  step-idle pauses.Beat k wish h left e s = absurd (no-wish k.wish left s)
  step-idle pauses.Stalled k wish h left e s = elim h.1 [ inl b ↦ absurd (no-wish k.wish b.1 s) | inr t ↦ t.0 ]
  step-idle pauses.Finished k wish h left e s = absurd (none-some k.«end» h.0 e h.1)

  pub same-then : (k l m : Recorder B) → IsSame k l → IsSame l m → IsSame k m
  same-then k l m s e = record { thread = e.thread ∙ s.thread; limits = e.limits ∙ s.limits }

-- ---- a step

-- What private work leaves as it was.
pub record Worked (c : Codes) (k l : ReplicaWorker) : Type 0 where
  pub stays : StaysKept c k l
  pub same : IsSame k.recorder l.recorder
  pub items : l.recorder.items ≡ k.recorder.items

-- What a turn of a seat shows of the part.
pub record Entered (x : Part) (s t : Seat Part Event Part) (e : Part) : Type 0 where
  pub began : opening_of s ≡ Some x → begun_of e ≡ x
  pub begins : IsPrefix (seen_of s) (added_in e)
  pub own : events_of (number_of s) (added_in e) ≡ events_of (number_of s) (seen_of s)
  pub same : seats.IsSame s t

module _ (z : TableId) (x : Part) (c : Codes) (k : Seated) (l : ReplicaWorker) (s : Seat Part Event Part) (e : Part)
    (worked : Worked c k.worker l) (entered : Entered x k.seat s e) where
  -- Under the turn the worker is kept over the whole run.
  pub kept-turn : (f : Outcomes) → IsSeated z x c f k → IsKept e.run.0 c f e.run.1 l
  kept-turn f h =
      let is : begun_of e ≡ x = entered.began h.opened in
      let thread : l.recorder.thread ≡ number_of k.seat = worked.same.thread ∙ sym h.number in
      let now : IsKept x.run.0 c f (x.run.1 ++ added_in e) l =
      kept-entered x.run.0 c f (number_of k.seat) x.run.1 (seen_of k.seat) (added_in e) l entered.begins entered.own thread
      (worked.stays f x.run.0 (x.run.1 ++ seen_of k.seat) h.kept) in
      subst (λ es. IsKept e.run.0 c f es l) (sym (begun-events x e is))
      (subst (λ o. IsKept o c f (x.run.1 ++ added_in e) l) (sym (ap (λ (q : Part). q.run.0) is)) now)

  module _ (v : Opening × List Event) (m : Seated) (opens : v.0 ≡ e.run.0) (grew : Grew l.recorder.thread e.run.1 v.1)
      (left : seats.IsSame s m.seat) (free : IsFree (λ (y : Event). y.by) m.seat)
      (sees : seen_of m.seat ≡ added_in (record { run = v; before = e.before })) (same : IsSame l.recorder m.worker.recorder) where
    abbrev after : Part
    after = record { run = v; before = e.before }

    module _ (f : Outcomes) (h : IsSeated z x c f k) where
      begun : begun_of after ≡ x
      begun =
          begun-grown e v grew.more (begun-within x e (entered.began h.opened) h.whole) grew.is opens ∙ entered.began h.opened

      opened : v.0 ≡ x.run.0
      opened = ap (λ (q : Part). q.run.0) begun

      events : v.1 ≡ x.run.1 ++ seen_of m.seat
      events = begun-events x after begun ∙ ap (λ es. x.run.1 ++ es) (sym sees)

      moved : IsKept v.0 c f v.1 m.worker → IsSeated z x c f m
      moved kept = record {
        whole = h.whole;
        free = free;
        cell = left.0 ∙ entered.same.0 ∙ h.cell;
        opened = left.2 ∙ entered.same.2 ∙ h.opened;
        number = left.1 ∙ entered.same.1 ∙ h.number ∙ sym (same.thread ∙ worked.same.thread);
        kept = subst (λ o. IsKept o c f (x.run.1 ++ seen_of m.seat) m.worker) opened
            (subst (λ es. IsKept v.0 c f es m.worker) events kept);
      }

      waiting : (p : Pause) → Waits p v.0 (history_in v.1) m.worker.recorder
          → Waits p x.run.0 (history_in (x.run.1 ++ seen_of m.seat)) m.worker.recorder
      waiting p w =
          subst (λ o. Waits p o (history_in (x.run.1 ++ seen_of m.seat)) m.worker.recorder) opened
          (subst (λ es. Waits p v.0 (history_in es) m.worker.recorder) events w)

    -- What the step makes of it.
    pub stepped-of : (f : Outcomes) × IsSeated z x c f k → (p : Pause) → Keeps e.run l v m.worker → Paused p m.worker.recorder
        → Adds p l.recorder.wish l.recorder.items.items m.worker.recorder.items.items
        → Leaves p l.recorder.wish m.worker.recorder.wish → Waits p v.0 (history_in v.1) m.worker.recorder → Stepped z x c p k m
    stepped-of h p keeps paused adds leaves waits = record {
      kept = λ f g. moved f g (keeps c f (kept-turn f g));
      same = same-then k.worker.recorder l.recorder m.worker.recorder worked.same same;
      pause = paused;
      idle = step-idle p m.worker.recorder l.recorder.wish paused leaves;
      wish = l.recorder.wish;
      adds = subst (λ xs. Adds p l.recorder.wish xs.items m.worker.recorder.items.items) worked.items adds;
      waits = waiting h.0 h.1 p waits;
      stays = λ f g.
          keeps-then f k.worker.recorder l.recorder m.worker.recorder
          (keeps-same f k.worker.recorder l.recorder worked.same.thread (ap (λ xs. xs.items) worked.items))
          (step-keeps e.run.0 c f p l.recorder m.worker.recorder (kept-turn f g).recorded same adds);
    }

-- ---- a part in a round

-- The pause ends a part in a round.
abbrev pub IsPause : Pause → Type 0
IsPause pauses.Going = ⊥
IsPause p = Unit {0}

-- How far a worker has gone in its part.
pub record Far (z : TableId) (x : Part) (c : Codes) (first k : Seated) : Type 0 where
  pub kept : (f : Outcomes) → IsSeated z x c f first → IsSeated z x c f k
  pub same : IsSame first.worker.recorder k.worker.recorder
  pub is_open : k.worker.recorder.«end» ≡ None
  pub more : List Item
  pub going : AreGoing more
  pub items : k.worker.recorder.items.items ≡ first.worker.recorder.items.items ++ more
  pub stays : (f : Outcomes) → IsSeated z x c f first → KeepsStalls f first.worker.recorder k.worker.recorder

pub far-begins : (z : TableId) (x : Part) (c : Codes) (k : Seated) → k.worker.recorder.«end» ≡ None → Far z x c k k
far-begins z x c k opened = record {
  kept = λ f h. h;
  same = record { thread = refl; limits = refl };
  is_open = opened;
  more = [];
  going = tt;
  items = sym (append-nil k.worker.recorder.items.items);
  stays = λ f h. keeps-self f k.worker.recorder;
}

going-more : (xs : List Item) (a : Action) (r : Reply) → AreGoing xs → is_beat a ≡ false → AreGoing (xs ++ item.Did a r ∷ [])
going-more [] a r h b = (b, tt)
going-more (item.Did e s ∷ xs) a r h b = (h.0, going-more xs a r h.1 b)
going-more (item.Stall ∷ xs) a r h b = absurd h

-- What was gained from the first items.
gained : (first xs more ys new : List Item) → xs ≡ first ++ more → ys ≡ xs ++ new → ys ≡ first ++ (more ++ new)
gained first xs more ys new h is = is ∙ ap (λ l. l ++ new) h ∙ append_assoc first more new

rested-of : {B : Type 0} (p : Pause) (k : Recorder B) → Paused p k → IsPause p → Rested k
rested-of pauses.Going k h y = absurd y
rested-of pauses.Beat k h y = λ q. h.1
rested-of pauses.Stalled k h y = λ q. h.1
rested-of pauses.Finished k h y = λ q. absurd (none-some k.«end» h.0 q h.1)

module _ (z : TableId) (x : Part) (c : Codes) (first k m : Seated) (h : Far z x c first k) where
  pub far-goes : Stepped z x c pauses.Going k m → Far z x c first m
  far-goes s = record {
    kept = λ f t. s.kept f (h.kept f t);
    same = same-then first.worker.recorder k.worker.recorder m.worker.recorder h.same s.same;
    is_open = s.pause;
    more = h.more ++ item.Did s.adds.0 s.adds.1 ∷ [];
    going = going-more h.more s.adds.0 s.adds.1 h.going s.adds.2;
    items = gained first.worker.recorder.items.items k.worker.recorder.items.items h.more m.worker.recorder.items.items
        (item.Did s.adds.0 s.adds.1 ∷ []) h.items s.adds.4;
    stays = λ f t.
        keeps-then f first.worker.recorder k.worker.recorder m.worker.recorder (h.stays f t) (s.stays f (h.kept f t));
  }

  went : (p : Pause) → Stepped z x c p k m → IsPause p
      → Went x.run.0 (x.run.1 ++ seen_of m.seat) first.worker.recorder m.worker.recorder
  went pauses.Going s y = absurd y
  went pauses.Beat s y = record {
    more = h.more;
    going = h.going;
    rests = inl (
      s.adds.0,
      s.adds.1,
      s.adds.2,
      gained first.worker.recorder.items.items k.worker.recorder.items.items h.more
          m.worker.recorder.items.items (item.Did s.adds.0 s.adds.1 ∷ []) h.items s.adds.4,
    );
  }
  went pauses.Stalled s y = record {
    more = h.more;
    going = h.going;
    rests = inr (inr (
      s.pause.0,
      s.waits,
      elim s.adds [
        | inl is ↦ inl (is ∙ h.items)
        | inr is ↦ inr (gained first.worker.recorder.items.items k.worker.recorder.items.items h.more
            m.worker.recorder.items.items (item.Stall ∷ []) h.items is)
      ],
    ));
  }
  went pauses.Finished s y = record {
    more = h.more;
    going = h.going;
    rests = inr (inl (ap is_some s.pause.1, s.adds ∙ h.items));
  }

  -- The last step of a part.
  pub far-took : (p : Pause) → Stepped z x c p k m → IsPause p → Took z x c first m
  far-took p s y = record {
    kept = λ f t. s.kept f (h.kept f t);
    same = same-then first.worker.recorder k.worker.recorder m.worker.recorder h.same s.same;
    own = paused-own p m.worker.recorder s.pause;
    idle = s.idle;
    rested = rested-of p m.worker.recorder s.pause y;
    stays = λ f t.
        keeps-then f first.worker.recorder k.worker.recorder m.worker.recorder (h.stays f t) (s.stays f (h.kept f t));
    went = went p s y;
  }
