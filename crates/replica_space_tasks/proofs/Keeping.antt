-- What a worker keeps: at an action, at a stall, at its end, and while others add events.
use Rattle.std.proofs.Common.{◌≡◌, ℕ, ◌+◌, true, List, [], ◌∷◌, ◌++◌, length, Some, None, is_some, refl, sym, ap, subst, ◌∙◌, append-nil, inl, inr}
use Rattle.std.proofs.lemmas.List.{length_push}
use Rattle.upc_values.specs.declared.action.Action.{Action}
use Rattle.upc_values.specs.declared.action.Reply.{Reply}
use Rattle.upc_values.specs.declared.record.Item.{Item}
use Rattle.upc_values.specs.declared.record.Item.TheVariants.{Did}
use Rattle.upc_values.specs.declared.record.End.{End}
use Rattle.upc_values.specs.declared.journal.Entry.{Entry}
use Rattle.upc_values.specs.Drain.{entry_of, entries_of}
use Rattle.upc_values.specs.Openings.{Opening}
use Rattle.upc_values.specs.History.{reply, is_notify, is_wait}
use Rattle.upc_values.specs.Formed.{IsWellFormed, AreWellFormed, fits_after}
use Rattle.upc_values.specs.Strands.{may_wait}
use Rattle.upc_values.specs.layer.Known.{gives_known, AreKnown}
use Rattle.upc_values.specs.Outcomes.{Suits, wanted}
use Rattle.upc_values.specs.Records.{actions_of, replies_of}
use Rattle.upc_values.specs.Ends.{OwnEnd}
use Rattle.upc_values.proofs.Known.{known-grow}
use Rattle.upc_values.proofs.Lists.{each-push}
use Rattle.upc_values.proofs.Records.{replies-did, replies-stall}
use Rattle.upc_values.proofs.Walks.{entries_of-append, entries-own}
use Rattle.stack_code.specs.layer.Codes.{Codes}
use Rattle.stack_machine.specs.declared.wish.Wish.TheVariants.{Act}
use Rattle.memory_history.specs.layer.Turns.{takes_turn}
use Rattle.replica_space.specs.declared.event.Event.{Event}
use Rattle.replica_space.specs.Events.{did, history_in}
use Rattle.replica_space.specs.Runs.{IsReplicaRun}
use Rattle.replica_space.specs.ReplicaSound.{AreJustifiedAlone, IsReplicaStrand, delivered_by, own_entries}
use Rattle.replica_space_acts.specs.layer.Acts.{Acted, IsAnswer}
use Rattle.upc_task.specs.declared.recorder.Recorder.{Recorder}
use Rattle.upc_task.specs.layer.Sources.{Outcomes}
use Rattle.upc_task.specs.layer.Recorded.{IsRecorded, Stalls, end_or, outcome_of, strand_of}
use Rattle.upc_task.proofs.Options.{some-is}
use Rattle.upc_task.proofs.Recorders.{recorded-asks, recorded-suits, recorded-turns, recorded-room}
use Rattle.upc_task.proofs.Turns.{in-turn, many, notifies-many, waits-many}
use Rattle.replica_space_quiet.specs.layer.Loud.{loud}
use Rattle.replica_space_tasks.specs.declared.worker.ReplicaWorker.{ReplicaWorker}
use Rattle.replica_space_tasks.specs.layer.Kept.{IsKept, events_of}
use Rattle.replica_space_tasks.specs.code.Dues.{HasActed, HasDelivered, IsInRun}
use Rattle.replica_space_tasks.proofs.Events.{entries-none, entries-others, counted-others, delivers-others, history-append}
use Rattle.replica_space_tasks.proofs.Dues.{acted-is, waits-due}
use Rattle.replica_space_tasks.proofs.Loud.{given-loud, fits-loud, asks-loud}
use Rattle.replica_space_tasks.proofs.Alone.{own-did, own-stall, own-counted, justified-did, justified-stall, justified-grow}

-- ---- a record in a run

pub kept-inside : (o : Opening) (p : Codes) (f : Outcomes) (events : List Event) (k : ReplicaWorker) → IsKept o p f events k
    → IsInRun o f events k.recorder.thread k.recorder.next k.recorder.items.items
kept-inside o p f events k h = record {
  own = h.own;
  number = h.number;
  justified = h.justified;
  known = h.known;
  delivers = h.delivers;
  none = h.none;
}

pub kept-of : (o : Opening) (p : Codes) (f : Outcomes) (events : List Event) (k : ReplicaWorker) → IsRecorded o p f k.recorder
    → IsInRun o f events k.recorder.thread k.recorder.next k.recorder.items.items → IsKept o p f events k
kept-of o p f events k recorded h = record {
  recorded = recorded;
  own = h.own;
  number = h.number;
  justified = h.justified;
  known = h.known;
  delivers = h.delivers;
  none = h.none;
}

-- under other names of its thread, its number and its items
pub inside-moved : (o : Opening) (f : Outcomes) (events : List Event) (t u n m : ℕ) (xs ys : List Item) → u ≡ t → m ≡ n → ys ≡ xs
    → IsInRun o f events t n xs → IsInRun o f events u m ys
inside-moved o f events t u n m xs ys thread number items h =
    subst (λ z. IsInRun o f events z m ys) (sym thread)
    (subst (λ z. IsInRun o f events t z ys) (sym number) (subst (IsInRun o f events t n) (sym items) h))

no-event : (before rest : List Event) (x : Event) → [] ≡ before ++ x ∷ rest → ⊥
no-event [] rest x e = absurd cc
no-event (b ∷ before) rest x e = absurd cc

-- before the first event of the thread
pub inside-new : (o : Opening) (f : Outcomes) (events : List Event) (t : ℕ) → events_of t events ≡ [] → IsInRun o f events t 0 []
inside-new o f events t none = record {
  own = entries-none t events none;
  number = sym (ap length (entries-none t events none));
  justified = tt;
  known = tt;
  delivers = delivers-others o.threads t [] events none (λ before rest i a r e s. absurd (no-event before rest (did t i a r) e));
  none = counted-others t [] events none;
}

-- with events of others
pub inside-others : (o : Opening) (f : Outcomes) (events more : List Event) (t n : ℕ) (xs : List Item) → events_of t more ≡ []
    → IsInRun o f events t n xs → IsInRun o f (events ++ more) t n xs
inside-others o f events more t n xs none h =
    let then = wanted (f t (replies_of xs)).«end» in let history = sym (history-append events more) in
    record {
      own = entries-others t events more none ∙ h.own;
      number = h.number ∙ sym (ap length (entries-others t events more none));
      justified = subst (λ l. AreJustifiedAlone o t l then [] xs) history
          (justified-grow o t (history_in events) (history_in more) then xs h.justified);
      known = subst (λ l. AreKnown o l (replies_of xs)) history
          (known-grow o (history_in events) (history_in more) (replies_of xs) h.known);
      delivers = delivers-others o.threads t events more none h.delivers;
      none = counted-others t events more none ∙ h.none;
    }

-- with an action of its own
pub inside-did : (o : Opening) (f : Outcomes) (events new : List Event) (t n : ℕ) (xs ys : List Item) (a : Action) (r : Reply)
    → IsInRun o f events t n xs → HasActed o.threads t n a r events new → wanted (f t (replies_of xs)).«end» ≡ Some a
    → gives_known o (history_in new) r ≡ true → ys ≡ xs ++ Did a r ∷ [] → IsInRun o f new t (n + 1) ys
inside-did o f events new t n xs ys a r h acted want gives is =
    let past = history_in events in let e : Entry = entry_of t n a r in let now = history_in new in
    let then = wanted (f t (replies_of ys)).«end» in
    let index : n ≡ length (own_entries t xs) = h.number ∙ ap length h.own in
    let mine : entries_of t now ≡ entries_of t past ++ e ∷ [] =
    ap (entries_of t) acted.history ∙ entries_of-append t past (e ∷ [])
    ∙ ap (λ l. entries_of t past ++ l) (entries-own t e refl) in
    let replies : replies_of ys ≡ replies_of xs ++ r ∷ [] = ap replies_of is ∙ replies-did xs a r in
    record {
      own = mine ∙ ap (λ l. l ++ e ∷ []) h.own ∙ ap (λ m. own_entries t xs ++ entry_of t m a r ∷ []) index
          ∙ sym (own-did t xs a r) ∙ ap (own_entries t) (sym is);
      number = ap (λ m. m + 1) h.number ∙ sym (length_push (entries_of t past) e) ∙ sym (ap length mine);
      justified = subst (AreJustifiedAlone o t now then []) (sym is)
          (justified-did o t now then xs a r
          (subst (λ l. AreJustifiedAlone o t l (Some a) [] xs) (sym acted.history)
          (justified-grow o t past (e ∷ []) (Some a) xs (subst (λ z. AreJustifiedAlone o t past z [] xs) want h.justified))));
      known = subst (AreKnown o now) (sym replies)
          (each-push (λ q. gives_known o now q ≡ true) (replies_of xs) r
          (subst (λ l. AreKnown o l (replies_of xs)) (sym acted.history) (known-grow o past (e ∷ []) (replies_of xs) h.known)) gives);
      delivers = acted.delivers h.delivers;
      none = acted.none;
    }

-- at a stall, new or not
pub inside-stalled : (o : Opening) (f : Outcomes) (events : List Event) (t n : ℕ) (xs ys : List Item) (a : Action)
    → IsInRun o f events t n xs → wanted (f t (replies_of xs)).«end» ≡ Some a → reply o (history_in events) t a ≡ None
    → Stalls xs ys → IsInRun o f events t n ys
inside-stalled o f events t n xs ys a h want none (inl s) = subst (IsInRun o f events t n) (sym s.1) h
inside-stalled o f events t n xs ys a h want none (inr s) =
    let past = history_in events in let then = wanted (f t (replies_of xs)).«end» in
    let replies : replies_of ys ≡ replies_of xs = ap replies_of s.1 ∙ replies-stall xs in
    record {
      own = h.own ∙ sym (own-stall t xs) ∙ ap (own_entries t) (sym s.1);
      number = h.number;
      justified = subst (λ rs. AreJustifiedAlone o t past (wanted (f t rs).«end») [] ys) (sym replies)
          (subst (AreJustifiedAlone o t past then []) (sym s.1)
          (justified-stall o t past then xs h.justified
          (record { front = past; rest = []; is = sym (append-nil past); many = ap length h.own; action = a; wants = want; none = none })));
      known = subst (AreKnown o past) (sym replies) h.known;
      delivers = h.delivers;
      none = h.none;
    }

-- ---- workers

-- what a worker keeps holds of each longer list that has no further event of its own
pub kept-seen : (o : Opening) (p : Codes) (f : Outcomes) (events more : List Event) (k : ReplicaWorker)
    → events_of k.recorder.thread more ≡ [] → IsKept o p f events k → IsKept o p f (events ++ more) k
kept-seen o p f events more k none h =
    kept-of o p f (events ++ more) k h.recorded
    (inside-others o f events more k.recorder.thread k.recorder.next k.recorder.items.items none (kept-inside o p f events k h))

-- what a worker wishes to do may be asked for
pub kept-asks : (o : Opening) (p : Codes) (f : Outcomes) (events : List Event) (k : ReplicaWorker) (a : Action) → IsReplicaRun o events
    → AreWellFormed o (history_in events) → IsKept o p f events k → k.recorder.wish ≡ Some (Act a)
    → IsWellFormed o (history_in events) a
kept-asks o p f events k a run formed h w =
    asks-loud o (history_in events) a
    (recorded-asks o p f (loud (history_in events)) k.recorder a
    (given-loud o events (replies_of k.recorder.items.items) run formed h.known) h.recorded w)

-- and keeps its notifies and waits in turn
pub kept-turns : (o : Opening) (p : Codes) (f : Outcomes) (events : List Event) (k : ReplicaWorker) (a : Action) → IsKept o p f events k
    → k.recorder.wish ≡ Some (Act a) → takes_turn (history_in events) k.recorder.thread a ≡ true
kept-turns o p f events k a h w =
    let t = k.recorder.thread in let items = k.recorder.items.items in let es = history_in events in
    in-turn t es (actions_of items) a
    (notifies-many t es ∙ ap (many is_notify) h.own ∙ own-counted is_notify t items)
    (waits-many t es ∙ ap (many is_wait) h.own ∙ own-counted is_wait t items)
    (recorded-turns o p f k.recorder a h.recorded w)

-- a reply that fits it suits what the source wants
kept-suits : (o : Opening) (p : Codes) (f : Outcomes) (events new : List Event) (k : ReplicaWorker) (a : Action) (r : Reply) (x : Entry)
    → IsReplicaRun o new → AreWellFormed o (history_in new) → IsKept o p f events k → k.recorder.wish ≡ Some (Act a)
    → history_in new ≡ history_in events ++ x ∷ [] → fits_after o (history_in new) a r ≡ true
    → Suits (f k.recorder.thread) (replies_of k.recorder.items.items) r
kept-suits o p f events new k a r x run formed h w is fit =
    let rs = replies_of k.recorder.items.items in
    let known : AreKnown o (history_in new) rs =
    subst (λ l. AreKnown o l rs) (sym is) (known-grow o (history_in events) (x ∷ []) rs h.known) in
    recorded-suits o p f (loud (history_in new)) k.recorder a r (given-loud o new rs run formed known)
    (fits-loud o (history_in new) a r ∙ fit) h.recorded w

-- what it wants
kept-wants : (o : Opening) (p : Codes) (f : Outcomes) (events : List Event) (k : ReplicaWorker) (a : Action) → IsKept o p f events k
    → k.recorder.wish ≡ Some (Act a)
    → wanted (f k.recorder.thread (replies_of k.recorder.items.items)).«end» ≡ Some a
kept-wants o p f events k a h w = ap wanted (sym (h.recorded.goes.wished (Act a) w).1)

-- a worker with this recorder
abbrev pub with : Recorder (Unit {0}) → ReplicaWorker
with k = record { recorder = k }

-- what is kept where thread, number and items stay
pub kept-moved : (o : Opening) (p : Codes) (f : Outcomes) (events : List Event) (k m : Recorder (Unit {0})) → m.thread ≡ k.thread
    → m.next ≡ k.next → m.items.items ≡ k.items.items → IsRecorded o p f m → IsKept o p f events (with k) → IsKept o p f events (with m)
kept-moved o p f events k m thread next items recorded h =
    kept-of o p f events (with m) recorded
    (inside-moved o f events k.thread m.thread k.next m.next k.items.items m.items.items thread next items
    (kept-inside o p f events (with k) h))

-- and where there is room for an item
pub kept-room : (o : Opening) (p : Codes) (f : Outcomes) (events : List Event) (k m : Recorder (Unit {0})) → m ≡ record k { items = m.items }
    → m.items.items ≡ k.items.items → IsKept o p f events (with k) → IsKept o p f events (with m)
kept-room o p f events k m is items h =
    kept-moved o p f events k m (ap (λ z. z.thread) is) (ap (λ z. z.next) is) items
    (subst (IsRecorded o p f) (sym is) (recorded-room o p f k m.items items h.recorded)) h

-- once an action was done
pub step-did : (o : Opening) (p : Codes) (f : Outcomes) (events mid new : List Event) (k m : Recorder (Unit {0})) (t n : ℕ) (a : Action) (r : Reply)
    → IsKept o p f events (with k) → k.wish ≡ Some (Act a) → t ≡ k.thread → n ≡ k.next
    → HasDelivered o.threads t n a events mid → Acted o t n a mid (Some r) new → IsAnswer o t a new (Some r)
    → IsReplicaRun o new → AreWellFormed o (history_in new)
    → m ≡ record k { items = m.items; next = k.next + 1; answer = Some r; wish = None }
    → m.items.items ≡ k.items.items ++ Did a r ∷ []
    → (Suits (f k.thread) (replies_of k.items.items) r → IsRecorded o p f m) → IsKept o p f new (with m)
step-did o p f events mid new k m t n a r h w thread number due acts answer run formed is items recorded =
    let acted : HasActed o.threads t n a r events new =
    acted-is o t n a r events mid new (ap (λ z. delivered_by z events) thread ∙ h.none) due acts in
    let inside : IsInRun o f events t n k.items.items =
    inside-moved o f events k.thread t k.next n k.items.items k.items.items thread number refl (kept-inside o p f events (with k) h) in
    let want = subst (λ z. wanted (f z (replies_of k.items.items)).«end» ≡ Some a) (sym thread) (kept-wants o p f events (with k) a h w) in
    kept-of o p f new (with m)
    (recorded (kept-suits o p f events new (with k) a r (entry_of t n a r) run formed h w acted.history answer.0))
    (inside-moved o f new t m.thread (n + 1) m.next m.items.items m.items.items (ap (λ z. z.thread) is ∙ sym thread)
    (ap (λ z. z.next) is ∙ ap (λ z. z + 1) (sym number)) refl
    (inside-did o f events new t n k.items.items m.items.items a r inside acted want answer.1 items))

-- where it was not legal
pub step-stalled : (o : Opening) (p : Codes) (f : Outcomes) (events mid new : List Event) (k m : Recorder (Unit {0})) (t n : ℕ) (a : Action)
    → IsKept o p f events (with k) → k.wish ≡ Some (Act a) → t ≡ k.thread → HasDelivered o.threads t n a events mid
    → Acted o t n a mid None new → may_wait a ≡ true → m ≡ record k { items = m.items } → Stalls k.items.items m.items.items
    → IsRecorded o p f m → IsKept o p f new (with m)
step-stalled o p f events mid new k m t n a h w thread due acts waits is stalls recorded =
    let same : new ≡ events = acts.1 ∙ waits-due o.threads t n a events mid waits due in
    let none : reply o (history_in events) k.thread a ≡ None =
    subst (λ z. reply o (history_in events) z a ≡ None) thread
    (subst (λ l. reply o (history_in l) t a ≡ None) (waits-due o.threads t n a events mid waits due) acts.0) in
    subst (λ l. IsKept o p f l (with m)) (sym same)
    (kept-of o p f events (with m) recorded
    (inside-moved o f events k.thread m.thread k.next m.next m.items.items m.items.items (ap (λ z. z.thread) is) (ap (λ z. z.next) is) refl
    (inside-stalled o f events k.thread k.next k.items.items m.items.items a (kept-inside o p f events (with k) h)
    (kept-wants o p f events (with k) a h w) none stalls)))

-- the strand of a worker that has its end
strand-at : (o : Opening) (p : Codes) (f : Outcomes) (events : List Event) (k : ReplicaWorker) (e : End) → IsKept o p f events k
    → k.recorder.«end» ≡ Some e
    → IsReplicaStrand o k.recorder.thread k.recorder.limits.actions (history_in events) (f k.recorder.thread) (strand_of f k.recorder)
strand-at o p f events k e h q =
    let ends : end_or k.recorder.«end» ≡ e = ap end_or q in
    record {
      conforms = record { actions = h.recorded.did; stalls = h.recorded.stalls; ticks = refl };
      own = h.own;
      justified = h.justified;
      short = h.recorded.short;
      «end» = subst (OwnEnd k.recorder.limits.actions (outcome_of f k.recorder).«end» k.recorder.items.items) (sym ends)
          (h.recorded.ended e q).own;
    }

pub kept-strand : (o : Opening) (p : Codes) (f : Outcomes) (events : List Event) (k : ReplicaWorker) → IsKept o p f events k
    → is_some k.recorder.«end» ≡ true
    → IsReplicaStrand o k.recorder.thread k.recorder.limits.actions (history_in events) (f k.recorder.thread) (strand_of f k.recorder)
kept-strand o p f events k h q = let z = some-is k.recorder.«end» q in strand-at o p f events k z.0 h z.1
