-- What a worker keeps: at an action, at a stall, at its end, and while others append.
use Rattle.std.proofs.Common.{◌≡◌, ◌≢◌, ℕ, ◌+◌, true, List, [], ◌∷◌, ◌++◌, length, Option, Some, None, is_some, refl, sym, ap, subst, ◌∙◌, append-nil, arith, inl, inr}
use Rattle.std.proofs.lemmas.Bool.{false≢true}
use Rattle.upc_values.specs.declared.action.Action.{Action}
use Rattle.upc_values.specs.declared.action.Reply.{Reply}
use Rattle.upc_values.specs.declared.record.Item.{Item}
use Rattle.upc_values.specs.declared.record.Item.TheVariants.{Did, Stall}
use Rattle.upc_values.specs.declared.record.End.{End}
use Rattle.upc_values.specs.declared.journal.Entry.{Entry}
use Rattle.upc_values.specs.Drain.{entries_in, Walk, emptied, walked, gone, entry_of, entries_of}
use Rattle.upc_values.specs.Openings.{Opening}
use Rattle.upc_values.specs.History.{IsLegal}
use Rattle.upc_values.specs.Formed.{IsWellFormed, AreWellFormed}
use Rattle.upc_values.specs.layer.Chunks.{Roomy}
use Rattle.upc_values.specs.layer.Known.{gives_known, AreKnown, HasGiven}
use Rattle.upc_values.specs.Outcomes.{Suits, wanted}
use Rattle.upc_values.specs.Records.{replies_of, last_item, is_stall}
use Rattle.upc_values.specs.Strands.{AreJustified}
use Rattle.upc_values.proofs.Known.{known-grow}
use Rattle.upc_values.proofs.Lists.{each-push}
use Rattle.upc_values.proofs.Walks.{walked-push, paused-empty, stall-pauses, emptied-same, entries-other}
use Rattle.upc_values.proofs.Records.{replies-did, replies-stall, justified-did, justified-stall, justified-grow}
use Rattle.stack_code.specs.layer.Codes.{Codes}
use Rattle.stack_machine.specs.layer.Machine.{Seen}
use Rattle.stack_machine.specs.declared.wish.Wish.{Wish}
use Rattle.stack_machine.specs.declared.wish.Wish.TheVariants.{Act}
use Rattle.write_buffer.specs.declared.pending.Pending.{Pending}
use Rattle.write_buffer.specs.layer.Buffer.{committed}
use Rattle.upc_task.specs.layer.Sources.{Outcomes}
use Rattle.upc_task.specs.layer.Recorded.{outcome_of, IsRecorded, CanEnd, Stalls}
use Rattle.upc_task.specs.layer.Kept.{Worker, Holds, settled, IsKept, Grew}
use Rattle.upc_task.specs.code.Emits.{Emitted, IsAnswer}
use Rattle.upc_task.proofs.Lists.{map-nil}
use Rattle.upc_task.proofs.Buffers.{holds-unemptied, holds-grow}
use Rattle.upc_task.proofs.Recorders.{recorded-asks, recorded-suits, recorded-room, recorded-ended, can-pauses}

-- the history may have given the replies of the record
kept-given : (o : Opening) (p : Codes) (f : Outcomes) (seen : List Entry) (k : Worker) → IsLegal o seen → AreWellFormed o seen → IsKept o p f seen k
    → HasGiven o seen (replies_of k.items.items)
kept-given o p f seen k legal formed h = record { legal = legal; formed = formed; known = h.known }

-- what a task wishes to do may be asked for
pub kept-asks : (o : Opening) (p : Codes) (f : Outcomes) (seen : List Entry) (k : Worker) (a : Action) → IsLegal o seen → AreWellFormed o seen
    → IsKept o p f seen k → k.wish ≡ Some (Act a) → IsWellFormed o seen a
kept-asks o p f seen k a legal formed h w =
    recorded-asks o p f seen k a (kept-given o p f seen k legal formed h) h.recorded w

-- replies that were known stay known
replies-grew : (o : Opening) (t : ℕ) (seen later : List Entry) (rs : List Reply) → Grew t seen later → AreKnown o seen rs → AreKnown o later rs
replies-grew o t seen later rs g h = subst (λ l. AreKnown o l rs) (sym g.is) (known-grow o seen g.more rs h)

-- a reply that fits the wished action suits what the source wants
pub kept-suits : (o : Opening) (p : Codes) (f : Outcomes) (seen later : List Entry) (k : Worker) (a : Action) (r : Reply)
    → IsLegal o later → AreWellFormed o later → IsKept o p f seen k → k.wish ≡ Some (Act a) → Grew k.thread seen later
    → IsAnswer o k.thread later a (Some r) → Suits (f k.thread) (replies_of k.items.items) r
kept-suits o p f seen later k a r legal formed h w g answer =
    let rs = replies_of k.items.items in
    recorded-suits o p f later k a r
    (record { legal = legal; formed = formed; known = replies-grew o k.thread seen later rs g h.known })
    answer.0 h.recorded w

-- a stall is justified by what was seen when it was made
justified-grew : (o : Opening) (t : ℕ) (seen later : List Entry) (want : Option Action) (xs : List Item) → Grew t seen later
    → AreJustified o t seen want [] xs → AreJustified o t later want [] xs
justified-grew o t seen later want xs g h =
    subst (λ l. AreJustified o t l want [] xs) (sym g.is) (justified-grow o t seen g.more want [] xs h)

-- what a worker without an end holds
pub kept-holds : (o : Opening) (p : Codes) (f : Outcomes) (seen : List Entry) (k : Worker) → IsKept o p f seen k → k.«end» ≡ None
    → Holds o k.thread seen k.buffer k.next (walked k.thread k.items.items)
kept-holds o p f seen k h opened =
    subst (λ e. Holds o k.thread seen k.buffer k.next (settled e (walked k.thread k.items.items))) opened h.holds

-- an action
pub kept-did : (o : Opening) (p : Codes) (f : Outcomes) (seen later : List Entry) (k : Worker) (xs : Roomy Item) (ps : List Pending) (a : Action) (r : Reply)
    → IsKept o p f seen k → k.«end» ≡ None → k.wish ≡ Some (Act a) → Grew k.thread seen later
    → ((w : Walk) → Holds o k.thread seen k.buffer k.next w → Emitted o k.thread later ps k.next a (Some r) w)
    → IsAnswer o k.thread later a (Some r) → xs.items ≡ k.items.items ++ Did a r ∷ []
    → IsRecorded o p f record k { items = xs; buffer = ps; next = k.next + 1; answer = Some r; wish = None }
    → IsKept o p f later record k { items = xs; buffer = ps; next = k.next + 1; answer = Some r; wish = None }
kept-did o p f seen later k xs ps a r h opened wants g em answer is recorded =
    let t = k.thread in let items = k.items.items in let w = walked t items in
    let hw : Holds o t seen k.buffer k.next w = kept-holds o p f seen k h opened in
    let want : wanted (outcome_of f k).«end» ≡ Some a = ap wanted (sym (h.recorded.goes.wished (Act a) wants).1) in
    let next : walked t xs.items ≡ gone (entry_of t k.next a r) a w =
    ap (walked t) is ∙ walked-push t items (Did a r) ∙ ap (λ z. gone (entry_of t z a r) a w) (sym hw.number) in
    let replies : replies_of xs.items ≡ replies_of items ++ r ∷ [] = ap replies_of is ∙ replies-did items a r in
    let then = wanted (f t (replies_of xs.items)).«end» in
    record {
      recorded = recorded;
      holds = subst (λ e. Holds o t later ps (k.next + 1) (settled e (walked t xs.items))) (sym opened)
          (subst (Holds o t later ps (k.next + 1)) (sym next) (em w hw));
      justified = subst (AreJustified o t later then []) (sym is)
          (justified-did o t later then [] items a r
          (justified-grew o t seen later (Some a) items g (subst (λ z. AreJustified o t seen z [] items) want h.justified)));
      known = subst (AreKnown o later) (sym replies)
          (each-push (λ q. gives_known o later q ≡ true) (replies_of items) r (replies-grew o t seen later (replies_of items) g h.known) answer.1);
      empty = λ q. absurd (false≢true (sym (ap is_some opened) ∙ q));
    }

-- a new stall
kept-stall : (o : Opening) (p : Codes) (f : Outcomes) (seen later : List Entry) (k : Worker) (xs : Roomy Item) (ps : List Pending) (a : Action)
    → IsKept o p f seen k → k.«end» ≡ None → k.wish ≡ Some (Act a) → Grew k.thread seen later
    → ((w : Walk) → Holds o k.thread seen k.buffer k.next w → Emitted o k.thread later ps k.next a None w)
    → IsAnswer o k.thread later a None → xs.items ≡ k.items.items ++ Stall ∷ []
    → IsRecorded o p f record k { items = xs; buffer = ps } → IsKept o p f later record k { items = xs; buffer = ps }
kept-stall o p f seen later k xs ps a h opened wants g em none is recorded =
    let t = k.thread in let items = k.items.items in let w = walked t items in
    let hw : Holds o t seen k.buffer k.next w = kept-holds o p f seen k h opened in
    let ht : Holds o t later ps k.next (emptied w) = em w hw in
    let replies : replies_of xs.items ≡ replies_of items = ap replies_of is ∙ replies-stall items in
    let want : wanted (outcome_of f k).«end» ≡ Some a = ap wanted (sym (h.recorded.goes.wished (Act a) wants).1) in
    let then = wanted (outcome_of f k).«end» in
    record {
      recorded = recorded;
      holds = subst (λ e. Holds o t later ps k.next (settled e (walked t xs.items))) (sym opened)
          (subst (Holds o t later ps k.next) (sym (ap (walked t) is ∙ walked-push t items Stall)) ht);
      justified = subst (λ rs. AreJustified o t later (wanted (f t rs).«end») [] xs.items) (sym replies)
          (subst (AreJustified o t later then []) (sym is)
          (justified-stall o t later then [] items (justified-grew o t seen later then items g h.justified)
          (record { front = later; rest = []; is = sym (append-nil later); many = ap length ht.out; action = a; wants = want; none = none.1 })));
      known = subst (AreKnown o later) (sym replies) (replies-grew o t seen later (replies_of items) g h.known);
      empty = λ q. absurd (false≢true (sym (ap is_some opened) ∙ q));
    }

-- no stall after a stall
kept-stay : (o : Opening) (p : Codes) (f : Outcomes) (seen later : List Entry) (k : Worker) (xs : Roomy Item) (ps : List Pending) (a : Action)
    → IsKept o p f seen k → k.«end» ≡ None → Grew k.thread seen later
    → ((w : Walk) → Holds o k.thread seen k.buffer k.next w → Emitted o k.thread later ps k.next a None w)
    → is_stall (last_item k.items.items) ≡ true → xs.items ≡ k.items.items
    → IsRecorded o p f record k { items = xs; buffer = ps } → IsKept o p f later record k { items = xs; buffer = ps }
kept-stay o p f seen later k xs ps a h opened g em stalls is recorded =
    let t = k.thread in let items = k.items.items in let w = walked t items in
    let hw : Holds o t seen k.buffer k.next w = kept-holds o p f seen k h opened in
    let ht : Holds o t later ps k.next w =
    holds-unemptied o t k.next later ps w (paused-empty t items (stall-pauses (last_item items) stalls)) (em w hw) in
    record {
      recorded = recorded;
      holds = subst (λ e. Holds o t later ps k.next (settled e (walked t xs.items))) (sym opened)
          (subst (λ ys. Holds o t later ps k.next (walked t ys)) (sym is) ht);
      justified = subst (λ ys. AreJustified o t later (wanted (f t (replies_of ys)).«end») [] ys) (sym is)
          (justified-grew o t seen later (wanted (outcome_of f k).«end») items g h.justified);
      known = subst (λ ys. AreKnown o later (replies_of ys)) (sym is) (replies-grew o t seen later (replies_of items) g h.known);
      empty = λ q. absurd (false≢true (sym (ap is_some opened) ∙ q));
    }

-- a stall, new or not
pub kept-stalled : (o : Opening) (p : Codes) (f : Outcomes) (seen later : List Entry) (k : Worker) (xs : Roomy Item) (ps : List Pending) (a : Action)
    → IsKept o p f seen k → k.«end» ≡ None → k.wish ≡ Some (Act a) → Grew k.thread seen later
    → ((w : Walk) → Holds o k.thread seen k.buffer k.next w → Emitted o k.thread later ps k.next a None w)
    → IsAnswer o k.thread later a None → Stalls k.items.items xs.items
    → IsRecorded o p f record k { items = xs; buffer = ps } → IsKept o p f later record k { items = xs; buffer = ps }
kept-stalled o p f seen later k xs ps a h opened wants g em none (inl s) recorded =
    kept-stay o p f seen later k xs ps a h opened g em s.0 s.1 recorded
kept-stalled o p f seen later k xs ps a h opened wants g em none (inr s) recorded =
    kept-stall o p f seen later k xs ps a h opened wants g em none s.1 recorded

-- an end of its own
pub kept-closed : (o : Opening) (p : Codes) (f : Outcomes) (seen later : List Entry) (k : Worker) (ps : List Pending) (e : End)
    → IsKept o p f seen k → k.«end» ≡ None → Grew k.thread seen later
    → ((z : Walk) → Holds o k.thread seen k.buffer k.next z → Holds o k.thread later ps k.next (emptied z)) → ps ≡ []
    → IsRecorded o p f record k { buffer = ps; «end» = Some e } → IsKept o p f later record k { buffer = ps; «end» = Some e }
kept-closed o p f seen later k ps e h opened g em empty recorded =
    let t = k.thread in let items = k.items.items in
    record {
      recorded = recorded;
      holds = em (walked t items) (kept-holds o p f seen k h opened);
      justified = justified-grew o t seen later (wanted (outcome_of f k).«end») items g h.justified;
      known = replies-grew o t seen later (replies_of items) g h.known;
      empty = λ q. empty;
    }

-- an end that is given
pub kept-ended : (o : Opening) (p : Codes) (f : Outcomes) (seen : List Entry) (k : Worker) (e : End) → IsKept o p f seen k → k.«end» ≡ None → CanEnd k e
    → IsKept o p f seen record k { «end» = Some e }
kept-ended o p f seen k e h opened can =
    let t = k.thread in let items = k.items.items in let w = walked t items in
    let hw : Holds o t seen k.buffer k.next w = kept-holds o p f seen k h opened in
    let none = paused-empty t items (can-pauses k e can) in
    record {
      recorded = recorded-ended o p f k e h.recorded can;
      holds = subst (Holds o t seen k.buffer k.next) (sym (emptied-same w none)) hw;
      justified = h.justified;
      known = h.known;
      empty = λ q. map-nil (committed t) k.buffer (hw.inside ∙ ap entries_in none);
    }

-- a worker's facts hold of each longer list that has no further entry of its own
pub kept-seen : (o : Opening) (p : Codes) (f : Outcomes) (seen more : List Entry) (k : Worker) → entries_of k.thread more ≡ []
    → IsKept o p f seen k → IsKept o p f (seen ++ more) k
kept-seen o p f seen more k none h = record {
  recorded = h.recorded;
  holds = holds-grow o k.thread k.next seen more k.buffer (settled k.«end» (walked k.thread k.items.items)) none h.holds;
  justified = justified-grow o k.thread seen more (wanted (outcome_of f k).«end») [] k.items.items h.justified;
  known = known-grow o seen more (replies_of k.items.items) h.known;
  empty = h.empty;
}

-- what others append changes nothing
pub kept-grow : (o : Opening) (p : Codes) (f : Outcomes) (t : ℕ) (seen later : List Entry) (k : Worker) → IsKept o p f seen k → (k.thread ≢ t)
    → Grew t seen later → IsKept o p f later k
kept-grow o p f t seen later k h ne g =
    subst (λ l. IsKept o p f l k) (sym g.is) (kept-seen o p f seen g.more k (entries-other t k.thread g.more ne g.all_own) h)

-- a new worker, of whose thread nothing was seen
pub kept-new : (o : Opening) (p : Codes) (f : Outcomes) (seen : List Entry) (k : Worker) → k.items.items ≡ [] → k.buffer ≡ [] → k.next ≡ 0
    → k.«end» ≡ None → entries_of k.thread seen ≡ [] → IsRecorded o p f k → IsKept o p f seen k
kept-new o p f seen k items buffer next none seen_none recorded = record {
  recorded = recorded;
  holds = subst (λ e. Holds o k.thread seen k.buffer k.next (settled e (walked k.thread k.items.items))) (sym none)
      (subst (λ xs. Holds o k.thread seen k.buffer k.next (walked k.thread xs)) (sym items)
      (subst (λ ps. Holds o k.thread seen ps k.next (walked k.thread [])) (sym buffer)
      (record { out = seen_none; inside = refl; room = omega arith; number = next; agrees = refl; formed = tt })));
  justified = subst (λ xs. AreJustified o k.thread seen (wanted (f k.thread (replies_of xs)).«end») [] xs) (sym items) tt;
  known = subst (λ xs. AreKnown o seen (replies_of xs)) (sym items) tt;
  empty = λ q. buffer;
}

-- the machine has taken the answer, and said its wish
pub kept-worked : (o : Opening) (p : Codes) (f : Outcomes) (seen : List Entry) (k : Worker) (m : Seen) (an : Option Reply) (w : Option Wish)
    → IsKept o p f seen k → IsRecorded o p f record k { machine = m; answer = an; wish = w }
    → IsKept o p f seen record k { machine = m; answer = an; wish = w }
kept-worked o p f seen k m an w h recorded =
    record { recorded = recorded; holds = h.holds; justified = h.justified; known = h.known; empty = h.empty }

-- room for more items changes nothing
pub kept-room : (o : Opening) (p : Codes) (f : Outcomes) (seen : List Entry) (k m : Worker) → m ≡ record k { items = m.items }
    → m.items.items ≡ k.items.items → IsKept o p f seen k → IsKept o p f seen m
kept-room o p f seen k m is items h =
    let with : List Item → Worker = λ xs. record k { items = record m.items { items = xs } } in
    let same : IsKept o p f seen (with k.items.items) = record {
      recorded = recorded-room o p f k (record m.items { items = k.items.items }) refl h.recorded;
      holds = h.holds;
      justified = h.justified;
      known = h.known;
      empty = h.empty;
    } in
    subst (IsKept o p f seen) (sym is) (subst (λ xs. IsKept o p f seen (with xs)) (sym items) same)
