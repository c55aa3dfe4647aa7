-- What is true of a run after an action.
use Rattle.std.proofs.Common.{◌≡◌, ℕ, ◌+◌, ◌<◌, ◌^◌, zero, suc, nat_le, Bool, true, false, cond, List, [], ◌∷◌, ◌++◌, length, Option, Some, None, is_some, refl, sym, ap, ◌∙◌, subst, append-nil}
use Rattle.std.proofs.lemmas.Bool.{false≢true}
use Rattle.std.proofs.lemmas.List.{length_push}
use Rattle.block_layout.specs.declared.place.Loc.{Loc}
use Rattle.upc_values.specs.declared.scalar.Scalar.{Scalar}
use Rattle.upc_values.specs.declared.action.Action.{Action}
use Rattle.upc_values.specs.declared.action.Action.TheVariants as act
use Rattle.upc_values.specs.declared.action.Reply.{Reply}
use Rattle.upc_values.specs.declared.journal.Entry.{Entry}
use Rattle.upc_values.specs.Drain.{entry_of, entries_of}
use Rattle.upc_values.specs.Openings.{Opening}
use Rattle.upc_values.specs.History.{notifies, waits, reply}
use Rattle.upc_values.specs.Formed.{IsWellFormed, AreWellFormed, fits_after}
use Rattle.upc_values.specs.layer.Known.{gives_known}
use Rattle.upc_values.proofs.Legality.{formed-push, unlawful-waits}
use Rattle.upc_values.proofs.Replies.{fits-grow}
use Rattle.memory_history.specs.layer.Turns.{takes_turn}
use Rattle.replica_space.specs.declared.message.Stamp.{Stamp}
use Rattle.replica_space.specs.declared.message.Message.{Message}
use Rattle.replica_space.specs.declared.event.Event.{Event}
use Rattle.replica_space.specs.Events.{did, history_in}
use Rattle.replica_space.specs.Spaces.{Space, is_synchronising, met, next_stamp, sent, spread, acted, space_after}
use Rattle.replica_space.specs.Runs.{IsReplicaRun, replica_reply, next_index}
use Rattle.replica_space_quiet.specs.layer.Loud.{is_access, loud}
use Rattle.replica_space_quiet.proofs.Kept.{loud-after-other}
use Rattle.replica_space_quiet.proofs.Quiet.{formed-loud, replies-loud, gives-loud, fits-loud, notifies-loud, waits-loud}
use Rattle.replica_space_copies.specs.layer.Copies.{CopiesState, threads_of, space_of, written}
use Rattle.replica_space_copies.specs.layer.Same.{IsSame}
use Rattle.replica_space_copies.proofs.Sames.{same-then, sent-same, spread-same}
use Rattle.replica_space_mail.specs.layer.Deliveries.{Follows, IsReady, deliveries, deliveries_to, all_deliveries, with_due}
use Rattle.replica_space_mail.proofs.Following.{run-push, space-push}
use Rattle.replica_space_acts.specs.code.Sound.{AreReplicas}
use Rattle.replica_space_acts.specs.code.Asks.{MayAct, HasActed}
use Rattle.replica_space_acts.proofs.Keeping.{history-append}

-- ---- deliveries are no actions

deliveries-silent : (t to from : ℕ) (ms : List Message) → history_in (deliveries t to from ms) ≡ []
deliveries-silent t to from [] = refl
deliveries-silent t to from (m ∷ ms) = deliveries-silent t to from ms

to-silent : (t to n : ℕ) (s : Space) → history_in (deliveries_to t to n s) ≡ []
to-silent t to zero s = refl
to-silent t to (suc n) s =
    history-append (deliveries_to t to n s) (deliveries t to n (s.mail to n))
    ∙ ap (λ l. l ++ history_in (deliveries t to n (s.mail to n))) (to-silent t to n s) ∙ deliveries-silent t to n (s.mail to n)

all-silent : (t k n : ℕ) (s : Space) → history_in (all_deliveries t k n s) ≡ []
all-silent t k zero s = refl
all-silent t k (suc n) s =
    history-append (all_deliveries t k n s) (deliveries_to t n k s)
    ∙ ap (λ l. l ++ history_in (deliveries_to t n k s)) (all-silent t k n s) ∙ to-silent t n k s

due-silent : (meets : Bool) (t n : ℕ) (es : List Event) → history_in (with_due meets t n es) ≡ history_in es
due-silent true t n es =
    let all = all_deliveries t n n (space_after n es) in
    history-append es all ∙ ap (λ l. history_in es ++ l) (all-silent t n n (space_after n es)) ∙ append-nil (history_in es)
due-silent false t n es = refl

-- ---- a thread that is ready

pub ready-now : (o : Opening) (c d : CopiesState) (meets : Bool) (t : ℕ) (es roomy ready : List Event) → roomy ≡ es → Follows o c es
    → ((p : Opening) → Follows p c roomy → IsReady p meets t roomy d ready) → IsReady o meets t es d ready
ready-now o c d meets t es roomy ready e f h =
    subst (λ l. IsReady o meets t l d ready) e (h o (subst (Follows o c) (sym e) f))

pub ready-history : (o : Opening) (meets : Bool) (t : ℕ) (es : List Event) (d : CopiesState) (ready : List Event) → IsReady o meets t es d ready
    → history_in ready ≡ history_in es
ready-history o meets t es d ready w = ap history_in w.events ∙ due-silent meets t o.threads es

-- the history after the action
pub acted-history : (o : Opening) (meets : Bool) (t i : ℕ) (a : Action) (r : Reply) (es : List Event) (d : CopiesState) (ready new : List Event) → IsReady o meets t es d ready
    → new ≡ ready ++ did t i a r ∷ [] → history_in new ≡ history_in es ++ entry_of t i a r ∷ []
acted-history o meets t i a r es d ready new w e =
    ap history_in e ∙ history-append ready (did t i a r ∷ []) ∙ ap (λ l. l ++ entry_of t i a r ∷ []) (ready-history o meets t es d ready w)

-- ---- the run goes on

pub kept-act : (w v : Opening × List Entry) (c d e : CopiesState) (es ready new : List Event) (count more t i : ℕ) (a : Action) (r : Reply)
    → AreReplicas w c es count → IsReady w.0 (is_synchronising a) t es d ready → MayAct w.0 t i a es → replica_reply w.0 ready t a ≡ Some r
    → v.0 ≡ w.0 → v.1 ≡ loud (history_in es ++ entry_of t i a r ∷ [])
    → threads_of e ≡ threads_of d → IsSame (threads_of d) (space_of e) (acted w.0.threads t i a (space_after w.0.threads ready))
    → new ≡ ready ++ did t i a r ∷ [] → more ≡ length ready + 1 → more < 2 ^ 62 → AreReplicas v e new more
kept-act w v c d e es ready new count more t i a r k y m lawful same_o world many same is counted short =
    let o : Opening = w.0 in
    let history = acted-history o (is_synchronising a) t i a r es d ready new y is in
    let index : i ≡ next_index t ready = m.index ∙ ap (λ h. length (entries_of t h)) (sym (ready-history o (is_synchronising a) t es d ready y)) in
    subst (λ (p : Opening). AreReplicas (p, v.1) e new more) (sym same_o)
    (record {
      opening = k.opening;
      follows = record {
        many = many ∙ y.many;
        run = subst (IsReplicaRun o) (sym is) (run-push o [] ready (did t i a r) y.run m.below (index, lawful, y.none));
        shows = subst (λ l. IsSame o.threads (space_of e) (space_after o.threads l)) (sym is)
            (subst (IsSame o.threads (space_of e)) (sym (space-push o.threads ready (did t i a r)))
            (subst (λ n. IsSame n (space_of e) (acted o.threads t i a (space_after o.threads ready))) y.many same));
      };
      formed = subst (AreWellFormed o) (sym history) (formed-push o (history_in es) t i a r k.formed m.asked);
      world = world ∙ ap loud (sym history);
      counted = counted ∙ sym (length_push ready (did t i a r)) ∙ sym (ap length is);
      short = short;
    })

-- ---- what the world is asked

pub asks-world : (w : Opening × List Entry) (es : List Event) (a : Action) → w.1 ≡ loud (history_in es) → IsWellFormed w.0 (history_in es) a
    → IsWellFormed w.0 w.1 a
asks-world w es a e f = subst (λ l. IsWellFormed w.0 l a) (sym e) (formed-loud w.0 (history_in es) a ∙ f)

pub turn-loud : (h : List Entry) (t : ℕ) (a : Action) → takes_turn (loud h) t a ≡ takes_turn h t a
turn-loud h t (act.Notify m) = ap (λ n. nat_le n (waits t (loud h))) (notifies-loud t h) ∙ ap (nat_le (notifies t h)) (waits-loud t h)
turn-loud h t a = refl

pub turns-world : (w : Opening × List Entry) (es : List Event) (t : ℕ) (a : Action) → w.1 ≡ loud (history_in es) → takes_turn (history_in es) t a ≡ true
    → takes_turn w.1 t a ≡ true
turns-world w es t a e f = ap (λ l. takes_turn l t a) e ∙ turn-loud (history_in es) t a ∙ f

pub world-replies : (w : Opening × List Entry) (es : List Event) (t : ℕ) (a : Action) → is_access a ≡ false → w.1 ≡ loud (history_in es)
    → reply w.0 w.1 t a ≡ reply w.0 (history_in es) t a
world-replies w es t a n e = ap (λ l. reply w.0 l t a) e ∙ replies-loud w.0 (history_in es) t a n

-- what is no read and no write has the reply of the history
pub loud-reply : (o : Opening) (es : List Event) (t : ℕ) (a : Action) → is_access a ≡ false → replica_reply o es t a ≡ reply o (history_in es) t a
loud-reply o es t (act.Read l s) n = absurd (false≢true (sym n))
loud-reply o es t a n = refl

-- ---- what the threads have

cond-copy : (b : Bool) (s r : Space) (t : ℕ) (l : Loc) → s.copy t l ≡ r.copy t l → (cond b s r).copy t l ≡ r.copy t l
cond-copy true s r t l e = e
cond-copy false s r t l e = refl

-- the copy of a thread that is ready
pub ready-copy : (o : Opening) (meets : Bool) (t : ℕ) (es : List Event) (d : CopiesState) (ready : List Event) (u : ℕ) (l : Loc) → IsReady o meets t es d ready → u < o.threads
    → (space_of d).copy u l ≡ (space_after o.threads ready).copy u l
ready-copy o meets t es d ready u l w lt =
    w.shows.copy u l lt ∙ cond-copy meets (met o.threads (space_after o.threads ready)) (space_after o.threads ready) u l refl

-- an action other than a write changes nothing but that the clocks meet
pub quiet-space : (o : Opening) (t i : ℕ) (a : Action) (es : List Event) (d : CopiesState) (ready : List Event) → ((s : Bool) (l : Loc) (v : Scalar) → a ≡ act.Write s l v → ⊥)
    → IsReady o (is_synchronising a) t es d ready → IsSame (threads_of d) (space_of d) (acted o.threads t i a (space_after o.threads ready))
quiet-space o t i a es d ready n w =
    let s = space_after o.threads ready in
    subst (λ k. IsSame k (space_of d) (acted o.threads t i a s)) (sym w.many)
    (subst (IsSame o.threads (space_of d)) (met-alone a n) w.shows)
  where
    met-alone : (a : Action) → ((s : Bool) (l : Loc) (v : Scalar) → a ≡ act.Write s l v → ⊥)
        → cond (is_synchronising a) (met o.threads (space_after o.threads ready)) (space_after o.threads ready) ≡ acted o.threads t i a (space_after o.threads ready)
    met-alone (act.Write s l v) n = absurd (n s l v refl)
    met-alone a n = refl

-- a stamp by its parts
abbrev stamped : ℕ → ℕ → Stamp
stamped k t = record { clock = k; thread = t }

-- a relaxed write
pub sent-space : (o : Opening) (t i : ℕ) (l : Loc) (v : Scalar) (es : List Event) (c d : CopiesState) → Follows o c es → t < o.threads
    → IsSame (threads_of c) (space_of d) (sent (written i l v (next_stamp t (space_of c))) (space_of c))
    → IsSame (threads_of c) (space_of d) (acted o.threads t i (act.Write false l v) (space_after o.threads es))
sent-space o t i l v es c d f lt same =
    let s = space_after o.threads es in
    let n = threads_of c in
    let here : IsSame n (space_of c) s = subst (λ k. IsSame k (space_of c) s) (sym f.many) f.shows in
    let stamp : next_stamp t (space_of c) ≡ next_stamp t s = ap (λ k. stamped (k + 1) t) (f.shows.clock t lt) in
    same-then n (space_of d) (sent (written i l v (next_stamp t (space_of c))) (space_of c)) (sent (written i l v (next_stamp t s)) s) same
    (subst (λ k. IsSame n (sent (written i l v (next_stamp t (space_of c))) (space_of c)) (sent (written i l v k) s)) stamp
    (sent-same n (written i l v (next_stamp t (space_of c))) (space_of c) s here))

-- a strict write
pub spread-space : (o : Opening) (t i : ℕ) (l : Loc) (v : Scalar) (es : List Event) (c d : CopiesState) (ready : List Event) → IsReady o true t es c ready → t < o.threads
    → IsSame (threads_of c) (space_of d) (spread (written i l v (next_stamp t (space_of c))) (space_of c))
    → IsSame (threads_of c) (space_of d) (acted o.threads t i (act.Write true l v) (space_after o.threads ready))
spread-space o t i l v es c d ready w lt same =
    let s = met o.threads (space_after o.threads ready) in
    let n = threads_of c in
    let here : IsSame n (space_of c) s = subst (λ k. IsSame k (space_of c) s) (sym w.many) w.shows in
    let stamp : next_stamp t (space_of c) ≡ next_stamp t s = ap (λ k. stamped (k + 1) t) (w.shows.clock t lt) in
    same-then n (space_of d) (spread (written i l v (next_stamp t (space_of c))) (space_of c)) (spread (written i l v (next_stamp t s)) s) same
    (subst (λ k. IsSame n (spread (written i l v (next_stamp t (space_of c))) (space_of c)) (spread (written i l v k) s)) stamp
    (spread-same n (written i l v (next_stamp t (space_of c))) (space_of c) s here))

-- ---- what has come of it

pub acted-says : (o : Opening) (t i : ℕ) (a : Action) (r : Reply) (es : List Event) (d : CopiesState) (ready new : List Event) → IsReady o (is_synchronising a) t es d ready
    → IsWellFormed o (history_in es) a → replica_reply o ready t a ≡ Some r → new ≡ ready ++ did t i a r ∷ []
    → fits_after o (history_in es) a r ≡ true → gives_known o (history_in es ++ entry_of t i a r ∷ []) r ≡ true → HasActed o t i a es (Some r) new
acted-says o t i a r es d ready new y asked lawful is fits known =
    let history = acted-history o (is_synchronising a) t i a r es d ready new y is in
    record {
      acted = (
        subst (λ l. replica_reply o l t a ≡ Some r) y.events lawful,
        is ∙ ap (λ l. l ++ did t i a r ∷ []) y.events,
      );
      answered = (
        subst (λ h. fits_after o h a r ≡ true) (sym history) (fits-grow o (history_in es) (entry_of t i a r ∷ []) a r asked fits),
        subst (λ h. gives_known o h r ≡ true) (sym history) known,
      );
    }

-- an action that is no read and no write
pub perform-done : (w v : Opening × List Entry) (c d : CopiesState) (es ready new : List Event) (count more t i : ℕ) (a : Action) (r : Reply)
    → AreReplicas w c es count → IsReady w.0 (is_synchronising a) t es d ready → MayAct w.0 t i a es → is_access a ≡ false
    → reply w.0 w.1 t a ≡ Some r → fits_after w.0 w.1 a r ≡ true → gives_known v.0 v.1 r ≡ true → v.0 ≡ w.0 → v.1 ≡ w.1 ++ entry_of t i a r ∷ []
    → new ≡ ready ++ did t i a r ∷ [] → more ≡ length ready + 1 → more < 2 ^ 62 → AreReplicas v d new more × HasActed w.0 t i a es (Some r) new
perform-done w v c d es ready new count more t i a r k y m n replied fit known same_o world is counted short =
    let o : Opening = w.0 in
    let h = history_in es in
    let e : Entry = entry_of t i a r in
    let lawful : replica_reply o ready t a ≡ Some r =
    loud-reply o ready t a n ∙ ap (λ l. reply o l t a) (ready-history o (is_synchronising a) t es d ready y) ∙ sym (world-replies w es t a n k.world) ∙ replied in
    let after : v.1 ≡ loud (h ++ e ∷ []) = world ∙ ap (λ l. l ++ e ∷ []) k.world ∙ sym (loud-after-other h e n) in
    let still : gives_known o (h ++ e ∷ []) r ≡ true =
    sym (gives-loud o (h ++ e ∷ []) r) ∙ ap (λ l. gives_known o l r) (sym after) ∙ ap (λ p. gives_known p v.1 r) (sym same_o) ∙ known in
    let fits : fits_after o h a r ≡ true = sym (fits-loud o h a r) ∙ ap (λ l. fits_after o l a r) (sym k.world) ∙ fit in (
      kept-act w v c d d es ready new count more t i a r k y m lawful same_o after refl
          (quiet-space o t i a es d ready (λ s l v e. false≢true (sym n ∙ ap is_access e)) y) is counted short,
      acted-says o t i a r es d ready new y m.asked lawful is fits still,
    )

-- a lock or a wait that has no reply now
pub nothing-done : (w : Opening × List Entry) (c : CopiesState) (es : List Event) (count t i : ℕ) (a : Action) → AreReplicas w c es count → MayAct w.0 t i a es
    → is_access a ≡ false → false ≡ is_some (reply w.0 w.1 t a) → HasActed w.0 t i a es None es
nothing-done w c es count t i a k m n e =
    let none : reply w.0 (history_in es) t a ≡ None =
    sym (world-replies w es t a n k.world) ∙ not-some (reply w.0 w.1 t a) e in
    record { acted = (none, refl); answered = (unlawful-waits w.0 (history_in es) t a m.asked none, none) }
  where
    not-some : (r : Option Reply) → false ≡ is_some r → r ≡ None
    not-some (Some r) h = absurd (false≢true h)
    not-some None h = refl
