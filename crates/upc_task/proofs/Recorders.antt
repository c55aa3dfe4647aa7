-- What is kept of a recorder: at an action, at a stall, at its end.
use Rattle.std.proofs.Common.{◌≡◌, ℕ, ◌+◌, ◌*◌, ◌<◌, ◌≤◌, ◌^◌, Bool, true, false, List, [], ◌∷◌, ◌++◌, length, Option, Some, None, refl, sym, ap, subst, ◌∙◌, append-nil, arith, inl, inr}
use Rattle.std.specs.Prelude.{IfSome}
use Rattle.std.proofs.lemmas.Bool.{false≢true, cond-true, cond-false}
use Rattle.std.proofs.lemmas.List.{length-append}
use Rattle.std.proofs.Math.Nat.{mul-le-mul_left}
use Rattle.upc_values.specs.declared.action.Action.{Action}
use Rattle.upc_values.specs.declared.action.Action.TheVariants.{Beat}
use Rattle.upc_values.specs.declared.action.Reply.{Reply}
use Rattle.upc_values.specs.declared.record.Item.{Item}
use Rattle.upc_values.specs.declared.record.Item.TheVariants.{Did, Stall}
use Rattle.upc_values.specs.declared.record.ToldEnd.TheVariants as told
use Rattle.upc_values.specs.declared.record.End.{End}
use Rattle.upc_values.specs.declared.record.End.TheVariants as ends
use Rattle.upc_values.specs.declared.journal.Entry.{Entry}
use Rattle.upc_values.specs.Openings.{Opening}
use Rattle.upc_values.specs.Formed.{IsWellFormed, fits_after}
use Rattle.upc_values.specs.layer.Chunks.{Roomy}
use Rattle.upc_values.specs.layer.Known.{HasGiven}
use Rattle.upc_values.specs.Outcomes.{Outcome, Suits, wanted}
use Rattle.upc_values.specs.Records.{actions_of, replies_of, last_item, is_stall, is_beat_item, beats}
use Rattle.upc_values.specs.Strands.{StallsStand, may_wait, strand_ticks}
use Rattle.upc_values.specs.Ends.{OwnEnd, is_pause}
use Rattle.upc_values.proofs.Walks.{stall-pauses, beat-pauses}
use Rattle.upc_values.proofs.Records.{last-push, actions-did, replies-did, actions-stall, replies-stall, stand-did, stand-stall, beats-push, beat-of, stall-no_beat}
use Rattle.thread_steps.specs.layer.Fronts.{IsInTurn}
use Rattle.stack_code.specs.layer.Codes.{Codes}
use Rattle.stack_machine.specs.layer.Machine.{Seen}
use Rattle.stack_machine.specs.declared.wish.Wish.{Wish}
use Rattle.stack_machine.specs.declared.wish.Wish.TheVariants.{Act, Ended, Exit, Fault, Budget}
use Rattle.stack_machine.specs.layer.Machine.{Answered, HasAsked, HasHeard, listed, told_of}
use Rattle.upc_task.specs.declared.limits.Limits.{Limits}
use Rattle.upc_task.specs.declared.recorder.Recorder.{Recorder}
use Rattle.upc_task.specs.layer.Sources.{Outcomes, IsSource, HasOutcomes, Follows}
use Rattle.upc_task.specs.Ends.{is_given}
use Rattle.upc_task.specs.layer.Recorded.{AreLimits, outcome_of, Goes, IsRecorded, IsPausing, MayFinish, CanEnd, own_end}
use Rattle.upc_task.proofs.Options.{none-some, some-is}

-- what a thread wishes to do may be asked for after a history that may have given its replies
pub recorded-asks : {B : Type 0} (o : Opening) (p : Codes) (f : Outcomes) (es : List Entry) (k : Recorder B) (a : Action)
    → HasGiven o es (replies_of k.items.items) → IsRecorded o p f k → k.wish ≡ Some (Act a) → IsWellFormed o es a
recorded-asks o p f es k a given h w =
    h.source.means.formed (replies_of k.items.items) es a (sym (h.goes.wished (Act a) w).1) given

-- and a reply that fits it suits what the source wants
pub recorded-suits : {B : Type 0} (o : Opening) (p : Codes) (f : Outcomes) (es : List Entry) (k : Recorder B) (a : Action) (r : Reply)
    → HasGiven o es (replies_of k.items.items) → fits_after o es a r ≡ true → IsRecorded o p f k → k.wish ≡ Some (Act a)
    → Suits (f k.thread) (replies_of k.items.items) r
recorded-suits o p f es k a r given fit h w =
    let wanting : (outcome_of f k).«end» ≡ told.Wants a = sym (h.goes.wished (Act a) w).1 in
    (a, wanting, h.source.means.goes (replies_of k.items.items) es a r wanting given fit)

-- and it keeps the thread's notifies and waits in turn
pub recorded-turns : {B : Type 0} (o : Opening) (p : Codes) (f : Outcomes) (k : Recorder B) (a : Action)
    → IsRecorded o p f k → k.wish ≡ Some (Act a) → IsInTurn (actions_of k.items.items ++ a ∷ [])
recorded-turns o p f k a h w =
    subst (λ acts. IsInTurn (acts ++ a ∷ [])) h.did
    (h.source.turns (replies_of k.items.items) a (sym (h.goes.wished (Act a) w).1))

-- the machine has had all replies of the record where it has said its wish
all-given : {B : Type 0} (o : Opening) (p : Codes) (f : Outcomes) (k : Recorder B) (w : Wish) (h : IsRecorded o p f k) → k.wish ≡ Some w
    → h.goes.given ≡ replies_of k.items.items
all-given o p f k w h q =
    sym (append-nil h.goes.given) ∙ ap (λ z. h.goes.given ++ listed z) (sym (h.goes.wished w q).0) ∙ h.goes.replies

-- the machine has asked where it has said its wish
has-asked : (p : Codes) (outcome : List Reply → Outcome) (t b : ℕ) (machine : Seen) (answer : Option Reply) (wish : Option Wish) (items : List Item) (w : Wish)
    → Goes p outcome t b machine answer wish items → wish ≡ Some w → HasAsked machine
has-asked p outcome t b machine answer wish items w g q = elim g.asked [
  | inl z ↦ absurd (none-some wish w z.1 q)
  | inr z ↦ z
]

-- the buffer is no part of it
pub recorded-buffer : {B : Type 0} (o : Opening) (p : Codes) (f : Outcomes) (k : Recorder B) (b : B) → IsRecorded o p f k
    → IsRecorded o p f record k { buffer = b }
recorded-buffer o p f k b h = record {
  source = h.source;
  within = h.within;
  small = h.small;
  few = h.few;
  did = h.did;
  stalls = h.stalls;
  short = h.short;
  goes = h.goes;
  ended = h.ended;
}

-- room for more items changes nothing
pub recorded-room : {B : Type 0} (o : Opening) (p : Codes) (f : Outcomes) (k : Recorder B) (xs : Roomy Item) → xs.items ≡ k.items.items
    → IsRecorded o p f k → IsRecorded o p f record k { items = xs }
recorded-room {B} o p f k xs items h =
    let with : List Item → Recorder B = λ ys. record k { items = record xs { items = ys } } in
    let same : IsRecorded o p f (with k.items.items) = record {
      source = h.source;
      within = h.within;
      small = h.small;
      few = h.few;
      did = h.did;
      stalls = h.stalls;
      short = h.short;
      goes = h.goes;
      ended = h.ended;
    } in
    subst (λ ys. IsRecorded o p f (with ys)) (sym items) same

-- nor what a turn changes before the item
pub recorded-turn : {B : Type 0} (o : Opening) (p : Codes) (f : Outcomes) (k : Recorder B) (xs : Roomy Item) (b : B) → xs.items ≡ k.items.items
    → IsRecorded o p f k → IsRecorded o p f record k { items = xs; buffer = b }
recorded-turn o p f k xs b items h =
    recorded-buffer o p f (record k { items = xs }) b (recorded-room o p f k xs items h)

-- an end that it may come to does not rest on the buffer
pub may-buffer : {B : Type 0} (k : Recorder B) (b : B) (e : End) → MayFinish k e → MayFinish (record k { buffer = b }) e
may-buffer k b e h = (h.0, λ o p f q. h.1 o p f (recorded-buffer o p f (record k { buffer = b }) k.buffer q))

-- an action
pub recorded-did : {B : Type 0} (o : Opening) (p : Codes) (f : Outcomes) (k : Recorder B) (xs : Roomy Item) (a : Action) (r : Reply)
    → IsRecorded o p f k → k.«end» ≡ None → k.wish ≡ Some (Act a) → length k.items.items < k.limits.actions
    → Suits (f k.thread) (replies_of k.items.items) r → xs.items ≡ k.items.items ++ Did a r ∷ []
    → IsRecorded o p f record k { items = xs; next = k.next + 1; answer = Some r; wish = None }
recorded-did o p f k xs a r h opened wants room suits is =
    let t = k.thread in let items = k.items.items in let law = h.source.means in
    let wished = h.goes.wished (Act a) wants in
    let wanting : (outcome_of f k).«end» ≡ told.Wants a = sym wished.1 in
    let want : wanted (outcome_of f k).«end» ≡ Some a = ap wanted wanting in
    let given : h.goes.given ≡ replies_of items = all-given o p f k (Act a) h wants in
    let replies : replies_of xs.items ≡ replies_of items ++ r ∷ [] = ap replies_of is ∙ replies-did items a r in
    let actions : actions_of xs.items ≡ actions_of items ++ a ∷ [] = ap actions_of is ∙ actions-did items a r in
    let last : last_item xs.items ≡ Some (Did a r) = ap last_item is ∙ last-push items (Did a r) in
    let many : length xs.items ≡ length items + 1 = ap length is ∙ length-append items (Did a r ∷ []) in
    let new : Outcome = f t (replies_of xs.items) in
    let named : told.Wants suits.0 ≡ told.Wants a = sym suits.1 ∙ wanting in
    let same : suits.0 ≡ a = cc in
    let one : (f t (replies_of items ++ r ∷ [])).actions ≡ (outcome_of f k).actions ++ a ∷ [] =
    suits.2 ∙ ap (λ b. (outcome_of f k).actions ++ b ∷ []) same in
    record {
      source = h.source;
      within = h.within;
      small = h.small;
      few = (let before = h.few in omega arith);
      did = ap (λ rs. (f t rs).actions) replies ∙ one ∙ ap (λ l. l ++ a ∷ []) h.did ∙ sym actions;
      stalls = subst (StallsStand (wanted new.«end»)) (sym is)
          (stand-did (wanted new.«end») items a r (subst (λ z. StallsStand z items) want h.stalls));
      short = omega arith;
      goes = record {
        given = h.goes.given;
        follows = h.goes.follows;
        answered = (
          a,
          ap (λ rs. (f t rs).«end») given ∙ wanting,
          subst (λ z. (f t (z ++ r ∷ [])).actions ≡ (f t z).actions ++ a ∷ []) (sym given) one,
        );
        replies = ap (λ l. l ++ r ∷ []) given ∙ sym replies;
        wished = λ e q. absurd cc;
        idle = λ q. ap is_stall last;
        beats = λ b q.
            let is_a_beat : a ≡ Beat = beat-of a r (sym (ap is_beat_item last) ∙ b) in
            ap (λ l. (f t l).ticks) given ∙ law.ticks (replies_of items) (wanting ∙ ap told.Wants is_a_beat)
            ∙ ap (λ l. 1024 * (beats l + 1)) h.did ∙ ap (λ z. 1024 * z) (sym (beats-push (actions_of items)))
            ∙ ap (λ l. 1024 * beats l) (ap (λ b. actions_of items ++ b ∷ []) (sym is_a_beat) ∙ sym actions);
        asked = inr (has-asked p (f t) t k.limits.budget k.machine k.answer k.wish items (Act a) h.goes wants);
      };
      ended = λ e q. absurd (none-some k.«end» e opened q);
    }

-- a new stall
pub recorded-stall : {B : Type 0} (o : Opening) (p : Codes) (f : Outcomes) (k : Recorder B) (xs : Roomy Item) (a : Action)
    → IsRecorded o p f k → k.«end» ≡ None → k.wish ≡ Some (Act a) → length k.items.items < k.limits.actions → may_wait a ≡ true
    → is_stall (last_item k.items.items) ≡ false → xs.items ≡ k.items.items ++ Stall ∷ []
    → IsRecorded o p f record k { items = xs }
recorded-stall o p f k xs a h opened wants room waits still is =
    let t = k.thread in let items = k.items.items in
    let replies : replies_of xs.items ≡ replies_of items = ap replies_of is ∙ replies-stall items in
    let actions : actions_of xs.items ≡ actions_of items = ap actions_of is ∙ actions-stall items in
    let same : f t (replies_of xs.items) ≡ outcome_of f k = ap (f t) replies in
    let wished = h.goes.wished (Act a) wants in
    let want : wanted (outcome_of f k).«end» ≡ Some a = ap wanted (sym wished.1) in
    let many : length xs.items ≡ length items + 1 = ap length is ∙ length-append items (Stall ∷ []) in
    let last : last_item xs.items ≡ Some Stall = ap last_item is ∙ last-push items Stall in
    record {
      source = h.source;
      within = h.within;
      small = h.small;
      few = (let before = h.few in omega arith);
      did = ap (λ z. z.actions) same ∙ h.did ∙ sym actions;
      stalls = subst (λ z. StallsStand (wanted z.«end») xs.items) (sym same)
          (subst (StallsStand (wanted (outcome_of f k).«end»)) (sym is)
          (subst (λ z. StallsStand z (items ++ Stall ∷ [])) (sym want)
          (stand-stall items a (subst (λ z. StallsStand z items) want h.stalls) still waits)));
      short = omega arith;
      goes = record {
        given = h.goes.given;
        follows = h.goes.follows;
        answered = h.goes.answered;
        replies = h.goes.replies ∙ sym replies;
        wished = λ e q. let z = h.goes.wished e q in (z.0, z.1 ∙ ap (λ z. z.«end») (sym same));
        idle = λ q. absurd (none-some k.wish (Act a) q wants);
        beats = λ b q. absurd (none-some k.wish (Act a) q wants);
        asked = inr (has-asked p (f t) t k.limits.budget k.machine k.answer k.wish items (Act a) h.goes wants);
      };
      ended = λ e q. absurd (none-some k.«end» e opened q);
    }

own-ticks : (m : ℕ) (items : List Item) (e : End) → is_given e ≡ false → strand_ticks e items m ≡ m
own-ticks m items ends.Halted h = absurd (false≢true (sym h))
own-ticks m items e h = refl

-- an end of its own
pub recorded-finished : {B : Type 0} (o : Opening) (p : Codes) (f : Outcomes) (k : Recorder B) (w : Wish) (e : End)
    → IsRecorded o p f k → k.wish ≡ Some w → OwnEnd k.limits.actions (outcome_of f k).«end» k.items.items e
    → is_given e ≡ false → IsRecorded o p f record k { «end» = Some e }
recorded-finished o p f k w e h wants own own_end =
    let items = k.items.items in
    record {
      source = h.source;
      within = h.within;
      small = h.small;
      few = h.few;
      did = h.did;
      stalls = h.stalls;
      short = h.short;
      goes = h.goes;
      ended = λ e' q.
          let same : e ≡ e' = cc in
          record {
            asked = has-asked p (f k.thread) k.thread k.limits.budget k.machine k.answer k.wish items w h.goes wants;
            own = subst (OwnEnd k.limits.actions (outcome_of f k).«end» items) same own;
            counted = ap (λ l. (f k.thread l).ticks) (all-given o p f k w h wants)
                ∙ sym (own-ticks (outcome_of f k).ticks items e' (subst (λ z. is_given z ≡ false) same own_end));
          };
    }

-- the end that a wish is, is an end of its own
pub own-end_is : (w : Wish) (full : Bool) (e : End) (actions : ℕ) (items : List Item) → own_end w full ≡ Some e
    → (full ≡ true → length items ≡ actions) → OwnEnd actions (told_of w) items e
own-end_is (Act a) true e actions items h l =
    let same : ends.ActionsFull ≡ e = cc in subst (OwnEnd actions (told.Wants a) items) same ((a, refl), l refl)
own-end_is (Act a) false e actions items h l = absurd cc
own-end_is (Ended v) full e actions items h l =
    let same : ends.Ended v ≡ e = cc in subst (OwnEnd actions (told.Ended v) items) same refl
own-end_is (Exit v) full e actions items h l =
    let same : ends.Exit v ≡ e = cc in subst (OwnEnd actions (told.Exit v) items) same refl
own-end_is (Fault c p) full e actions items h l =
    let same : ends.Fault c p ≡ e = cc in subst (OwnEnd actions (told.Fault c p) items) same refl
own-end_is Budget full e actions items h l =
    let same : ends.Budget ≡ e = cc in subst (OwnEnd actions told.OutOfTicks items) same refl

pub own-end_comes : (w : Wish) (full : Bool) (e : End) → own_end w full ≡ Some e → is_given e ≡ false
own-end_comes (Act a) true e h = let same : ends.ActionsFull ≡ e = cc in subst (λ z. is_given z ≡ false) same refl
own-end_comes (Act a) false e h = absurd cc
own-end_comes (Ended v) full e h = let same : ends.Ended v ≡ e = cc in subst (λ z. is_given z ≡ false) same refl
own-end_comes (Exit v) full e h = let same : ends.Exit v ≡ e = cc in subst (λ z. is_given z ≡ false) same refl
own-end_comes (Fault c p) full e h = let same : ends.Fault c p ≡ e = cc in subst (λ z. is_given z ≡ false) same refl
own-end_comes Budget full e h = let same : ends.Budget ≡ e = cc in subst (λ z. is_given z ≡ false) same refl

-- a wish that is no end is an action
pub own-end_none : (w : Wish) (full : Bool) → own_end w full ≡ None → (full ≡ false) × ((a : Action) × (w ≡ Act a))
own-end_none (Act a) false h = (refl, (a, refl))
own-end_none (Act a) true h = absurd cc
own-end_none (Ended v) full h = absurd cc
own-end_none (Exit v) full h = absurd cc
own-end_none (Fault c p) full h = absurd cc
own-end_none Budget full h = absurd cc

-- such an end is one that a recorder may come to
pub own-finish : {B : Type 0} (k : Recorder B) (w : Wish) (full : Bool) (found : Option End) → found ≡ own_end w full
    → k.wish ≡ Some w → (full ≡ true → k.limits.actions ≤ length k.items.items) → IfSome found (λ e. MayFinish k e)
own-finish k w full None q wish l = tt
own-finish k w full (Some e) q wish l = (
  own-end_comes w full e (sym q),
  λ o p f h. subst (λ t. OwnEnd k.limits.actions t k.items.items e) (h.goes.wished w wish).1
      (own-end_is w full e k.limits.actions k.items.items (sym q)
      (λ b. let some = l b in let short = h.short in omega arith)),
)

pausing-is : {B : Type 0} (k : Recorder B) → IsPausing k → is_pause (last_item k.items.items) ≡ true
pausing-is k (inl b) = beat-pauses (last_item k.items.items) b.0
pausing-is k (inr s) = stall-pauses (last_item k.items.items) s.0

pub can-pauses : {B : Type 0} (k : Recorder B) (e : End) → CanEnd k e → is_pause (last_item k.items.items) ≡ true
can-pauses k ends.Halted c = pausing-is k c
can-pauses k (ends.Deadlocked a) c = stall-pauses (last_item k.items.items) c.1
can-pauses k e c = elim c [ ]

-- the machine has asked where its thread stands at a Beat or a Stall
pausing-asked : {B : Type 0} (o : Opening) (p : Codes) (f : Outcomes) (k : Recorder B) → IsRecorded o p f k → IsPausing k → HasAsked k.machine
pausing-asked o p f k h c =
    elim h.goes.asked [
      | inr z ↦ z
      | inl z ↦ absurd (false≢true (sym (ap (λ xs. is_pause (last_item xs)) z.0) ∙ pausing-is k c))
    ]

given-ticks : {B : Type 0} (o : Opening) (p : Codes) (f : Outcomes) (k : Recorder B) (h : IsRecorded o p f k) → IsPausing k
    → (f k.thread h.goes.given).ticks ≡ strand_ticks ends.Halted k.items.items (outcome_of f k).ticks
given-ticks o p f k h (inl b) =
    h.goes.beats b.0 b.1
    ∙ sym (cond-true (is_beat_item (last_item k.items.items)) (1024 * beats (actions_of k.items.items)) (outcome_of f k).ticks b.0)
given-ticks o p f k h (inr s) =
    let w = some-is k.wish s.1 in
    ap (λ l. (f k.thread l).ticks) (all-given o p f k w.0 h w.1)
    ∙ sym (cond-false (is_beat_item (last_item k.items.items)) (1024 * beats (actions_of k.items.items)) (outcome_of f k).ticks
    (stall-no_beat (last_item k.items.items) s.0))

given-end : {B : Type 0} (o : Opening) (p : Codes) (f : Outcomes) (k : Recorder B) (e : End) (h : IsRecorded o p f k) → CanEnd k e
    → HasAsked k.machine × OwnEnd k.limits.actions (outcome_of f k).«end» k.items.items e
    × ((f k.thread h.goes.given).ticks ≡ strand_ticks e k.items.items (outcome_of f k).ticks)
given-end o p f k ends.Halted h c = (pausing-asked o p f k h c, pausing-is k c, given-ticks o p f k h c)
given-end o p f k (ends.Deadlocked a) h c = (
  has-asked p (f k.thread) k.thread k.limits.budget k.machine k.answer k.wish k.items.items (Act a) h.goes c.0,
  (sym (h.goes.wished (Act a) c.0).1, c.1),
  ap (λ l. (f k.thread l).ticks) (all-given o p f k (Act a) h c.0),
)
given-end o p f k e h c = elim c [ ]

-- an end that is given
pub recorded-ended : {B : Type 0} (o : Opening) (p : Codes) (f : Outcomes) (k : Recorder B) (e : End) → IsRecorded o p f k → CanEnd k e
    → IsRecorded o p f record k { «end» = Some e }
recorded-ended o p f k e h can =
    let is = given-end o p f k e h can in
    record {
      source = h.source;
      within = h.within;
      small = h.small;
      few = h.few;
      did = h.did;
      stalls = h.stalls;
      short = h.short;
      goes = h.goes;
      ended = λ e' q.
          let same : e ≡ e' = cc in
          record {
            asked = is.0;
            own = subst (OwnEnd k.limits.actions (outcome_of f k).«end» k.items.items) same is.1;
            counted = is.2 ∙ ap (λ z. strand_ticks z k.items.items (outcome_of f k).ticks) same;
          };
    }

pub few-actions : (l : Limits) → AreLimits l → l.actions < 2 ^ 32
few-actions l h = let all = h.all in omega (arith, mul-le-mul_left l.actions h.some)

-- a new recorder
pub recorded-new : {B : Type 0} (o : Opening) (p : Codes) (f : Outcomes) (k : Recorder B) → k.items.items ≡ [] → k.next ≡ 0 → k.answer ≡ None
    → k.wish ≡ None → k.«end» ≡ None → HasHeard p k.thread k.limits.budget [] k.machine → HasOutcomes o p k.limits f
    → k.thread < k.limits.threads → k.limits.actions < 2 ^ 32 → IsRecorded o p f k
recorded-new o p f k items next answer wish none stands has within small =
    let source : IsSource o k.limits.budget (f k.thread) = has.sources k.thread within in
    let none_many : length k.items.items ≡ 0 = ap length items in
    record {
      source = source;
      within = (let same = has.threads in omega arith);
      small = small;
      few = omega arith;
      did = subst (λ xs. (f k.thread (replies_of xs)).actions ≡ actions_of xs) (sym items) source.means.begins;
      stalls = subst (λ xs. StallsStand (wanted (f k.thread (replies_of xs)).«end») xs) (sym items) tt;
      short = omega arith;
      goes = record {
        given = [];
        follows = record { means = has.means k.thread within; stands = stands };
        answered = subst (Answered (f k.thread) []) (sym answer) tt;
        replies = ap listed answer ∙ ap replies_of (sym items);
        wished = λ w q. absurd (none-some k.wish w wish q);
        idle = λ q. ap (λ xs. is_stall (last_item xs)) items;
        beats = λ b q. absurd (false≢true (sym (ap (λ xs. is_beat_item (last_item xs)) items) ∙ b));
        asked = inl (items, wish);
      };
      ended = λ e q. absurd (none-some k.«end» e none q);
    }

-- the machine has taken the answer, and said its wish
pub recorded-worked : {B : Type 0} (o : Opening) (p : Codes) (f : Outcomes) (k : Recorder B) (m : Seen) (w : Wish)
    → IsRecorded o p f k → k.wish ≡ None → k.«end» ≡ None
    → ((given : List Reply) → Follows p k.thread k.limits.budget (f k.thread) given k.machine → Answered (f k.thread) given k.answer
    → (told_of w ≡ (f k.thread (given ++ listed k.answer)).«end»)
    × Follows p k.thread k.limits.budget (f k.thread) (given ++ listed k.answer) m)
    → HasAsked m
    → IsRecorded o p f record k { machine = m; answer = None; wish = Some w }
recorded-worked o p f k m w h wish opened resumed asked =
    let r = resumed h.goes.given h.goes.follows h.goes.answered in
    let g = h.goes in
    record {
      source = h.source;
      within = h.within;
      small = h.small;
      few = h.few;
      did = h.did;
      stalls = h.stalls;
      short = h.short;
      goes = record {
        given = g.given ++ listed k.answer;
        follows = r.1;
        answered = tt;
        replies = append-nil (g.given ++ listed k.answer) ∙ g.replies;
        wished = λ v q. let same : w ≡ v = cc in
            (refl, ap told_of (sym same) ∙ r.0 ∙ ap (λ l. (f k.thread l).«end») g.replies);
        idle = λ q. absurd cc;
        beats = λ b q. absurd cc;
        asked = inr asked;
      };
      ended = λ e q. absurd (none-some k.«end» e opened q);
    }

-- what is wished is one action
pub act-is : (w : Option Wish) (a b : Action) → w ≡ Some (Act a) → w ≡ Some (Act b) → a ≡ b
act-is w a b h k = let same : Some (Act a) ≡ Some (Act b) = sym h ∙ k in cc
