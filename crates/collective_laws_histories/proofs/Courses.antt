-- One thread's part of a collective call in the history.
use Rattle.std.proofs.Common.{◌≡◌, ℕ, ◌<◌, ◌≤◌, ◌==◌, Bool, true, false, List, [], ◌∷◌, ◌++◌, filter, Some, refl, sym}
use Rattle.std.proofs.Common.{ap, ◌∙◌, subst, inl, inr, append_assoc, append-nil, arith, eq-eqb}
use Rattle.std.specs.List.{count_by}
use Rattle.std.proofs.lemmas.Bool.{cond-true, false≢true}
use Rattle.std.proofs.lemmas.List.Elements.{filter-append}
use Rattle.block_layout.specs.declared.place.Loc.{Loc}
use Rattle.block_layout.specs.declared.kind.Shape.{Shape}
use Rattle.upc_values.specs.declared.scalar.Scalar.{Scalar}
use Rattle.upc_values.specs.declared.scalar.Mark.TheVariants.{Absent}
use Rattle.upc_values.specs.declared.action.Action.{Action}
use Rattle.upc_values.specs.declared.action.Action.TheVariants as act
use Rattle.upc_values.specs.declared.action.Reply.TheVariants.{Value}
use Rattle.upc_values.specs.declared.record.Item.{Item}
use Rattle.upc_values.specs.declared.record.Item.TheVariants.{Did, Stall}
use Rattle.upc_values.specs.declared.journal.Entry.{Entry}
use Rattle.upc_values.specs.Lists.{Each, Has}
use Rattle.upc_values.specs.Records.{actions_of}
use Rattle.upc_values.specs.Calls.{Call, call_of}
use Rattle.upc_values.specs.Drain.{entries_in, Walk, start, stepped, walked_from, drain, entries_of, entry_of, written}
use Rattle.upc_values.specs.History.{is_meet, is_notify, is_wait}
use Rattle.upc_values.specs.Expansions.{work}
use Rattle.upc_values.specs.Together.{is_synchronised_call, HasLeft}
use Rattle.upc_values.proofs.Membership.{each-from, each-has, each-append, has-left}
use Rattle.collective_laws_words.specs.layer.Steps.{Step, steps_in, GoesTogether, Performs}
use Rattle.collective_laws_words.specs.layer.Interface.{Wrote, ReadSo, PassesTests}
use Rattle.thread_steps.specs.layer.Fronts.{IsInTurn}
use Rattle.collective_laws_histories.proofs.Lists.{Holds_of, head_or, count-append, count-filter, count-none}
use Rattle.collective_laws_histories.proofs.Lists.{filter-length, found-within}
use Rattle.collective_laws_histories.proofs.Writing.{Writes, entries-append, some-is, written-is}
use Rattle.collective_laws_histories.proofs.Walking.{is_relaxed, waiting, out, Free, Fits, covers-walked}
use Rattle.collective_laws_histories.proofs.Syncing.{is_sync, walked-append, steps-append, actions-append, Settled}
use Rattle.collective_laws_histories.proofs.Syncing.{IsOf, sync-settled, sync-walked, items-split, count-steps, many}
use Rattle.collective_laws_histories.proofs.Syncing.{counts-walked}
use Rattle.collective_laws_histories.proofs.Locating.{more-out, Located, locate}
use Rattle.collective_laws_histories.proofs.Going.{waits_in, Called, called}
use Rattle.collective_laws_histories.proofs.Turning.{in-turn}

-- An entry of the work: a relaxed read or write, what it writes being one of these steps.
abbrev pub OfBody : List Step → Entry → Type 0
OfBody dids e =
    (is_relaxed e.action ≡ true) × ((l : Loc) (v : Scalar) → written l e.action ≡ Some v → Wrote l v dids)

-- A thread's part of a collective call in the history, after n notifies and as many waits: the Meet, the barrier at the
-- entry, the work, and the barrier at the exit.
pub record Course (threads : ℕ) (shapes : List Shape) (history : List Entry) (t n c : ℕ) (args : List Scalar) :
    Type 0 where
  pub front : List Entry
  pub meet : Entry
  pub first : Entry
  pub second : Entry
  pub body : List Entry
  pub third : Entry
  pub fourth : Entry
  pub rest : List Entry
  pub is : entries_of t history ≡ front ++ meet ∷ first ∷ second ∷ (body ++ third ∷ fourth ∷ rest)
  pub notified : many is_notify front ≡ n
  pub waited : many is_wait front ≡ n
  pub meets : meet.action ≡ act.Meet c args
  pub notifies : first.action ≡ act.Notify Absent
  pub waits : second.action ≡ act.Wait Absent
  pub notifies_again : third.action ≡ act.Notify Absent
  pub waits_again : fourth.action ≡ act.Wait Absent
  pub passed : PassesTests threads shapes t (call_of c args)
  pub dids : List Step
  pub performs : Performs (work threads shapes t (call_of c args)) dids tt
  pub each : Each (OfBody dids) body
  pub wrote : (l : Loc) (v : Scalar) → Wrote l v dids → Holds_of (Writes l) body
  pub read : (l : Loc) (v : Scalar) → ReadSo l v dids → ((u : Scalar) → Wrote l u dids → ⊥)
      → (e : Entry) × Has body e × (e.action ≡ act.Read l false) × (e.reply ≡ Value v)

-- ---- entries of a thread

pub entries-at : (t : ℕ) (xs ys : List Entry) (e : Entry) → e.thread ≡ t
    → entries_of t (xs ++ e ∷ ys) ≡ entries_of t xs ++ e ∷ entries_of t ys
entries-at t xs ys e h =
    filter-append (λ x. x.thread == t) xs (e ∷ ys)
    ∙ ap (λ z. entries_of t xs ++ z)
    (cond-true (e.thread == t) (e ∷ entries_of t ys) (entries_of t ys) (eq-eqb e.thread t h))

pub meet-sync : (a : Action) → is_meet a ≡ true → is_sync a ≡ true
meet-sync (act.Meet c args) h = refl
meet-sync a h = absurd (false≢true h)

pub notify-sync : (a : Action) → is_notify a ≡ true → is_sync a ≡ true
notify-sync (act.Notify m) h = refl
notify-sync a h = absurd (false≢true h)

pub wait-sync : (a : Action) → is_wait a ≡ true → is_sync a ≡ true
wait-sync (act.Wait m) h = refl
wait-sync a h = absurd (false≢true h)

-- ---- steps of the work

has-wrote : (did : List Step) (s : Step) (l : Loc) (v : Scalar) → Has did s → s.action ≡ act.Write false l v
    → Wrote l v did
has-wrote [] s l v h e = absurd h
has-wrote (x ∷ did) s l v (inl q) e = inl (ap (λ z. z.action) q ∙ e)
has-wrote (x ∷ did) s l v (inr m) e = inr (has-wrote did s l v m e)

not-strict : (s : Bool) (l : Loc) (v : Scalar) (a : Action) → a ≡ act.Write s l v → is_relaxed a ≡ true
    → a ≡ act.Write false l v
not-strict false l v a e h = e
not-strict true l v a e h = absurd (false≢true (sym (ap is_relaxed e) ∙ h))

of-body : (dids : List Step) (t : ℕ) (s : Step) → Has dids s → is_relaxed s.action ≡ true → Fits (OfBody dids) t s
of-body dids t s h k = (
  k,
  λ n. (
    k,
    λ l v w.
        let r = written-is l s.action v w in
        has-wrote dids s l v h (not-strict r.0 l v s.action r.1 k),
  ),
)

all-fit : (dids : List Step) (t : ℕ) → Each (λ s. is_relaxed s.action ≡ true) dids
    → Each (Fits (OfBody dids) t) dids
all-fit dids t h =
    each-from (Fits (OfBody dids) t) dids
    (λ s m. of-body dids t s m (each-has (λ x. is_relaxed x.action ≡ true) dids h s m))

body-free : (dids : List Step) (l : Loc) → ((u : Scalar) → Wrote l u dids → ⊥) → Free (OfBody dids) l
body-free dids l f e p w = let r = some-is (written l e.action) w in f r.0 (p.1 l r.0 r.1)

-- ---- walks

sync-on : (t : ℕ) (w : Walk) (es : List Entry) (items : List Item) (s : Step) → is_sync s.action ≡ true
    → steps_in items ≡ s ∷ [] → Settled es w
    → (e : Entry) × IsOf s e × Settled (es ++ e ∷ []) (walked_from t w items)
sync-on t w es items s h q z =
    let r = sync-walked t w items s h q in
    let same : out w ++ waiting w ≡ es = ap (λ k. out w ++ entries_in k) z.none ∙ append-nil (out w) ∙ z.is in
    (r.0, r.1, subst (λ k. Settled (k ++ r.0 ∷ []) (walked_from t w items)) same r.2)

actions-first : (xs : List Item) (s : Step) (more : List Step) → steps_in xs ≡ s ∷ more
    → (ys : List Action) × (actions_of xs ≡ s.action ∷ ys)
actions-first [] s more e = absurd (not_nil e)
  where
    not_nil : [] ≡ s ∷ more → ⊥
    not_nil q = cc
actions-first (Stall ∷ xs) s more e = actions-first xs s more e
actions-first (Did a r ∷ xs) s more e =
    let x : Step = record { action = a; reply = r } in
    let is : x ≡ s = ap (head_or x) e in
    (actions_of xs, ap (λ z. z.action ∷ actions_of xs) is)

module _ (g : Action → Bool) (syncs : (a : Action) → g a ≡ true → is_sync a ≡ true) where
  -- The actions of such a kind in what a thread has emitted before it empties its buffer.
  counted-front : (t : ℕ) (items : List Item)
      → many g (out (walked_from t start items) ++ waiting (walked_from t start items))
      ≡ count_by g (actions_of items)
  counted-front t items =
      let w = walked_from t start items in
      let c = counts-walked g syncs t start items tt in
      let none = count-none (λ e. g e.action) (waiting w) c.waiting in
      let all = count-append (λ e. g e.action) (out w) (waiting w) in
      let same = count-steps g items in
      let n = c.is in
      omega arith

  -- The same of what is emitted from a walk on that has nothing waiting.
  counted-rest : (t : ℕ) (u : Walk) (items : List Item) (more : List Entry) → u.pending ≡ []
      → out (walked_from t u items) ≡ out u ++ more
      → many g (more ++ waiting (walked_from t u items)) ≡ count_by (λ s. g s.action) (steps_in items)
  counted-rest t u items more h e =
      let v = walked_from t u items in
      let c = counts-walked g syncs t u items (subst (λ k. Each (λ x. g x.action ≡ false) (entries_in k)) (sym h) tt) in
      let none = count-none (λ x. g x.action) (waiting v) c.waiting in
      let all = count-append (λ x. g x.action) more (waiting v) in
      let n = c.is in
      let m = ap (many g) e ∙ count-append (λ x. g x.action) (out u) more in
      omega arith

-- ---- after the Meet

-- What a thread emits after the Meet of a call.
record After (threads : ℕ) (shapes : List Shape) (t : ℕ) (call : Call) (u : Walk) (es : List Entry)
    (back : List Item) : Type 0 where
  first : Entry
  second : Entry
  body : List Entry
  third : Entry
  fourth : Entry
  rest : List Entry
  is : out (walked_from t u back) ++ waiting (walked_from t u back)
      ≡ es ++ first ∷ second ∷ (body ++ third ∷ fourth ∷ rest)
  notifies : first.action ≡ act.Notify Absent
  waits : second.action ≡ act.Wait Absent
  notifies_again : third.action ≡ act.Notify Absent
  waits_again : fourth.action ≡ act.Wait Absent
  dids : List Step
  performs : Performs (work threads shapes t call) dids tt
  each : Each (OfBody dids) body
  wrote : (l : Loc) (v : Scalar) → Wrote l v dids → Holds_of (Writes l) body
  read : (l : Loc) (v : Scalar) → ReadSo l v dids → ((u : Scalar) → Wrote l u dids → ⊥)
      → (e : Entry) × Has body e × (e.action ≡ act.Read l false) × (e.reply ≡ Value v)

regroup : (a m w r v : List Entry) (x y z k : Entry)
    → ((((((a ++ x ∷ []) ++ y ∷ []) ++ m) ++ w) ++ z ∷ []) ++ k ∷ []) ++ (r ++ v)
    ≡ a ++ x ∷ y ∷ ((m ++ w) ++ z ∷ k ∷ (r ++ v))
regroup a m w r v x y z k = simp append_assoc

walk-split : (t : ℕ) (u : Walk) (items front back : List Item) → items ≡ front ++ back
    → walked_from t u items ≡ walked_from t (walked_from t u front) back
walk-split t u items front back e = ap (walked_from t u) e ∙ walked-append t u front back

after : (threads : ℕ) (shapes : List Shape) (t : ℕ) (call : Call) (u : Walk) (es : List Entry) (back : List Item)
    → Settled es u → Called threads shapes t call (steps_in back) → After threads shapes t call u es back
after threads shapes t call u es back h cd =
    let P = OfBody cd.dids in
    let s1 = items-split back (cd.first ∷ []) (cd.second ∷ (cd.dids ++ cd.third ∷ cd.fourth ∷ cd.rest)) cd.is in
    let s2 = items-split s1.1 (cd.second ∷ []) (cd.dids ++ cd.third ∷ cd.fourth ∷ cd.rest) s1.4 in
    let s3 = items-split s2.1 cd.dids (cd.third ∷ cd.fourth ∷ cd.rest) s2.4 in
    let s4 = items-split s3.1 (cd.third ∷ []) (cd.fourth ∷ cd.rest) s3.4 in
    let s5 = items-split s4.1 (cd.fourth ∷ []) cd.rest s4.4 in
    let x1 = sync-on t u es s1.0 cd.first (ap is_sync cd.notifies) s1.3 h in
    let u1 = walked_from t u s1.0 in
    let x2 = sync-on t u1 (es ++ x1.0 ∷ []) s2.0 cd.second (ap is_sync cd.waits) s2.3 x1.2 in
    let u2 = walked_from t u1 s2.0 in
    let x3 = covers-walked P t u2 s3.0 (subst (λ k. Each P (entries_in k)) (sym x2.2.none) tt)
    (subst (Each (Fits P t)) (sym s3.3) (all-fit cd.dids t cd.relaxed)) in
    let u3 = walked_from t u2 s3.0 in
    let x4 = sync-walked t u3 s4.0 cd.third (ap is_sync cd.notifies_again) s4.3 in
    let u4 = walked_from t u3 s4.0 in
    let x5 = sync-on t u4 ((out u3 ++ waiting u3) ++ x4.0 ∷ []) s5.0 cd.fourth (ap is_sync cd.waits_again) s5.3 x4.2 in
    let u5 = walked_from t u4 s5.0 in
    let x6 = more-out t u5 s5.1 in
    let v = walked_from t u5 s5.1 in
    let walk : walked_from t u back ≡ v =
    walk-split t u back s1.0 s1.1 s1.2 ∙ walk-split t u1 s1.1 s2.0 s2.1 s2.2 ∙ walk-split t u2 s2.1 s3.0 s3.1 s3.2
    ∙ walk-split t u3 s3.1 s4.0 s4.1 s4.2 ∙ walk-split t u4 s4.1 s5.0 s5.1 s5.2 in
    let ends : out u5 ≡ ((((((es ++ x1.0 ∷ []) ++ x2.0 ∷ []) ++ x3.0) ++ waiting u3) ++ x4.0 ∷ []) ++ x5.0 ∷ []) =
    x5.2.is
    ∙ ap (λ z. ((z ++ waiting u3) ++ x4.0 ∷ []) ++ x5.0 ∷ []) (x3.1.goes.is ∙ ap (λ z. z ++ x3.0) x2.2.is) in
    record {
      first = x1.0;
      second = x2.0;
      body = x3.0 ++ waiting u3;
      third = x4.0;
      fourth = x5.0;
      rest = x6.0 ++ waiting v;
      is = ap (λ z. out z ++ waiting z) walk
          ∙ ap (λ z. z ++ waiting v) (x6.1 ∙ ap (λ z. z ++ x6.0) ends)
          ∙ append_assoc ((((((es ++ x1.0 ∷ []) ++ x2.0 ∷ []) ++ x3.0) ++ waiting u3) ++ x4.0 ∷ []) ++ x5.0 ∷ [])
          x6.0 (waiting v)
          ∙ regroup es x3.0 (waiting u3) x6.0 (waiting v) x1.0 x2.0 x4.0 x5.0;
      notifies = x1.1.action ∙ cd.notifies;
      waits = x2.1.action ∙ cd.waits;
      notifies_again = x4.1.action ∙ cd.notifies_again;
      waits_again = x5.1.action ∙ cd.waits_again;
      dids = cd.dids;
      performs = cd.performs;
      each = each-append P x3.0 (waiting u3) x3.1.goes.each x3.1.goes.pending;
      wrote = λ l y m. x3.1.wrote l y (subst (Wrote l y) (sym s3.3) m);
      read = λ l y m f.
          let r = x3.1.read l y (subst (ReadSo l y) (sym s3.3) m) (body-free cd.dids l f) in
          (r.0, has-left x3.0 (waiting u3) r.0 r.1, r.2, r.3);
    }

-- ---- the whole call

module _ (threads : ℕ) (shapes : List Shape) (history : List Entry) (t j n c : ℕ) (args : List Scalar)
    (items : List Item) (drains : entries_of t history ≡ drain t items)
    (left : HasLeft t j n c args history) where
  abbrev front_entries : List Entry
  front_entries = entries_of t left.front

  abbrev rest_entries : List Entry
  rest_entries = entries_of t left.rest

  abbrev all_out : Walk
  all_out = walked_from t start items

  emits : entries_of t history ≡ out all_out ++ waiting all_out
  emits = drains ∙ entries-append all_out.emitted all_out.pending

  parts : entries_of t history ≡ front_entries ++ left.meet ∷ rest_entries
  parts = ap (entries_of t) left.is ∙ entries-at t left.front left.rest left.meet left.thread

  located : Located t start items front_entries rest_entries left.meet
  located =
      locate is_meet meet-sync t start items front_entries rest_entries left.meet (ap is_meet left.asks) tt
      (sym emits ∙ parts) (omega arith)

  module _ (loc : Located t start items front_entries rest_entries left.meet) where
    abbrev before_meet : Walk
    before_meet = walked_from t start loc.front

    abbrev at_meet : Walk
    at_meet = stepped t before_meet (Did left.meet.action left.meet.reply)

    met : Settled (front_entries ++ left.meet ∷ []) at_meet
    met =
        let e = entry_of t before_meet.next left.meet.action left.meet.reply in
        subst (λ k. Settled k at_meet)
        (ap (λ z. z ++ e ∷ []) loc.emitted ∙ ap (λ z. front_entries ++ z ∷ []) (sym loc.entry))
        (sync-settled t before_meet left.meet.action left.meet.reply (ap is_sync left.asks))

    on_from : all_out ≡ walked_from t at_meet loc.back
    on_from =
        ap (walked_from t start) loc.is
        ∙ walked-append t start loc.front (Did left.meet.action left.meet.reply ∷ loc.back)

    many_waits : 1 < waits_in (steps_in loc.back)
    many_waits =
        let counted = counted-rest is_wait wait-sync t at_meet loc.back loc.more met.none
        (sym (ap out on_from) ∙ loc.goes) in
        let same : rest_entries ≡ loc.more ++ waiting (walked_from t at_meet loc.back) =
        loc.rest ∙ ap (λ k. loc.more ++ waiting k) on_from in
        let found = found-within (filter (λ e. is_wait e.action) rest_entries) 1 left.exit left.waits in
        let size = filter-length (λ e. is_wait e.action) rest_entries in
        let all = ap (many is_wait) same in
        omega arith

    steps_are : steps_in items
        ≡ steps_in loc.front ++ record { action = left.meet.action; reply = left.meet.reply } ∷ steps_in loc.back
    steps_are =
        ap steps_in loc.is ∙ steps-append loc.front (Did left.meet.action left.meet.reply ∷ loc.back)

    goes_so : GoesTogether threads shapes t (steps_in items) → 5 ≤ c → c ≤ 12
        → is_synchronised_call (call_of c args) ≡ true
        → Called threads shapes t (call_of c args) (steps_in loc.back)
    goes_so together low high both =
        let s : Step = record { action = left.meet.action; reply = left.meet.reply } in
        called threads shapes t c args s (steps_in loc.back) both many_waits
        (together (steps_in loc.front) (steps_in loc.back) s c args steps_are left.asks low high)

    many_notified : many is_notify front_entries ≡ n
    many_notified =
        sym (count-filter (λ e. e.thread == t) (λ e. is_notify e.action) left.front) ∙ left.notified

    many_waited : IsInTurn (actions_of items) → Called threads shapes t (call_of c args) (steps_in loc.back)
        → many is_wait front_entries ≡ n
    many_waited turns cd =
        let next = actions-first loc.back cd.first (cd.second ∷ (cd.dids ++ cd.third ∷ cd.fourth ∷ cd.rest)) cd.is in
        let actions : actions_of items
        ≡ actions_of loc.front ++ act.Meet c args ∷ act.Notify Absent ∷ next.0 =
        ap actions_of loc.is ∙ actions-append loc.front (Did left.meet.action left.meet.reply ∷ loc.back)
        ∙ ap (λ z. actions_of loc.front ++ left.meet.action ∷ z) (next.1 ∙ ap (λ z. z ∷ next.0) cd.notifies)
        ∙ ap (λ z. actions_of loc.front ++ z ∷ act.Notify Absent ∷ next.0) left.asks in
        let same = in-turn (actions_of loc.front) next.0 c args Absent (subst IsInTurn actions turns) in
        let a = counted-front is_notify notify-sync t loc.front in
        let b = counted-front is_wait wait-sync t loc.front in
        ap (many is_wait) (sym loc.emitted) ∙ b ∙ sym same ∙ sym a ∙ ap (many is_notify) loc.emitted ∙ many_notified

    regroup_front : (a r : List Entry) (x y z : Entry) → (a ++ x ∷ []) ++ y ∷ z ∷ r ≡ a ++ x ∷ y ∷ z ∷ r
    regroup_front a r x y z = append_assoc a (x ∷ []) (y ∷ z ∷ r)

    course_from : IsInTurn (actions_of items) → Called threads shapes t (call_of c args) (steps_in loc.back)
        → Course threads shapes history t n c args
    course_from turns cd =
        let a = after threads shapes t (call_of c args) at_meet (front_entries ++ left.meet ∷ []) loc.back met cd in
        record {
          front = front_entries;
          meet = left.meet;
          first = a.first;
          second = a.second;
          body = a.body;
          third = a.third;
          fourth = a.fourth;
          rest = a.rest;
          is = emits ∙ ap (λ z. out z ++ waiting z) on_from ∙ a.is
              ∙ regroup_front front_entries (a.body ++ a.third ∷ a.fourth ∷ a.rest) left.meet a.first a.second;
          notified = many_notified;
          waited = many_waited turns cd;
          meets = left.asks;
          notifies = a.notifies;
          waits = a.waits;
          notifies_again = a.notifies_again;
          waits_again = a.waits_again;
          passed = cd.passed;
          dids = a.dids;
          performs = a.performs;
          each = a.each;
          wrote = a.wrote;
          read = a.read;
        }

  -- A thread that leaves a call has gone its course.
  pub course : GoesTogether threads shapes t (steps_in items) → IsInTurn (actions_of items) → 5 ≤ c → c ≤ 12
      → is_synchronised_call (call_of c args) ≡ true → Course threads shapes history t n c args
  course together turns low high both =
      course_from located turns (goes_so located together low high both)
