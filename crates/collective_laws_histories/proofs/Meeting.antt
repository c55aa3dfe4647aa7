-- What all threads do in one collective call, and what the cells hold before and after it.
use Rattle.std.proofs.Common.{◌≡◌, ℕ, ◌+◌, ◌<◌, ◌==◌, nat_lt, Bool, true, false, List, [], ◌∷◌, ◌++◌, Option, Some}
use Rattle.std.proofs.Common.{None, refl, sym, ap, ◌∙◌, subst, inl, inr, append_assoc, eq-eqb}
use Rattle.std.specs.Prelude.{unsigned_abs}
use Rattle.std.proofs.lemmas.Bool.{false≢true, ltb-true, lt-ltb}
use Rattle.block_layout.specs.declared.place.Loc.{Loc}
use Rattle.block_layout.specs.declared.place.SharedPtr.{SharedPtr}
use Rattle.block_layout.specs.Pointers.{location}
use Rattle.upc_values.specs.declared.scalar.Scalar.{Scalar}
use Rattle.upc_values.specs.declared.action.Action.TheVariants as act
use Rattle.upc_values.specs.declared.action.Reply.{Reply}
use Rattle.upc_values.specs.declared.action.Reply.TheVariants.{Value}
use Rattle.upc_values.specs.declared.journal.Entry.{Entry}
use Rattle.upc_values.specs.Lists.{Each, Has}
use Rattle.upc_values.specs.Shapes.{kind_at}
use Rattle.upc_values.specs.Views.{shape_at}
use Rattle.upc_values.specs.Calls.{Call, call_of}
use Rattle.upc_values.specs.Expansions.{work}
use Rattle.upc_values.specs.Drain.{entries_of, written, last_written}
use Rattle.upc_values.specs.Openings.{Opening, IsOpening}
use Rattle.upc_values.specs.History.{held, value_reply, reply, IsLegal, EachBelow}
use Rattle.upc_values.specs.Formed.{IsWellFormed, AreWellFormed}
use Rattle.upc_values.specs.Waits.{WaitsFollow}
use Rattle.upc_values.specs.Together.{IsInto, IsFrom, IsApart, EndsNotified}
use Rattle.upc_values.proofs.Legality.{legal-at}
use Rattle.upc_values.proofs.Membership.{each-has, each-from, each-weaker, has-left, has-right, has-filter, filter-has}
use Rattle.upc_values.proofs.Unmade.{is_maker}
use Rattle.upc_values.proofs.Waits.{legal-waits_follow}
use Rattle.collective_laws_words.specs.layer.Steps.{Step, Performs}
use Rattle.collective_laws_words.specs.layer.Interface.{Wrote, ReadSo, IsOfCall, IsPlaced, pointers_of, AreDone}
use Rattle.collective_laws_words.specs.layer.Interface.{WorkStays}
use Rattle.collective_laws_histories.proofs.Lists.{Holds_of, of-found, middle-has}
use Rattle.collective_laws_histories.proofs.Writing.{Writes, some-is, last-some, last-from}
use Rattle.collective_laws_histories.proofs.Courses.{Course}
use Rattle.collective_laws_histories.proofs.Middles.{OfMiddle, own-middle, own-entered, of-middle, Middle}
use Rattle.collective_laws_histories.proofs.Holding.{legal-front, formed-front, formed-has, held-same, held-written}
use Rattle.collective_laws_histories.proofs.Holding.{written-cell, unheld, IsKnown, all-known, named-parts, no-cell-of}

-- ---- words on steps

read-from : (threads : ℕ) (call : Call) (did : List Step) (l : Loc) (v : Scalar) → Each (IsOfCall threads call) did
    → ReadSo l v did → IsFrom threads call l
read-from threads call [] l v h m = absurd m
read-from threads call (s ∷ did) l v h (inr m) = read-from threads call did l v h.1 m
read-from threads call (s ∷ did) l v h (inl q) =
    elim h.0 [
      | inl w ↦ absurd (differ w.0 w.1 (sym w.2 ∙ q.0))
      | inr r ↦ subst (IsFrom threads call) (same r.0 (sym r.1 ∙ q.0)) r.2
    ]
  where
    differ : (k : Loc) (u : Scalar) → act.Write false k u ≡ act.Read l false → ⊥
    differ k u e = cc

    same : (k : Loc) → act.Read k false ≡ act.Read l false → k ≡ l
    same k e = cc

wrote-into : (threads : ℕ) (call : Call) (did : List Step) (l : Loc) (v : Scalar) → Each (IsOfCall threads call) did
    → Wrote l v did → IsInto threads call l
wrote-into threads call [] l v h m = absurd m
wrote-into threads call (s ∷ did) l v h (inr m) = wrote-into threads call did l v h.1 m
wrote-into threads call (s ∷ did) l v h (inl q) =
    elim h.0 [
      | inl w ↦ subst (IsInto threads call) (same w.0 w.1 (sym w.2 ∙ q)) w.3
      | inr r ↦ absurd (differ r.0 (sym r.1 ∙ q))
    ]
  where
    same : (k : Loc) (u : Scalar) → act.Write false k u ≡ act.Write false l v → k ≡ l
    same k u e = cc

    differ : (k : Loc) → act.Read k false ≡ act.Write false l v → ⊥
    differ k e = cc

has-split : {X : Type 0} (xs : List X) (x : X) → Has xs x → (front back : List X) × (xs ≡ front ++ x ∷ back)
has-split [] x m = absurd m
has-split (y ∷ xs) x (inl q) = ([], xs, ap (λ z. z ∷ xs) q)
has-split (y ∷ xs) x (inr m) = let r = has-split xs x m in (y ∷ r.0, r.1, ap (λ z. y ∷ z) r.2)

has-of : {X : Type 0} (P : X → Type 0) (xs : List X) (x : X) → Has xs x → P x → Holds_of P xs
has-of P [] x m p = absurd m
has-of P (y ∷ xs) x (inl q) p = inl (subst P (sym q) p)
has-of P (y ∷ xs) x (inr m) p = inr (has-of P xs x m p)

valued-is : (o : Option Scalar) (r : Reply) (v : Scalar) → value_reply o ≡ Some r → r ≡ Value v → o ≡ Some v
valued-is None r v e h = absurd cc
valued-is (Some u) r v e h = ap Some (one (some (e ∙ ap Some h)))
  where
    some : Some (Value u) ≡ Some (Value v) → Value u ≡ Value v
    some z = cc

    one : Value u ≡ Value v → u ≡ v
    one z = cc

module _ (o : Opening) (history : List Entry) (n c : ℕ) (args : List Scalar) (entered left : List Entry)
    (opening : IsOpening o) (below : EachBelow o.threads history) (legal : IsLegal o history)
    (formed : AreWellFormed o history) (stays : WorkStays) (apart : IsApart o history (call_of c args))
    (courses : (t : ℕ) → t < o.threads → Course o.threads o.shapes history t n c args)
    (ein : EndsNotified o.threads n entered history) (eout : EndsNotified o.threads (n + 1) left history)
    (between : Middle entered left history) where
  abbrev mid : List Entry
  mid = between.middle

  follow : WaitsFollow o.threads history
  follow = legal-waits_follow o history legal

  in_history : (e : Entry) → Has mid e → Has history e
  in_history e m =
      subst (λ z. Has z e) (sym between.history_is)
      (has-left (entered ++ mid) between.rest e (has-right entered mid e m))

  own : (t : ℕ) (lt : t < o.threads)
      → entries_of t mid ≡ (courses t lt).second ∷ ((courses t lt).body ++ (courses t lt).third ∷ [])
  own t lt =
      own-middle o.threads o.shapes history t n c args (courses t lt) entered left mid ein eout follow lt between.is

  -- Each entry between is one of a thread's course.
  each_of : (e : Entry) → Has mid e → (lt : e.thread < o.threads)
      → OfMiddle o.threads o.shapes history e.thread n c args (courses e.thread lt) e
  each_of e m lt =
      of-middle o.threads o.shapes history e.thread n c args (courses e.thread lt) e
      (subst (λ z. Has z e) (own e.thread lt)
      (has-filter (λ x. x.thread == e.thread) mid e (eq-eqb e.thread e.thread refl) m))

  thread_below : (e : Entry) → Has mid e → e.thread < o.threads
  thread_below e m = each-has (λ x. x.thread < o.threads) history below e (in_history e m)

  -- The entries of a thread's work are there.
  body_there : (t : ℕ) (lt : t < o.threads) (e : Entry) → Has (courses t lt).body e → Has mid e
  body_there t lt e m =
      let k = courses t lt in
      (filter-has (λ x. x.thread == t) mid e
      (subst (λ z. Has z e) (sym (own t lt)) (inr (has-left k.body (k.third ∷ []) e m)))).0

  no_makers : Each (λ e. is_maker e.action ≡ false) mid
  no_makers = each-from (λ e. is_maker e.action ≡ false) mid (λ e m. (each_of e m (thread_below e m)).0)

  -- ---- the call's pointers

  abbrev one_course : Course o.threads o.shapes history 0 n c args
  one_course = courses 0 opening.least

  meet_there : Has entered one_course.meet
  meet_there =
      let k = one_course in
      let e = own-entered o.threads o.shapes history 0 n c args k entered ein follow opening.least in
      (filter-has (λ x. x.thread == 0) entered k.meet
      (subst (λ z. Has z k.meet) (sym e)
      (has-left (k.front ++ k.meet ∷ []) (k.first ∷ []) k.meet (middle-has k.front [] k.meet)))).0

  left_meet : Has left one_course.meet
  left_meet = subst (λ z. Has z one_course.meet) (sym between.is) (has-left entered mid one_course.meet meet_there)

  legal_entered : IsLegal o entered
  legal_entered = legal-front o entered ein.rest (subst (IsLegal o) ein.history_is legal)

  legal_left : IsLegal o left
  legal_left = legal-front o left eout.rest (subst (IsLegal o) eout.history_is legal)

  formed_entered : AreWellFormed o entered
  formed_entered = formed-front o entered ein.rest (subst (AreWellFormed o) ein.history_is formed)

  formed_left : AreWellFormed o left
  formed_left = formed-front o left eout.rest (subst (AreWellFormed o) eout.history_is formed)

  known_in : (es : List Entry) → AreWellFormed o es → Has es one_course.meet
      → Each (IsKnown o es) (pointers_of (call_of c args))
  known_in es f m =
      all-known o es o.shapes 0 (call_of c args) one_course.passed
      (subst (IsWellFormed o es) one_course.meets (formed-has o es one_course.meet f m))

  placed : Each (IsPlaced o.threads) (pointers_of (call_of c args))
  placed =
      each-weaker (IsKnown o entered) (IsPlaced o.threads) (λ p h. (named-parts o entered p h).placed)
      (pointers_of (call_of c args)) (known_in entered formed_entered meet_there)

  empty_in : (es : List Entry) → AreWellFormed o es → IsLegal o es → Has es one_course.meet → (p q : SharedPtr)
      → Has (pointers_of (call_of c args)) p → q.object ≡ p.object
      → kind_at (shape_at o.shapes q) (unsigned_abs q.offset) ≡ None → held o es (location q) ≡ None
  empty_in es f l m p q h same none =
      let k = each-has (IsKnown o es) (pointers_of (call_of c args)) (known_in es f m) p h in
      unheld o es (location q) opening f (no-cell-of o es p q opening l (named-parts o es p k) same none)

  -- ---- reads and writes

  of_call : (t : ℕ) (lt : t < o.threads) → Each (IsOfCall o.threads (call_of c args)) (courses t lt).dids
  of_call t lt =
      let k = courses t lt in
      stays o.threads o.shapes (call_of c args) t k.dids opening.least lt placed k.passed k.performs

  -- An entry of the work writes what the thread writes there.
  write_there : (t : ℕ) (lt : t < o.threads) (l : Loc) (v : Scalar) → Wrote l v (courses t lt).dids
      → (e : Entry) × Has mid e × Writes l e
  write_there t lt l v m =
      let k = courses t lt in
      let r = of-found (Writes l) k.body (k.wrote l v m) in
      (r.0, body_there t lt r.0 r.1, r.2)

  -- What is read is written by nobody.
  unwritten : (t : ℕ) (lt : t < o.threads) (l : Loc) (v : Scalar) → ReadSo l v (courses t lt).dids
      → (u : ℕ) (lu : u < o.threads) (w : Scalar) → Wrote l w (courses u lu).dids → ⊥
  unwritten t lt l v m u lu w d =
      let e = write_there u lu l w d in
      let x = some-is (written l e.0.action) e.2 in
      let cell = written-cell o history e.0 l x.0 formed (in_history e.0 e.1) x.1 in
      apart l cell (wrote-into o.threads (call_of c args) (courses u lu).dids l w (of_call u lu) d)
      (read-from o.threads (call_of c args) (courses t lt).dids l v (of_call t lt) m)

  none_writes : (t : ℕ) (lt : t < o.threads) (l : Loc) (v : Scalar) → ReadSo l v (courses t lt).dids
      → (e : Entry) → Has mid e → written l e.action ≡ None
  none_writes t lt l v m e h = by_value (written l e.action) refl
    where
      by_value : (x : Option Scalar) → written l e.action ≡ x → x ≡ None
      by_value None q = refl
      by_value (Some w) q =
          let k = thread_below e h in
          absurd (unwritten t lt l v m e.thread k w ((each_of e h k).1 l w q))

  reads_one : (t : ℕ) (lt : t < o.threads) (l : Loc) (v : Scalar) → ReadSo l v (courses t lt).dids
      → held o entered l ≡ Some v
  reads_one t lt l v m =
      let r = (courses t lt).read l v m (unwritten t lt l v m t lt) in
      let e = r.0 in
      let s = has-split mid e (body_there t lt e r.1) in
      let is : history ≡ (entered ++ s.0) ++ e ∷ (s.1 ++ between.rest) =
      between.history_is ∙ ap (λ z. (entered ++ z) ++ between.rest) s.2
      ∙ regroup entered s.0 s.1 between.rest e in
      let lawful = legal-at o (entered ++ s.0) (s.1 ++ between.rest) e (subst (IsLegal o) is legal) in
      let answer : value_reply (held o (entered ++ s.0) l) ≡ Some e.reply =
      subst (λ a. reply o (entered ++ s.0) e.thread a ≡ Some e.reply) r.2 lawful in
      let now = valued-is (held o (entered ++ s.0) l) e.reply v answer r.3 in
      let part : (x : Entry) → Has s.0 x → Has mid x =
      λ x h. subst (λ z. Has z x) (sym s.2) (has-left s.0 (e ∷ s.1) x h) in
      sym (held-same o entered s.0 l
      (each-from (λ x. is_maker x.action ≡ false) s.0
      (λ x h. each-has (λ y. is_maker y.action ≡ false) mid no_makers x (part x h)))
      (each-from (λ x. written l x.action ≡ None) s.0 (λ x h. none_writes t lt l v m x (part x h))))
      ∙ now
    where
      regroup : (a b d f : List Entry) (x : Entry) → (a ++ (b ++ x ∷ d)) ++ f ≡ (a ++ b) ++ x ∷ (d ++ f)
      regroup a b d f x = simp append_assoc

  -- ---- steps by thread

  abbrev pick : (t : ℕ) (b : Bool) → nat_lt t o.threads ≡ b → List Step
  pick t true e = (courses t (ltb-true t o.threads e)).dids
  pick t false e = []

  abbrev dids : ℕ → List Step
  dids t = pick t (nat_lt t o.threads) refl

  at : (t : ℕ) → t < o.threads → (P : List Step → Type 0) → ((k : t < o.threads) → P (courses t k).dids) → P (dids t)
  at t lt P f = go (nat_lt t o.threads) refl
    where
      go : (b : Bool) (e : nat_lt t o.threads ≡ b) → P (pick t b e)
      go true e = f (ltb-true t o.threads e)
      go false e = absurd (false≢true (sym e ∙ lt-ltb t o.threads lt))

  -- The write that is last between, and the steps that it is of.
  record Last (l : Loc) : Type 0 where
    thread : ℕ
    value : Scalar
    below_is : thread < o.threads
    wrote : Wrote l value (dids thread)
    now : held o left l ≡ Some value

  last_one : (t : ℕ) (lt : t < o.threads) (l : Loc) (v : Scalar) → Wrote l v (courses t lt).dids → Last l
  last_one t lt l v m =
      let e = write_there t lt l v m in
      let w = some-is (last_written l mid) (last-some l mid (has-of (Writes l) mid e.0 e.1 e.2)) in
      let r = last-from l mid w.0 w.1 in
      let u = r.0.thread in
      let k = thread_below r.0 r.1 in
      record {
        thread = u;
        value = w.0;
        below_is = k;
        wrote = at u k (Wrote l w.0) (λ z. (each_of r.0 r.1 z).1 l w.0 r.2);
        now = ap (λ z. held o z l) between.is ∙ held-written o entered mid l w.0 w.1;
      }

  pub done : AreDone o.threads o.shapes (call_of c args) (held o entered) (held o left)
  done = record {
    some = opening.least;
    formed = placed;
    passed = λ t lt. (courses t lt).passed;
    dids = dids;
    performs = λ t lt.
        at t lt (λ d. Performs
        (work o.threads o.shapes t (call_of c args)) d tt)
        (λ k. (courses t k).performs);
    reads = λ t l v lt. at t lt (λ d. ReadSo l v d → held o entered l ≡ Some v) (λ k m. reads_one t k l v m);
    writes = λ t l v lt m.
        let r = at t lt (λ d. Wrote l v d → Last l) (λ k d. last_one t k l v d) m in
        (r.thread, r.value, r.below_is, r.wrote, r.now);
    empty = λ p q h same none. (
      empty_in entered formed_entered legal_entered meet_there p q h same none,
      empty_in left formed_left legal_left left_meet p q h same none,
    );
  }
