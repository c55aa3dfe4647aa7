-- Entries that let others go on, or go on over something: their operations, and what the channels say of them.
use Rattle.std.proofs.Common.{◌≡◌, ℕ, ◌+◌, ◌<◌, ◌≤◌, ◌==◌, ◌&&◌, ◌||◌, Bool, true, false, cond, List, [], ◌∷◌, ◌++◌, filter, slice_get, Option, Some, None, is_some, refl, sym, ap, ◌∙◌, subst, inl, inr, eq-eqb, eqb-true, arith}
use Rattle.std.proofs.lemmas.Bool.{cases_Bool, cond-true, cond-false, cond_both, false≢true, and_from, and_parts, or_cases}
use Rattle.block_layout.specs.declared.place.Loc.{Loc}
use Rattle.upc_values.specs.declared.scalar.Scalar.{Scalar}
use Rattle.upc_values.specs.declared.action.Action.{Action}
use Rattle.upc_values.specs.declared.action.Action.TheVariants.{Read, Write, Notify, Wait, Lock, Attempt, Unlock}
use Rattle.upc_values.specs.declared.action.Reply.{Reply}
use Rattle.upc_values.specs.declared.action.Reply.TheVariants.{Done, Value, Flag, Refused}
use Rattle.upc_values.specs.declared.journal.Entry.{Entry}
use Rattle.upc_values.specs.declared.journal.Journal.{Journal}
use Rattle.upc_values.specs.Lists.{Has, Precedes}
use Rattle.upc_values.specs.History.{is_notify, is_wait, notifies, waits}
use Rattle.upc_values.specs.Waits.{WaitsFollow}
use Rattle.upc_values.specs.Locks.{takes, lets_go}
use Rattle.upc_values.specs.Scalars.{zero}
use Rattle.upc_values.specs.Operations.{Operation, Cell, Sync, read_at, write_at, accesses_of, accesses}
use Rattle.upc_values.specs.Consistent.{FollowsBuffers}
use Rattle.upc_values.proofs.Membership.{each-has, filter-has}
use Rattle.race_report.specs.Reach.{notifies_of, waits_of, Releases, At_barrier, By_lock, By_value}
use Rattle.race_report.proofs.Lists.{counted, counted-is, before as standing, Before, slice-has}
use Rattle.race_report_clocks.specs.declared.channel.Channel.{Channel}
use Rattle.race_report_clocks.specs.declared.channel.Channel.TheVariants as over
use Rattle.race_report_clocks.specs.layer.Channels.{telling_by, hearing_by, telling, hearing, is_linked}
use Rattle.race_report_clocks.proofs.Splits.{At, places, at-has, at-inner, at-precedes, Cut, cut}

pub no-channel : (k : Channel) → ◌≡◌ {A = Option Channel} None (Some k) → ⊥
no-channel k e = absurd cc

-- one strict operation
pub record Link (t i : ℕ) (os : List Operation) : Type 0 where
  pub op : Operation
  pub is : os ≡ op ∷ []
  pub strict : op.strict ≡ true
  pub index : op.index ≡ i

telling-link : (n t i : ℕ) (a : Action) (r : Reply) (k : Channel) → telling_by n a r ≡ Some k → Link t i (accesses_of t i a r)
telling-link n t i a (Refused c) k h = absurd (no-channel k h)
telling-link n t i (Notify m) r k h = record { op = write_at t i Sync true zero; is = refl; strict = refl; index = refl }
telling-link n t i (Unlock l) Done k h = record { op = write_at t i Sync true zero; is = refl; strict = refl; index = refl }
telling-link n t i (Write true l v) r k h = record { op = write_at t i (Cell l) true v; is = refl; strict = refl; index = refl }
telling-link n t i a r k h = absurd (no-channel k h)

hearing-link : (n t i : ℕ) (a : Action) (r : Reply) (k : Channel) → hearing_by n a r ≡ Some k → Link t i (accesses_of t i a r)
hearing-link n t i a (Refused c) k h = absurd (no-channel k h)
hearing-link n t i (Wait m) r k h = record { op = read_at t i Sync true zero; is = refl; strict = refl; index = refl }
hearing-link n t i (Lock l) Done k h = record { op = read_at t i Sync true zero; is = refl; strict = refl; index = refl }
hearing-link n t i (Attempt l) (Flag true) k h = record { op = read_at t i Sync true zero; is = refl; strict = refl; index = refl }
hearing-link n t i (Read l true) (Value v) k h = record { op = read_at t i (Cell l) true v; is = refl; strict = refl; index = refl }
hearing-link n t i a r k h = absurd (no-channel k h)

record There (o : Option Channel) : Type 0 where
  channel : Channel
  is : o ≡ Some channel

there : (o : Option Channel) → is_some o ≡ true → There o
there (Some k) h = record { channel = k; is = refl }
there None h = absurd (false≢true h)

-- a linked entry has one operation, a strict one
pub linked-link : (before : List Entry) (e : Entry) → is_linked before e ≡ true → Link e.thread e.index (accesses e)
linked-link before e h =
    elim (or_cases (is_some (telling before e)) (is_some (hearing before e)) h) [
      | inl q ↦
          let k = there (telling before e) q in
          telling-link (notifies e.thread before) e.thread e.index e.action e.reply k.channel k.is
      | inr q ↦
          let k = there (hearing before e) q in
          hearing-link (waits e.thread before) e.thread e.index e.action e.reply k.channel k.is
    ]

pub link-has : (t i : ℕ) (os : List Operation) (s : Link t i os) → Has os s.op
link-has t i os s = subst (λ l. Has l s.op) (sym s.is) (inl refl)

pub link-only : (t i : ℕ) (os : List Operation) (s : Link t i os) (o : Operation) → Has os o → o ≡ s.op
link-only t i os s o m = elim (subst (λ l. Has l o) s.is m) [ inl e ↦ sym e | inr n ↦ absurd n ]

put-unlinked : (n m : ℕ) (l : Loc) (v : Scalar) (r : Reply) → (is_some (telling_by n (Write false l v) r) || is_some (hearing_by m (Write false l v) r)) ≡ false
put-unlinked n m l v Done = refl
put-unlinked n m l v (Value u) = refl
put-unlinked n m l v (Flag b) = refl
put-unlinked n m l v (Refused c) = refl

-- a relaxed write is not linked
pub relaxed-unlinked : (before : List Entry) (e : Entry) (l : Loc) (v : Scalar) → e.action ≡ Write false l v → is_linked before e ≡ true → ⊥
relaxed-unlinked before e l v q h =
    let test : Action → Bool = λ a. is_some (telling_by (notifies e.thread before) a e.reply) || is_some (hearing_by (waits e.thread before) a e.reply) in
    false≢true (sym (ap test q ∙ put-unlinked (notifies e.thread before) (waits e.thread before) l v e.reply) ∙ h)

-- what a channel says of who tells
told-phase : (n : ℕ) (a : Action) (r : Reply) (p : ℕ) → telling_by n a r ≡ Some (over.Phase p) → (is_notify a ≡ true) × (n ≡ p)
told-phase n a (Refused c) p h = absurd (no-channel (over.Phase p) h)
told-phase n (Notify m) r p h = (refl, cc)
told-phase n (Unlock l) Done p h = absurd cc
told-phase n (Write true l v) r p h = absurd cc
told-phase n a r p h = absurd (no-channel (over.Phase p) h)

told-lock : (n : ℕ) (a : Action) (r : Reply) (l : ℕ) → telling_by n a r ≡ Some (over.Lock l) → lets_go l a r ≡ true
told-lock n a (Refused c) l h = absurd (no-channel (over.Lock l) h)
told-lock n (Notify m) r l h = absurd cc
told-lock n (Unlock k) Done l h = let e : k ≡ l = cc in eq-eqb k l e
told-lock n (Write true k v) r l h = absurd cc
told-lock n a r l h = absurd (no-channel (over.Lock l) h)

told-cell : (n : ℕ) (a : Action) (r : Reply) (l : Loc) → telling_by n a r ≡ Some (over.Cell l) → (v : Scalar) × (a ≡ Write true l v)
told-cell n a (Refused c) l h = absurd (no-channel (over.Cell l) h)
told-cell n (Notify m) r l h = absurd cc
told-cell n (Unlock k) Done l h = absurd cc
told-cell n (Write true k v) r l h = let e : k ≡ l = cc in (v, ap (λ z. Write true z v) e)
told-cell n a r l h = absurd (no-channel (over.Cell l) h)

-- and of who hears
heard-phase : (n : ℕ) (a : Action) (r : Reply) (p : ℕ) → hearing_by n a r ≡ Some (over.Phase p) → (is_wait a ≡ true) × (n ≡ p)
heard-phase n a (Refused c) p h = absurd (no-channel (over.Phase p) h)
heard-phase n (Wait m) r p h = (refl, cc)
heard-phase n (Lock l) Done p h = absurd cc
heard-phase n (Attempt l) (Flag true) p h = absurd cc
heard-phase n (Read l true) (Value v) p h = absurd cc
heard-phase n a r p h = absurd (no-channel (over.Phase p) h)

heard-lock : (n : ℕ) (a : Action) (r : Reply) (l : ℕ) → hearing_by n a r ≡ Some (over.Lock l) → takes l a r ≡ true
heard-lock n a (Refused c) l h = absurd (no-channel (over.Lock l) h)
heard-lock n (Wait m) r l h = absurd cc
heard-lock n (Lock k) Done l h = let e : k ≡ l = cc in eq-eqb k l e
heard-lock n (Attempt k) (Flag true) l h = let e : k ≡ l = cc in eq-eqb k l e
heard-lock n (Read k true) (Value v) l h = absurd cc
heard-lock n a r l h = absurd (no-channel (over.Lock l) h)

heard-cell : (n : ℕ) (a : Action) (r : Reply) (l : Loc) → hearing_by n a r ≡ Some (over.Cell l) → a ≡ Read l true
heard-cell n a (Refused c) l h = absurd (no-channel (over.Cell l) h)
heard-cell n (Wait m) r l h = absurd cc
heard-cell n (Lock k) Done l h = absurd cc
heard-cell n (Attempt k) (Flag true) l h = absurd cc
heard-cell n (Read k true) (Value v) l h = let e : k ≡ l = cc in ap (λ z. Read z true) e
heard-cell n a r l h = absurd (no-channel (over.Cell l) h)

-- the other way
tell-notify : (n t i : ℕ) (a : Action) (r : Reply) (o : Operation) → is_notify a ≡ true → Has (accesses_of t i a r) o → telling_by n a r ≡ Some (over.Phase n)
tell-notify n t i (Notify m) Done o h k = refl
tell-notify n t i (Notify m) (Value v) o h k = refl
tell-notify n t i (Notify m) (Flag b) o h k = refl
tell-notify n t i (Notify m) (Refused c) o h k = absurd k
tell-notify n t i a r o h k = absurd (false≢true h)

tell-unlock : (n l : ℕ) (a : Action) (r : Reply) → lets_go l a r ≡ true → telling_by n a r ≡ Some (over.Lock l)
tell-unlock n l (Unlock k) Done h = ap (λ z. Some (over.Lock z)) (eqb-true k l h)
tell-unlock n l a r h = absurd (false≢true h)

tell-write : (n t i : ℕ) (l : Loc) (v : Scalar) (r : Reply) (o : Operation) → Has (accesses_of t i (Write true l v) r) o → telling_by n (Write true l v) r ≡ Some (over.Cell l)
tell-write n t i l v Done o k = refl
tell-write n t i l v (Value u) o k = refl
tell-write n t i l v (Flag b) o k = refl
tell-write n t i l v (Refused c) o k = absurd k

hear-wait : (n t i : ℕ) (a : Action) (r : Reply) (o : Operation) → is_wait a ≡ true → Has (accesses_of t i a r) o → hearing_by n a r ≡ Some (over.Phase n)
hear-wait n t i (Wait m) Done o h k = refl
hear-wait n t i (Wait m) (Value v) o h k = refl
hear-wait n t i (Wait m) (Flag b) o h k = refl
hear-wait n t i (Wait m) (Refused c) o h k = absurd k
hear-wait n t i a r o h k = absurd (false≢true h)

hear-taken : (n l : ℕ) (a : Action) (r : Reply) → takes l a r ≡ true → hearing_by n a r ≡ Some (over.Lock l)
hear-taken n l (Lock k) Done h = ap (λ z. Some (over.Lock z)) (eqb-true k l h)
hear-taken n l (Attempt k) (Flag true) h = ap (λ z. Some (over.Lock z)) (eqb-true k l h)
hear-taken n l a r h = absurd (false≢true h)

hear-read : (n t i : ℕ) (l : Loc) (r : Reply) (o : Operation) → Has (accesses_of t i (Read l true) r) o → hearing_by n (Read l true) r ≡ Some (over.Cell l)
hear-read n t i l Done o k = absurd k
hear-read n t i l (Value u) o k = refl
hear-read n t i l (Flag b) o k = absurd k
hear-read n t i l (Refused c) o k = absurd k

-- lists
picked : {X : Type 0} (test : X → Bool) (front rest : List X) (x : X) → test x ≡ true → slice_get (filter test (front ++ x ∷ rest)) (counted test front) ≡ Some x
picked test [] rest x t = ap (λ z. slice_get z 0) (cond-true (test x) (x ∷ filter test rest) (filter test rest) t)
picked test (y ∷ front) rest x t =
    let more = filter test (front ++ x ∷ rest) in
    let n = counted test front in
    elim (cases_Bool (test y)) [
      | inl q ↦
          let s : 1 + n ≡ ℕ.suc n = omega arith in
          ap (λ z. slice_get z (counted test (y ∷ front))) (cond-true (test y) (y ∷ more) more q)
          ∙ ap (λ k. slice_get (y ∷ more) k) (cond-true (test y) (1 + n) n q ∙ s) ∙ picked test front rest x t
      | inr q ↦
          ap (λ z. slice_get z (counted test (y ∷ front))) (cond-false (test y) (y ∷ more) more q)
          ∙ ap (λ k. slice_get more k) (cond-false (test y) (1 + n) n q) ∙ picked test front rest x t
    ]

counted-front : {X : Type 0} (test : X → Bool) (xs ys : List X) → counted test xs ≤ counted test (xs ++ ys)
counted-front test [] ys = omega arith
counted-front test (x ∷ xs) ys =
    let k = counted-front test xs ys in
    let n = counted test xs in
    let m = counted test (xs ++ ys) in
    elim (cases_Bool (test x)) [
      | inl q ↦
          let a : cond (test x) (1 + n) n ≡ 1 + n = cond-true (test x) (1 + n) n q in
          let b : cond (test x) (1 + m) m ≡ 1 + m = cond-true (test x) (1 + m) m q in omega arith
      | inr q ↦
          let a : cond (test x) (1 + n) n ≡ n = cond-false (test x) (1 + n) n q in
          let b : cond (test x) (1 + m) m ≡ m = cond-false (test x) (1 + m) m q in omega arith
    ]

-- what a filter keeps passes
filtered : {X : Type 0} (test : X → Bool) (xs : List X) (p : ℕ) (x : X) → slice_get (filter test xs) p ≡ Some x → test x ≡ true
filtered test xs p x h = (filter-has test xs x (slice-has (filter test xs) p x h)).1

-- an entry and a later one that goes on over what the first lets others go on over
pub record Joined (h : List Entry) (d e : Entry) : Type 0 where
  pub before : List Entry
  pub front : List Entry
  pub channel : Channel
  pub second : At h before e
  pub first : At before front d
  pub tells : telling front d ≡ Some channel
  pub hears : hearing before e ≡ Some channel

abbrev notified_by : ℕ → Entry → Bool
notified_by t e = (e.thread == t) && is_notify e.action

abbrev waited_by : ℕ → Entry → Bool
waited_by t e = (e.thread == t) && is_wait e.action

-- the entry is its thread's p-th notify
notify-at : (h front : List Entry) (d : Entry) (p : ℕ) → At h front d → is_notify d.action ≡ true → notifies d.thread front ≡ p → slice_get (notifies_of d.thread h) p ≡ Some d
notify-at h front d p a n m =
    let test = notified_by d.thread in
    ap (λ z. slice_get (filter test z) p) a.is
    ∙ ap (λ k. slice_get (filter test (front ++ d ∷ a.rest)) k) (sym m ∙ sym (counted-is test front))
    ∙ picked test front a.rest d (and_from (d.thread == d.thread) (is_notify d.action) (eq-eqb d.thread d.thread refl) n)

wait-at : (h front : List Entry) (d : Entry) (p : ℕ) → At h front d → is_wait d.action ≡ true → waits d.thread front ≡ p → slice_get (waits_of d.thread h) p ≡ Some d
wait-at h front d p a n m =
    let test = waited_by d.thread in
    ap (λ z. slice_get (filter test z) p) a.is
    ∙ ap (λ k. slice_get (filter test (front ++ d ∷ a.rest)) k) (sym m ∙ sym (counted-is test front))
    ∙ picked test front a.rest d (and_from (d.thread == d.thread) (is_wait d.action) (eq-eqb d.thread d.thread refl) n)

-- what lets another go on over a channel releases it
pub joined-releases : (h : List Entry) (d e : Entry) → Joined h d e → Releases h d e
joined-releases h d e s = by-channel s.channel s.tells s.hears
  where
    by-channel : (k : Channel) → telling s.front d ≡ Some k → hearing s.before e ≡ Some k → Releases h d e
    by-channel (over.Phase p) t g =
        let x = told-phase (notifies d.thread s.front) d.action d.reply p t in
        let y = heard-phase (waits e.thread s.before) e.action e.reply p g in
        At_barrier p d e (notify-at h s.front d p (at-inner h s.before e s.front d s.second s.first) x.0 x.1)
        (wait-at h s.before e p s.second y.0 y.1)
    by-channel (over.Lock l) t g =
        By_lock l d e (at-precedes h s.front d s.before e s.second s.first)
        (told-lock (notifies d.thread s.front) d.action d.reply l t)
        (heard-lock (waits e.thread s.before) e.action e.reply l g)
    by-channel (over.Cell l) t g =
        let x = told-cell (notifies d.thread s.front) d.action d.reply l t in
        By_value l x.0 d e (at-precedes h s.front d s.before e s.second s.first) x.1
        (heard-cell (waits e.thread s.before) e.action e.reply l g)

-- and the other way, for entries with operations
module _ (j : Journal) (f : FollowsBuffers j) (follow : WaitsFollow j.threads j.history) where
  barrier-joined : (p : ℕ) (d e : Entry) (a b : Operation) → slice_get (notifies_of d.thread j.history) p ≡ Some d → slice_get (waits_of e.thread j.history) p ≡ Some e
      → Has (accesses d) a → Has (accesses e) b → Joined j.history d e
  barrier-joined p d e a b hd he ha hb =
      let n = notified_by d.thread in
      let w = waited_by e.thread in
      let cd : Before n j.history p d = standing n j.history p d hd in
      let ce : Before w j.history p e = standing w j.history p e he in
      let ad : At j.history cd.front d = record { rest = cd.rest; is = cd.is } in
      let ae : At j.history ce.front e = record { rest = ce.rest; is = ce.is } in
      let md : notifies d.thread cd.front ≡ p = sym (counted-is n cd.front) ∙ cd.many in
      let me : waits e.thread ce.front ≡ p = sym (counted-is w ce.front) ∙ ce.many in
      let td = filtered n j.history p d hd in
      let te = filtered w j.history p e he in
      let is_n = (and_parts (d.thread == d.thread) (is_notify d.action) td).1 in
      let is_w = (and_parts (e.thread == e.thread) (is_wait e.action) te).1 in
      let low = each-has (λ x. x.thread < j.threads) j.history f.below d (at-has j.history cd.front d ad) in
      let more : waits e.thread ce.front < notifies d.thread ce.front = follow ce.front ce.rest e ce.is is_w d.thread low in
      let high : p < counted n ce.front =
      subst (λ k. p < k) (sym (counted-is n ce.front)) (subst (λ k. k < notifies d.thread ce.front) me more) in
      elim (places j.history cd.front d ce.front e ad ae) [
        | inl q ↦
            let z : counted n cd.front ≡ counted n ce.front = ap (counted n) q.0 in
            let y : counted n cd.front ≡ p = cd.many in absurd (omega arith)
        | inr q ↦ elim q [
          | inl first ↦
              record {
                before = ce.front;
                front = cd.front;
                channel = over.Phase p;
                second = ae;
                first = first;
                tells =
                    tell-notify (notifies d.thread cd.front) d.thread d.index d.action d.reply a is_n ha
                    ∙ ap (λ z. Some (over.Phase z)) md;
                hears =
                    hear-wait (waits e.thread ce.front) e.thread e.index e.action e.reply b is_w hb
                    ∙ ap (λ z. Some (over.Phase z)) me;
              }
          | inr first ↦
              let z : counted n ce.front ≤ counted n (ce.front ++ e ∷ first.rest) = counted-front n ce.front (e ∷ first.rest) in
              let y : counted n cd.front ≡ counted n (ce.front ++ e ∷ first.rest) = ap (counted n) first.is in
              let x : counted n cd.front ≡ p = cd.many in absurd (omega arith)
        ]
      ]

  pub releases-joined : (d e : Entry) (a b : Operation) → Releases j.history d e → Has (accesses d) a → Has (accesses e) b → Joined j.history d e
  releases-joined _ _ a b (At_barrier p d e hd he) ha hb = barrier-joined p d e a b hd he ha hb
  releases-joined _ _ a b (By_lock l d e p x y) ha hb =
      let c = cut j.history d e p in
      record {
        before = c.before;
        front = c.front;
        channel = over.Lock l;
        second = c.second;
        first = c.first;
        tells = tell-unlock (notifies d.thread c.front) l d.action d.reply x;
        hears = hear-taken (waits e.thread c.before) l e.action e.reply y;
      }
  releases-joined _ _ a b (By_value l v d e p x y) ha hb =
      let c = cut j.history d e p in
      record {
        before = c.before;
        front = c.front;
        channel = over.Cell l;
        second = c.second;
        first = c.first;
        tells =
            ap (λ z. telling_by (notifies d.thread c.front) z d.reply) x
            ∙ tell-write (notifies d.thread c.front) d.thread d.index l v d.reply a
            (subst (λ z. Has (accesses_of d.thread d.index z d.reply) a) x ha);
        hears =
            ap (λ z. hearing_by (waits e.thread c.before) z e.reply) y
            ∙ hear-read (waits e.thread c.before) e.thread e.index l e.reply b
            (subst (λ z. Has (accesses_of e.thread e.index z e.reply) b) y hb);
      }
