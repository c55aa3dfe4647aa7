-- The copies of the threads: all agree where no message waits.
use Rattle.std.proofs.Common.{◌≡◌, ◌≢◌, ℕ, ◌+◌, ◌<◌, ◌≤◌, ◌==◌, true, false, not, ◌&&◌, cond, List, [], ◌∷◌, ◌++◌, Option, Some, None, refl, sym, ap, ◌∙◌, subst, inl, inr, ◌⊎◌, arith, eq-eqb, eqb-true, ne_eqb}
use Rattle.std.proofs.lemmas.Bool.{cases_Bool, cases_eq, false≢true, cond-true, cond-false, cond_both, and_parts, and_from, not-true, not_from_false}
use Rattle.block_layout.specs.declared.place.Loc.{Loc}
use Rattle.upc_values.specs.Scalars.{same_loc}
use Rattle.upc_values.specs.Lists.{Has}
use Rattle.upc_values.proofs.Membership.{has-left, has-right, has-cases}
use Rattle.upc_values.proofs.Sameness.{same_loc-true, same_loc-itself}
use Rattle.replica_space.specs.declared.message.Stamp.{Stamp}
use Rattle.replica_space.specs.declared.message.Message.{Message}
use Rattle.replica_space.specs.Spaces.{Space, begun, is_later, greater, with_message, with_mail, is_behind, met, sent, spread, received}
use Rattle.replica_space.specs.Runs.{NoneWaits}
use Rattle.replica_space_lists.proofs.Stamps.{upto-trans, upto-self, upto-anti, lower-upto, later-upto, greater-left, greater-right, greatest-most}

-- the message waits for thread t
pub record Waiting (n : ℕ) (s : Space) (t : ℕ) (k : Message) : Type 0 where
  pub from : ℕ
  pub below : from < n
  pub waits : Has (s.mail t from) k

-- the copy here has a message that is no earlier
pub record Came (here : Option Message) (k : Message) : Type 0 where
  pub message : Message
  pub is : here ≡ Some message
  pub upto : is_later k.stamp message.stamp ≡ false

pub record OfCopy (made : List Message) (l : Loc) (top : ℕ) (c : Message) : Type 0 where
  pub of : Has made c
  pub loc : c.loc ≡ l
  pub clock : c.stamp.clock ≤ top

-- what the threads have, where these messages have been made
pub record Made (n : ℕ) (s : Space) (made : List Message) : Type 0 where
  pub below : (k : Message) → Has made k → k.stamp.thread < n
  pub by : (k : Message) → Has made k → k.stamp.clock ≤ s.clock k.stamp.thread
  pub once : (a b : Message) → Has made a → Has made b → a.stamp ≡ b.stamp → a ≡ b
  pub came : (t : ℕ) (k : Message) → t < n → Has made k → Waiting n s t k ⊎ Came (s.copy t k.loc) k
  pub of_copy : (t : ℕ) (l : Loc) (c : Message) → t < n → s.copy t l ≡ Some c → OfCopy made l (s.clock t) c
  pub of_mail : (t u : ℕ) (m : Message) → t < n → u < n → Has (s.mail t u) m → Has made m

some-is : {X : Type 0} (a b : X) → Some a ≡ Some b → a ≡ b
some-is a b h = cc

none-some : {X : Type 0} (a : X) → ◌≡◌ {A = Option X} None (Some a) → ⊥
none-some a h = absurd cc

pub begun-made : (n : ℕ) → Made n begun []
begun-made n = record {
  below = λ k h. absurd h;
  by = λ k h. absurd h;
  once = λ a b h. absurd h;
  came = λ t k lt h. absurd h;
  of_copy = λ t l c lt e. absurd (none-some c e);
  of_mail = λ t u m lt k h. absurd h;
}

-- ---- the copies agree

module _ (n : ℕ) (s : Space) (made : List Message) (h : Made n s made) (none : NoneWaits n s) where
  arrived : (t : ℕ) (k : Message) → t < n → Has made k → Came (s.copy t k.loc) k
  arrived t k lt m =
      elim (h.came t k lt m) [
        | inl w ↦ absurd (subst (λ l. Has l k) (none t w.from lt w.below) w.waits)
        | inr c ↦ c
      ]

  -- what one copy has the other has
  one-way : (t u : ℕ) (l : Loc) (c : Message) → t < n → u < n → s.copy t l ≡ Some c → s.copy u l ≡ Some c
  one-way t u l c lt lu e =
      let x = h.of_copy t l c lt e in
      let d = arrived u c lu x.of in
      let y = h.of_copy u c.loc d.message lu d.is in
      let b = arrived t d.message lt y.of in
      let back : s.copy t d.message.loc ≡ Some c = ap (s.copy t) (y.loc ∙ x.loc) ∙ e in
      let same : b.message ≡ c = some-is b.message c (sym b.is ∙ back) in
      let upto : is_later d.message.stamp c.stamp ≡ false = subst (λ z. is_later d.message.stamp z.stamp ≡ false) same b.upto in
      let one : d.message ≡ c = h.once d.message c y.of x.of (upto-anti d.message.stamp c.stamp upto d.upto) in
      ap (s.copy u) (sym x.loc) ∙ d.is ∙ ap Some one

  pub agree : (t u : ℕ) (l : Loc) → t < n → u < n → s.copy t l ≡ s.copy u l
  agree t u l lt lu = go (s.copy t l) refl (s.copy u l) refl
    where
      go : (x : Option Message) → s.copy t l ≡ x → (y : Option Message) → s.copy u l ≡ y → x ≡ y
      go (Some c) e y f = sym (one-way t u l c lt lu e) ∙ f
      go None e (Some d) f = absurd (none-some d (sym e ∙ one-way u t l d lu lt f))
      go None e None f = refl

-- ---- the steps

-- a message goes into a copy whose messages are lower
message-new : (m : Message) (o : Option Message) → with_message m m.loc o ≡ Some m
message-new m o = cond-true (same_loc m.loc m.loc) (Some m) o (same_loc-itself m.loc)

message-came : (m k : Message) (o : Option Message) → ((c : Message) → o ≡ Some c → c.stamp.clock < m.stamp.clock) → Came o k → Came (with_message m k.loc o) k
message-came m k o low c =
    cond_both (same_loc m.loc k.loc) (Some m) o (λ z. Came z k)
    (λ e. record { message = m; is = refl; upto = upto-trans k.stamp c.message.stamp m.stamp c.upto (lower-upto c.message.stamp m.stamp (low c.message c.is)) })
    (λ e. c)

message-of : (made : List Message) (m : Message) (l : Loc) (o : Option Message) (clock : ℕ) → m.stamp.clock ≤ clock
    → ((c : Message) → o ≡ Some c → OfCopy made l clock c) → (c : Message) → with_message m l o ≡ Some c → OfCopy (m ∷ made) l clock c
message-of made m l o clock least old c =
    cond_both (same_loc m.loc l) (Some m) o (λ z. z ≡ Some c → OfCopy (m ∷ made) l clock c)
    (λ e q. let i = some-is m c q in subst (OfCopy (m ∷ made) l clock) i (record { of = inl refl; loc = same_loc-true m.loc l e; clock = least }))
    (λ e q. let x = old c q in record { of = inr x.of; loc = x.loc; clock = x.clock })

module _ (n : ℕ) (s : Space) (made : List Message) (h : Made n s made) where
  -- ---- the clocks meet
  pub met-made : Made n (met n s) made
  met-made = record {
    below = h.below;
    by = λ k m. let a = h.by k m in let b = greatest-most n s.clock k.stamp.thread (h.below k m) in omega arith;
    once = h.once;
    came = λ t k lt m. elim (h.came t k lt m) [
      | inl w ↦ inl (record { from = w.from; below = w.below; waits = w.waits })
      | inr c ↦ inr c
    ];
    of_copy = λ t l c lt e.
        let x = h.of_copy t l c lt e in
        let a = x.clock in
        let b = greatest-most n s.clock t lt in
        record { of = x.of; loc = x.loc; clock = omega arith };
    of_mail = h.of_mail;
  }

  -- a made message has another stamp than one with a greater clock than its thread's
  new-stamp : (m k : Message) → s.clock m.stamp.thread < m.stamp.clock → Has made k → m.stamp ≡ k.stamp → ⊥
  new-stamp m k low w e =
      let b : m.stamp.clock ≤ s.clock m.stamp.thread = subst (λ (z : Stamp). z.clock ≤ s.clock z.thread) (sym e) (h.by k w) in
      omega arith

  new-once : (m : Message) → s.clock m.stamp.thread < m.stamp.clock → (a b : Message) → Has (m ∷ made) a → Has (m ∷ made) b → a.stamp ≡ b.stamp → a ≡ b
  new-once m low a b (inl e) (inl f) q = sym e ∙ f
  new-once m low a b (inl e) (inr k) q = absurd (new-stamp m b low k (ap (λ z. z.stamp) e ∙ q))
  new-once m low a b (inr k) (inl f) q = absurd (new-stamp m a low k (ap (λ z. z.stamp) f ∙ sym q))
  new-once m low a b (inr k) (inr l) q = h.once a b k l q

  -- ---- a strict write comes to all
  pub spread-made : (m : Message) → m.stamp.thread < n → ((u : ℕ) → m.stamp.clock ≡ s.clock u + 1) → Made n (spread m s) (m ∷ made)
  spread-made m below top = record {
    below = λ k w. elim w [ inl e ↦ subst (λ (z : Message). z.stamp.thread < n) e below | inr o ↦ h.below k o ];
    by = λ k w. elim w [
      | inl e ↦ subst (λ (z : Message). z.stamp.clock ≤ s.clock z.stamp.thread + 1) e (let a = top m.stamp.thread in omega arith)
      | inr o ↦ let a = h.by k o in omega arith
    ];
    once = new-once m (let a = top m.stamp.thread in omega arith);
    came = λ t k lt w. elim w [
      | inl e ↦ inr (record { message = m; is = subst (λ (z : Message). with_message m z.loc (s.copy t z.loc) ≡ Some m) e (message-new m (s.copy t m.loc)); upto = subst (λ (z : Message). is_later z.stamp m.stamp ≡ false) e (upto-self m.stamp) })
      | inr o ↦ elim (h.came t k lt o) [
        | inl x ↦ inl (record { from = x.from; below = x.below; waits = x.waits })
        | inr c ↦ inr (message-came m k (s.copy t k.loc) (λ d e. let x = h.of_copy t k.loc d lt e in let a = top t in let b = x.clock in omega arith) c)
      ]
    ];
    of_copy = λ t l c lt e.
        message-of made m l (s.copy t l) (s.clock t + 1) (let a = top t in omega arith)
        (λ d q. let x = h.of_copy t l d lt q in let b = x.clock in record { of = x.of; loc = x.loc; clock = omega arith }) c e;
    of_mail = λ t u k lt lu w. inr (h.of_mail t u k lt lu w);
  }

  -- ---- a relaxed write is sent
  module _ (v : ℕ) (m : Message) (below : v < n) (by : m.stamp.thread ≡ v) (top : m.stamp.clock ≡ s.clock v + 1) where
    abbrev after : Space
    after = sent m s

    clock-grows : (u : ℕ) → s.clock u ≤ after.clock u
    clock-grows u =
        cond_both (u == m.stamp.thread) m.stamp.clock (s.clock u) (λ z. s.clock u ≤ z)
        (λ e. let q : s.clock u ≡ s.clock v = ap s.clock (eqb-true u m.stamp.thread e ∙ by) in omega arith)
        (λ e. omega arith)

    clock-own : after.clock v ≡ m.stamp.clock
    clock-own = cond-true (v == m.stamp.thread) m.stamp.clock (s.clock v) (eq-eqb v m.stamp.thread (sym by))

    mail-grows : (t u : ℕ) (k : Message) → Has (s.mail t u) k → Has (after.mail t u) k
    mail-grows t u k w =
        cond_both ((u == m.stamp.thread) && not (t == u)) (s.mail t u ++ m ∷ []) (s.mail t u) (λ l. Has l k)
        (λ e. has-left (s.mail t u) (m ∷ []) k w) (λ e. w)

    mail-new : (t : ℕ) → (t ≢ v) → Has (after.mail t v) m
    mail-new t ne =
        subst (λ l. Has l m)
        (sym (cond-true ((v == m.stamp.thread) && not (t == v)) (s.mail t v ++ m ∷ []) (s.mail t v)
        (and_from (v == m.stamp.thread) (not (t == v)) (eq-eqb v m.stamp.thread (sym by)) (not_from_false (t == v) (ne_eqb t v ne)))))
        (has-right (s.mail t v) (m ∷ []) m (inl refl))

    mail-was : (t u : ℕ) (k : Message) → Has (after.mail t u) k → (m ≡ k) ⊎ Has (s.mail t u) k
    mail-was t u k =
        cond_both ((u == m.stamp.thread) && not (t == u)) (s.mail t u ++ m ∷ []) (s.mail t u) (λ l. Has l k → (m ≡ k) ⊎ Has (s.mail t u) k)
        (λ e w. elim (has-cases (s.mail t u) (m ∷ []) k w) [ inl o ↦ inr o | inr x ↦ elim x [ inl q ↦ inl q | inr z ↦ absurd z ] ])
        (λ e w. inr w)

    new-came : (t : ℕ) → t < n → Waiting n after t m ⊎ Came (after.copy t m.loc) m
    new-came t lt =
        elim (cases_eq t v) [
          | inl e ↦
              inr (record {
                message = m;
                is = cond-true (t == m.stamp.thread) (with_message m m.loc (s.copy t m.loc)) (s.copy t m.loc) (eq-eqb t m.stamp.thread (e ∙ sym by)) ∙ message-new m (s.copy t m.loc);
                upto = upto-self m.stamp;
              })
          | inr ne ↦ inl (record { from = v; below = below; waits = mail-new t ne })
        ]

    old-came : (t : ℕ) (k : Message) → t < n → Has made k → Waiting n after t k ⊎ Came (after.copy t k.loc) k
    old-came t k lt o =
        elim (h.came t k lt o) [
          | inl x ↦ inl (record { from = x.from; below = x.below; waits = mail-grows t x.from k x.waits })
          | inr c ↦
              inr (cond_both (t == m.stamp.thread) (with_message m k.loc (s.copy t k.loc)) (s.copy t k.loc) (λ z. Came z k)
              (λ e. message-came m k (s.copy t k.loc)
              (λ d q. let x = h.of_copy t k.loc d lt q in let b = x.clock in let f : s.clock t ≡ s.clock v = ap s.clock (eqb-true t m.stamp.thread e ∙ by) in omega arith) c)
              (λ e. c))
        ]

    copy-of : (t : ℕ) (l : Loc) (c : Message) → t < n → after.copy t l ≡ Some c → OfCopy (m ∷ made) l (after.clock t) c
    copy-of t l c lt =
        cond_both (t == m.stamp.thread) (with_message m l (s.copy t l)) (s.copy t l) (λ z. z ≡ Some c → OfCopy (m ∷ made) l (after.clock t) c)
        (λ e q.
        message-of made m l (s.copy t l) (after.clock t)
        (let f : after.clock t ≡ m.stamp.clock = cond-true (t == m.stamp.thread) m.stamp.clock (s.clock t) e in omega arith)
        (λ d r. let x = h.of_copy t l d lt r in let b = x.clock in let g = clock-grows t in record { of = x.of; loc = x.loc; clock = omega arith }) c q)
        (λ e q. let x = h.of_copy t l c lt q in let b = x.clock in let g = clock-grows t in record { of = inr x.of; loc = x.loc; clock = omega arith })

    pub sent-made : Made n after (m ∷ made)
    sent-made = record {
      below = λ k w. elim w [ inl e ↦ subst (λ (z : Message). z.stamp.thread < n) e (subst (λ z. z < n) (sym by) below) | inr o ↦ h.below k o ];
      by = λ k w. elim w [
        | inl e ↦ subst (λ (z : Message). z.stamp.clock ≤ after.clock z.stamp.thread) e (subst (λ z. m.stamp.clock ≤ after.clock z) (sym by) (let a = clock-own in omega arith))
        | inr o ↦ let a = h.by k o in let b = clock-grows k.stamp.thread in omega arith
      ];
      once = new-once m (let q : s.clock m.stamp.thread ≡ s.clock v = ap s.clock by in omega arith);
      came = λ t k lt w. elim w [
        | inl e ↦ subst (λ (z : Message). Waiting n after t z ⊎ Came (after.copy t z.loc) z) e (new-came t lt)
        | inr o ↦ old-came t k lt o
      ];
      of_copy = copy-of;
      of_mail = λ t u k lt lu w. elim (mail-was t u k w) [ inl e ↦ inl e | inr o ↦ inr (h.of_mail t u k lt lu o) ];
    }

  -- ---- a message is received
  module _ (to from : ℕ) (lt-to : to < n) (lt-from : from < n) (m : Message) (ms : List Message) (was : s.mail to from ≡ m ∷ ms) where
    abbrev got : Space
    got = received to from (m ∷ ms) s

    got-grows : (u : ℕ) → s.clock u ≤ got.clock u
    got-grows u =
        cond_both (u == to) (greater (s.clock u) m.stamp.clock) (s.clock u) (λ z. s.clock u ≤ z)
        (λ e. greater-left (s.clock u) m.stamp.clock) (λ e. omega arith)

    here : Has (s.mail to from) m
    here = subst (λ l. Has l m) (sym was) (inl refl)

    -- it comes to the copy, or finds a later one there
    mail-new-came : (o : Option Message) → Came (with_mail m m.loc o) m
    mail-new-came o =
        elim (cases_Bool (is_behind m o)) [
          | inl t ↦ behind o t
          | inr f ↦
              record {
                message = m;
                is = cond-true (same_loc m.loc m.loc && not (is_behind m o)) (Some m) o (and_from (same_loc m.loc m.loc) (not (is_behind m o)) (same_loc-itself m.loc) (not_from_false (is_behind m o) f));
                upto = upto-self m.stamp;
              }
        ]
      where
        behind : (o : Option Message) → is_behind m o ≡ true → Came (with_mail m m.loc o) m
        behind (Some k) t =
            record {
              message = k;
              is = ap (λ b. cond (same_loc m.loc m.loc && not b) (Some m) (Some k)) t ∙ ap (λ b. cond (b && false) (Some m) (Some k)) (same_loc-itself m.loc);
              upto = later-upto k.stamp m.stamp t;
            }
        behind None t = absurd (false≢true t)

    mail-old-came : (k : Message) (o : Option Message) → Came o k → Came (with_mail m k.loc o) k
    mail-old-came k o c =
        cond_both (same_loc m.loc k.loc && not (is_behind m o)) (Some m) o (λ z. Came z k)
        (λ e.
        let f : is_behind m o ≡ false = not-true (is_behind m o) (and_parts (same_loc m.loc k.loc) (not (is_behind m o)) e).1 in
        record { message = m; is = refl; upto = upto-trans k.stamp c.message.stamp m.stamp c.upto (ap (is_behind m) (sym c.is) ∙ f) })
        (λ e. c)

    waits-still : (t u : ℕ) (k : Message) → Has (s.mail t u) k → (m ≡ k) × (t ≡ to) ⊎ Has (got.mail t u) k
    waits-still t u k w =
        elim (cases_Bool ((t == to) && (u == from))) [
          | inl e ↦
              let p = and_parts (t == to) (u == from) e in
              let q = eqb-true t to p.0 in
              let r = eqb-true u from p.1 in
              let x : Has (m ∷ ms) k = subst (λ l. Has l k) (ap (λ z. s.mail z u) q ∙ ap (s.mail to) r ∙ was) w in
              elim x [
                | inl y ↦ inl (y, q)
                | inr y ↦ inr (subst (λ l. Has l k) (sym (cond-true ((t == to) && (u == from)) ms (s.mail t u) e)) y)
              ]
          | inr f ↦ inr (subst (λ l. Has l k) (sym (cond-false ((t == to) && (u == from)) ms (s.mail t u) f)) w)
        ]

    waited : (t u : ℕ) (k : Message) → Has (got.mail t u) k → Has (s.mail t u) k
    waited t u k =
        cond_both ((t == to) && (u == from)) ms (s.mail t u) (λ l. Has l k → Has (s.mail t u) k)
        (λ e w.
        let p = and_parts (t == to) (u == from) e in
        subst (λ l. Has l k) (sym (ap (λ z. s.mail z u) (eqb-true t to p.0) ∙ ap (s.mail to) (eqb-true u from p.1) ∙ was)) (inr w))
        (λ e w. w)

    got-came : (t : ℕ) (k : Message) → t < n → Has made k → Waiting n got t k ⊎ Came (got.copy t k.loc) k
    got-came t k lt o =
        elim (h.came t k lt o) [
          | inl x ↦ elim (waits-still t x.from k x.waits) [
            | inl y ↦
                inr (subst (λ (z : Message). Came (got.copy t z.loc) z) y.0
                (subst (λ z. Came z m) (sym (cond-true (t == to) (with_mail m m.loc (s.copy t m.loc)) (s.copy t m.loc) (eq-eqb t to y.1))) (mail-new-came (s.copy t m.loc))))
            | inr w ↦ inl (record { from = x.from; below = x.below; waits = w })
          ]
          | inr c ↦
              inr (cond_both (t == to) (with_mail m k.loc (s.copy t k.loc)) (s.copy t k.loc) (λ z. Came z k)
              (λ e. mail-old-came k (s.copy t k.loc) c) (λ e. c))
        ]

    got-of : (t : ℕ) (l : Loc) (c : Message) → t < n → got.copy t l ≡ Some c → OfCopy made l (got.clock t) c
    got-of t l c lt =
        cond_both (t == to) (with_mail m l (s.copy t l)) (s.copy t l) (λ z. z ≡ Some c → OfCopy made l (got.clock t) c)
        (λ e.
        cond_both (same_loc m.loc l && not (is_behind m (s.copy t l))) (Some m) (s.copy t l) (λ z. z ≡ Some c → OfCopy made l (got.clock t) c)
        (λ f q.
        let p = and_parts (same_loc m.loc l) (not (is_behind m (s.copy t l))) f in
        let g : got.clock t ≡ greater (s.clock t) m.stamp.clock = cond-true (t == to) (greater (s.clock t) m.stamp.clock) (s.clock t) e in
        let r = greater-right (s.clock t) m.stamp.clock in
        subst (OfCopy made l (got.clock t)) (some-is m c q)
        (record { of = h.of_mail to from m lt-to lt-from here; loc = same_loc-true m.loc l p.0; clock = omega arith }))
        (λ f q. old q))
        (λ e q. old q)
      where
        old : s.copy t l ≡ Some c → OfCopy made l (got.clock t) c
        old q = let x = h.of_copy t l c lt q in let b = x.clock in let g = got-grows t in record { of = x.of; loc = x.loc; clock = omega arith }

    pub received-made : Made n got made
    received-made = record {
      below = h.below;
      by = λ k o. let a = h.by k o in let b = got-grows k.stamp.thread in omega arith;
      once = h.once;
      came = got-came;
      of_copy = got-of;
      of_mail = λ t u k lt lu w. h.of_mail t u k lt lu (waited t u k w);
    }
