-- How many messages wait, after each step.
use Rattle.std.proofs.Common.{◌≡◌, ◌≢◌, ℕ, ◌+◌, ◌<◌, ◌≤◌, ◌==◌, ◌&&◌, zero, suc, not, cond, List, [], ◌∷◌, ◌++◌, length, refl, sym, ap, ◌∙◌, inl, inr, arith, eq-eqb}
use Rattle.std.proofs.lemmas.Bool.{cases_eq, ne_eqb, cond-true, cond-false, and_from, and_left, and_right, not_from_true, not_from_false}
use Rattle.std.proofs.lemmas.List.{length_push}
use Rattle.replica_space.specs.declared.message.Message.{Message}
use Rattle.replica_space.specs.Spaces.{Space, with_sent, sent, received}
use Rattle.replica_space_copies.specs.layer.Same.{IsSame}
use Rattle.replica_space_copies.specs.layer.Counts.{sum_below, waiting_in}

sum-same : (n : ℕ) (f g : ℕ → ℕ) → ((k : ℕ) → k < n → f k ≡ g k) → sum_below n f ≡ sum_below n g
sum-same zero f g h = refl
sum-same (suc n) f g h =
    let before = sum-same n f g (λ k l. h k (omega arith)) in
    let here = h n (omega arith) in
    omega arith

-- one value is greater by 1
sum-one : (n p : ℕ) (f g : ℕ → ℕ) → p < n → f p ≡ g p + 1 → ((k : ℕ) → k < n → k ≢ p → f k ≡ g k)
    → sum_below n f ≡ sum_below n g + 1
sum-one zero p f g lt e h = absurd (omega arith)
sum-one (suc n) p f g lt e h =
    elim (cases_eq n p) [
      | inl q ↦
          let before = sum-same n f g (λ k l. h k (omega arith) (λ r. absurd (omega arith))) in
          let here : f n ≡ g n + 1 = ap f q ∙ e ∙ ap (λ k. g k + 1) (sym q) in
          omega arith
      | inr q ↦
          let before = sum-one n p f g (omega (arith, λ (r : n ≡ p). q r)) e (λ k l ne. h k (omega arith) ne) in
          let here : f n ≡ g n = h n (omega arith) q in
          omega arith
    ]

sum-all : (n : ℕ) (f g : ℕ → ℕ) → ((k : ℕ) → k < n → f k ≡ g k + 1) → sum_below n f ≡ sum_below n g + n
sum-all zero f g h = refl
sum-all (suc n) f g h =
    let before = sum-all n f g (λ k l. h k (omega arith)) in
    let here = h n (omega arith) in
    omega arith

-- all values but one are greater by 1
sum-others : (n p : ℕ) (f g : ℕ → ℕ) → p < n → f p ≡ g p → ((k : ℕ) → k < n → k ≢ p → f k ≡ g k + 1)
    → sum_below n f + 1 ≡ sum_below n g + n
sum-others zero p f g lt e h = absurd (omega arith)
sum-others (suc n) p f g lt e h =
    elim (cases_eq n p) [
      | inl q ↦
          let before = sum-all n f g (λ k l. h k (omega arith) (λ r. absurd (omega arith))) in
          let here : f n ≡ g n = ap f q ∙ e ∙ ap g (sym q) in
          omega arith
      | inr q ↦
          let before = sum-others n p f g (omega (arith, λ (r : n ≡ p). q r)) e (λ k l ne. h k (omega arith) ne) in
          let here : f n ≡ g n + 1 = h n (omega arith) q in
          omega arith
    ]

pub waiting-same : (n : ℕ) (s r : Space) → IsSame n s r → waiting_in n s ≡ waiting_in n r
waiting-same n s r h =
    sum-same n (λ to. sum_below n (λ from. length (s.mail to from))) (λ to. sum_below n (λ from. length (r.mail to from)))
    (λ to l. sum-same n (λ from. length (s.mail to from)) (λ from. length (r.mail to from)) (λ from k. ap length (h.mail to from l k)))

-- ---- one message is taken

module _ (to from : ℕ) (ms : List Message) (s : Space) where
  -- the mail that is left
  abbrev left : ℕ → ℕ → List Message
  left u v = cond ((u == to) && (v == from)) ms (s.mail u v)

  left-here : left to from ≡ ms
  left-here = cond-true ((to == to) && (from == from)) ms (s.mail to from) (and_from (to == to) (from == from) (eq-eqb to to refl) (eq-eqb from from refl))

  left-of : (u v : ℕ) → v ≢ from → left u v ≡ s.mail u v
  left-of u v ne = cond-false ((u == to) && (v == from)) ms (s.mail u v) (and_right (u == to) (v == from) (ne_eqb v from ne))

  left-at : (u v : ℕ) → u ≢ to → left u v ≡ s.mail u v
  left-at u v ne = cond-false ((u == to) && (v == from)) ms (s.mail u v) (and_left (u == to) (v == from) (ne_eqb u to ne))

pub waiting-received : (n to from : ℕ) (m : Message) (ms : List Message) (s : Space) → to < n → from < n → s.mail to from ≡ m ∷ ms
    → waiting_in n s ≡ waiting_in n (received to from (m ∷ ms) s) + 1
waiting-received n to from m ms s h k e =
    let row = sum-one n from (λ v. length (s.mail to v)) (λ v. length (left to from ms s to v)) k
    (ap length e ∙ omega (arith, ap length (left-here to from ms s)))
    (λ v l ne. sym (ap length (left-of to from ms s to v ne))) in
    sum-one n to (λ u. sum_below n (λ v. length (s.mail u v))) (λ u. sum_below n (λ v. length (left to from ms s u v))) h row
    (λ u l ne. sum-same n (λ v. length (s.mail u v)) (λ v. length (left to from ms s u v)) (λ v q. sym (ap length (left-at to from ms s u v ne))))

-- ---- one message is sent

module _ (m : Message) (s : Space) where
  -- the mail with it
  abbrev more : ℕ → ℕ → List Message
  more to from = with_sent m to from (s.mail to from)

  pub more-own : (from : ℕ) → more m.stamp.thread from ≡ s.mail m.stamp.thread from
  more-own from =
      let t = m.stamp.thread in
      cond-false ((from == t) && not (t == from)) (s.mail t from ++ m ∷ []) (s.mail t from)
      (elim (cases_eq from t) [
        | inl e ↦ and_right (from == t) (not (t == from)) (not_from_true (t == from) (eq-eqb t from (sym e)))
        | inr e ↦ and_left (from == t) (not (t == from)) (ne_eqb from t e)
      ])

  pub more-of : (to from : ℕ) → from ≢ m.stamp.thread → more to from ≡ s.mail to from
  more-of to from ne =
      let t = m.stamp.thread in
      cond-false ((from == t) && not (to == from)) (s.mail to from ++ m ∷ []) (s.mail to from) (and_left (from == t) (not (to == from)) (ne_eqb from t ne))

  pub more-at : (to : ℕ) → to ≢ m.stamp.thread → more to m.stamp.thread ≡ s.mail to m.stamp.thread ++ m ∷ []
  more-at to ne =
      let t = m.stamp.thread in
      cond-true ((t == t) && not (to == t)) (s.mail to t ++ m ∷ []) (s.mail to t) (and_from (t == t) (not (to == t)) (eq-eqb t t refl) (not_from_false (to == t) (ne_eqb to t ne)))

pub waiting-sent : (n : ℕ) (m : Message) (s : Space) → m.stamp.thread < n → waiting_in n (sent m s) + 1 ≡ waiting_in n s + n
waiting-sent n m s h =
    let t = m.stamp.thread in
    sum-others n t (λ u. sum_below n (λ v. length (more m s u v))) (λ u. sum_below n (λ v. length (s.mail u v))) h
    (sum-same n (λ v. length (more m s t v)) (λ v. length (s.mail t v)) (λ v q. ap length (more-own m s v)))
    (λ u l ne. sum-one n t (λ v. length (more m s u v)) (λ v. length (s.mail u v)) h
    (ap length (more-at m s u ne) ∙ length_push (s.mail u t) m)
    (λ v q off. ap length (more-of m s u v off)))

-- ---- none waits

sum-zero : (n k : ℕ) (f : ℕ → ℕ) → sum_below n f ≡ 0 → k < n → f k ≡ 0
sum-zero zero k f e h = absurd (omega arith)
sum-zero (suc n) k f e h =
    elim (cases_eq k n) [
      | inl q ↦ ap f q ∙ omega arith
      | inr q ↦ sum-zero n k f (omega arith) (omega (arith, λ (r : k ≡ n). q r))
    ]

pub waiting-none : (n to from : ℕ) (s : Space) → waiting_in n s ≡ 0 → to < n → from < n → length (s.mail to from) ≡ 0
waiting-none n to from s e h k =
    sum-zero n from (λ v. length (s.mail to v)) (sum-zero n to (λ u. sum_below n (λ v. length (s.mail u v))) e h) k

sum-above : (n k : ℕ) (f : ℕ → ℕ) → k < n → f k ≤ sum_below n f
sum-above zero k f h = absurd (omega arith)
sum-above (suc n) k f h =
    elim (cases_eq k n) [
      | inl q ↦ let e = ap f q in omega arith
      | inr q ↦ let e = sum-above n k f (omega (arith, λ (r : k ≡ n). q r)) in omega arith
    ]

pub waiting-above : (n to from : ℕ) (s : Space) → to < n → from < n → length (s.mail to from) ≤ waiting_in n s
waiting-above n to from s h k =
    let row = sum-above n from (λ v. length (s.mail to v)) k in
    let all = sum-above n to (λ u. sum_below n (λ v. length (s.mail u v))) h in
    omega arith
