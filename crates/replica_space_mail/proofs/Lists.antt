-- Lists of deliveries, and the mail that is left after them.
use Rattle.std.proofs.Common.{◌≡◌, ◌≢◌, ℕ, ◌+◌, ◌<◌, ◌==◌, ◌&&◌, zero, suc, Bool, nat_lt, true, false, cond, List, [], ◌∷◌, ◌++◌, length, drop, refl, sym, ap, ◌∙◌, inl, inr, append_assoc, add-one, arith, eq-eqb}
use Rattle.std.proofs.lemmas.List.{append-nil, length-append, nil_from_length}
use Rattle.std.proofs.lemmas.Bool.{cases_Bool, cases_eq, cases_order, cond-true, cond-false, and_parts, eqb-true, ne_eqb, lt-ltb, le-ltb}
use Rattle.replica_space.specs.declared.message.Message.{Message}
use Rattle.replica_space.specs.declared.event.Event.{Event}
use Rattle.replica_space.specs.Events.{delivered}
use Rattle.replica_space.specs.Spaces.{Space, received}
use Rattle.replica_space.specs.Runs.{NoneWaits}
use Rattle.replica_space_copies.specs.layer.Counts.{sum_below, waiting_in}
use Rattle.replica_space_mail.specs.layer.Deliveries.{deliveries, deliveries_to, all_deliveries}

-- the first delivery, and the others
pub one-more : (es : List Event) (t to from : ℕ) (ms : List Message) → ms ≢ []
    → (es ++ delivered t to from ∷ []) ++ deliveries t to from (drop 1 ms) ≡ es ++ deliveries t to from ms
one-more es t to from [] h = absurd (h refl)
one-more es t to from (m ∷ ms) h = append_assoc es (delivered t to from ∷ []) (deliveries t to from ms)

pub received-mail : (to from u v : ℕ) (ms : List Message) (s : Space) → s.mail to from ≡ ms
    → (received to from ms s).mail u v ≡ cond ((u == to) && (v == from)) (drop 1 (s.mail u v)) (s.mail u v)
received-mail to from u v [] s e =
    elim (cases_Bool ((u == to) && (v == from))) [
      | inl b ↦
          let here = at b in
          here ∙ sym (ap (drop 1) here) ∙ sym (cond-true ((u == to) && (v == from)) (drop 1 (s.mail u v)) (s.mail u v) b)
      | inr b ↦ sym (cond-false ((u == to) && (v == from)) (drop 1 (s.mail u v)) (s.mail u v) b)
    ]
  where
    at : ((u == to) && (v == from)) ≡ true → s.mail u v ≡ []
    at b = let p = and_parts (u == to) (v == from) b in ap (λ k. s.mail k v) (eqb-true u to p.0) ∙ ap (s.mail to) (eqb-true v from p.1) ∙ e
received-mail to from u v (m ∷ ms) s e =
    elim (cases_Bool ((u == to) && (v == from))) [
      | inl b ↦
          cond-true ((u == to) && (v == from)) ms (s.mail u v) b
          ∙ sym (ap (drop 1) (at b))
          ∙ sym (cond-true ((u == to) && (v == from)) (drop 1 (s.mail u v)) (s.mail u v) b)
      | inr b ↦
          cond-false ((u == to) && (v == from)) ms (s.mail u v) b
          ∙ sym (cond-false ((u == to) && (v == from)) (drop 1 (s.mail u v)) (s.mail u v) b)
    ]
  where
    at : ((u == to) && (v == from)) ≡ true → s.mail u v ≡ m ∷ ms
    at b = let p = and_parts (u == to) (v == from) b in ap (λ k. s.mail k v) (eqb-true u to p.0) ∙ ap (s.mail to) (eqb-true v from p.1) ∙ e

pub to-same : (t to n : ℕ) (s r : Space) → ((v : ℕ) → v < n → s.mail to v ≡ r.mail to v) → deliveries_to t to n s ≡ deliveries_to t to n r
to-same t to zero s r h = refl
to-same t to (suc n) s r h =
    ap (λ l. l ++ deliveries t to n (s.mail to n)) (to-same t to n s r (λ v l. h v (omega arith)))
    ∙ ap (λ ms. deliveries_to t to n r ++ deliveries t to n ms) (h n (omega arith))

pub all-same : (t k n : ℕ) (s r : Space) → ((u v : ℕ) → u < n → v < k → s.mail u v ≡ r.mail u v) → all_deliveries t k n s ≡ all_deliveries t k n r
all-same t k zero s r h = refl
all-same t k (suc n) s r h =
    ap (λ l. l ++ deliveries_to t n k s) (all-same t k n s r (λ u v l g. h u v (omega arith) g))
    ∙ ap (λ l. all_deliveries t k n r ++ l) (to-same t n k s r (λ v g. h n v (omega arith) g))

-- one more sender
pub to-next : (es now new : List Event) (t to n : ℕ) (s : Space) (ms : List Message) → now ≡ es ++ deliveries_to t to n s → ms ≡ s.mail to n
    → new ≡ now ++ deliveries t to n ms → new ≡ es ++ deliveries_to t to (n + 1) s
to-next es now new t to n s ms e k h =
    h ∙ ap (λ l. now ++ deliveries t to n l) k ∙ ap (λ l. l ++ deliveries t to n (s.mail to n)) e
    ∙ append_assoc es (deliveries_to t to n s) (deliveries t to n (s.mail to n))
    ∙ rw add-one refl

-- one more receiver
pub all-next : (es now new : List Event) (t k n : ℕ) (s r : Space) → now ≡ es ++ all_deliveries t k n s → ((v : ℕ) → v < k → r.mail n v ≡ s.mail n v)
    → new ≡ now ++ deliveries_to t n k r → new ≡ es ++ all_deliveries t k (n + 1) s
all-next es now new t k n s r e m h =
    h ∙ ap (λ l. now ++ l) (to-same t n k r s m) ∙ ap (λ l. l ++ deliveries_to t n k s) e
    ∙ append_assoc es (all_deliveries t k n s) (deliveries_to t n k s)
    ∙ rw add-one refl

-- mail that is taken sender by sender
pub row-next : (b : Bool) (v n : ℕ) (x now : List Message) → now ≡ cond (b && nat_lt v n) [] x
    → cond (b && (v == n)) [] now ≡ cond (b && nat_lt v (n + 1)) [] x
row-next false v n x now e = e
row-next true v n x now e =
    elim (cases_order v n) [
      | inl q ↦ cond-true (v == n) [] now (eq-eqb v n q) ∙ sym (cond-true (nat_lt v (n + 1)) [] x (lt-ltb v (n + 1) (omega arith)))
      | inr r ↦
          elim r [
            | inl q ↦
                cond-false (v == n) [] now (ne_eqb v n (λ k. absurd (omega arith))) ∙ e
                ∙ cond-true (nat_lt v n) [] x (lt-ltb v n q) ∙ sym (cond-true (nat_lt v (n + 1)) [] x (lt-ltb v (n + 1) (omega arith)))
            | inr q ↦
                cond-false (v == n) [] now (ne_eqb v n (λ k. absurd (omega arith))) ∙ e
                ∙ cond-false (nat_lt v n) [] x (le-ltb v n (omega arith)) ∙ sym (cond-false (nat_lt v (n + 1)) [] x (le-ltb v (n + 1) (omega arith)))
          ]
    ]

-- all senders are done
pub row-end : (b : Bool) (v n : ℕ) (x : List Message) → v < n → cond (b && nat_lt v n) [] x ≡ cond b [] x
row-end false v n x h = refl
row-end true v n x h = cond-true (nat_lt v n) [] x (lt-ltb v n h)

pub nil-from : (ms : List Message) → ¬ (ms ≢ []) → ms ≡ []
nil-from [] h = refl
nil-from (m ∷ ms) h = absurd (h (λ e. cc))

-- where no mail waits, none is delivered
pub none-more : (es : List Event) (t to from : ℕ) (ms : List Message) → ms ≡ []
    → es ++ deliveries t to from (drop 1 ms) ≡ es ++ deliveries t to from ms
none-more es t to from ms e =
    ap (λ l. es ++ deliveries t to from (drop 1 l)) e ∙ sym (ap (λ l. es ++ deliveries t to from l) e)

-- all mail is delivered where none is left
pub all-gone : (es now new : List Event) (t to from : ℕ) (ms old : List Message) → ms ≡ []
    → new ++ deliveries t to from (drop 1 ms) ≡ now ++ deliveries t to from ms → now ++ deliveries t to from ms ≡ es ++ deliveries t to from old
    → new ≡ es ++ deliveries t to from old
all-gone es now new t to from ms old e h k =
    sym (append-nil new) ∙ sym (ap (λ l. new ++ deliveries t to from (drop 1 l)) e) ∙ h ∙ k

-- mail of the one pair is gone, and all other mail is there
pub gone-at : (b : Bool) (x now first : List Message) → (b ≡ true → now ≡ []) → (b ≡ false → now ≡ first) → x ≡ cond b (drop 1 now) now
    → x ≡ cond b [] first
gone-at true x now first h k e = e ∙ ap (drop 1) (h refl)
gone-at false x now first h k e = e ∙ k refl

-- ---- how many deliveries there are

deliveries-count : (t to from : ℕ) (ms : List Message) → length (deliveries t to from ms) ≡ length ms
deliveries-count t to from [] = refl
deliveries-count t to from (m ∷ ms) = ap suc (deliveries-count t to from ms)

to-count : (t to n : ℕ) (s : Space) → length (deliveries_to t to n s) ≡ sum_below n (λ from. length (s.mail to from))
to-count t to zero s = refl
to-count t to (suc n) s =
    length-append (deliveries_to t to n s) (deliveries t to n (s.mail to n))
    ∙ ap (λ k. k + length (deliveries t to n (s.mail to n))) (to-count t to n s)
    ∙ ap (λ k. sum_below n (λ from. length (s.mail to from)) + k) (deliveries-count t to n (s.mail to n))

all-count : (t k n : ℕ) (s : Space) → length (all_deliveries t k n s) ≡ sum_below n (λ to. sum_below k (λ from. length (s.mail to from)))
all-count t k zero s = refl
all-count t k (suc n) s =
    length-append (all_deliveries t k n s) (deliveries_to t n k s)
    ∙ ap (λ j. j + length (deliveries_to t n k s)) (all-count t k n s)
    ∙ ap (λ j. sum_below n (λ to. sum_below k (λ from. length (s.mail to from))) + j) (to-count t n k s)

-- each message that waits is delivered once
pub each-once : (es new : List Event) (t n m w : ℕ) (s : Space) → new ≡ es ++ all_deliveries t n n s → n ≡ m → w ≡ waiting_in m s
    → length new ≡ length es + w
each-once es new t n m w s e q h =
    ap length e ∙ length-append es (all_deliveries t n n s) ∙ ap (λ k. length es + k) (all-count t n n s ∙ ap (λ k. waiting_in k s) q ∙ sym h)

none-below : (n i : ℕ) (f : ℕ → ℕ) → sum_below n f ≡ 0 → i < n → f i ≡ 0
none-below zero i f e h = absurd (omega arith)
none-below (suc n) i f e h =
    elim (cases_eq i n) [
      | inl q ↦ ap f q ∙ omega arith
      | inr q ↦ none-below n i f (omega arith) (omega (arith, λ (r : i ≡ n). q r))
    ]

-- where the count of waiting messages is 0, none waits
pub none-waits : (n m : ℕ) (s : Space) → n ≡ m → waiting_in m s ≡ 0 → NoneWaits n s
none-waits n m s q e to from h k =
    nil_from_length (s.mail to from)
    (none-below m from (λ v. length (s.mail to v)) (none-below m to (λ u. sum_below m (λ v. length (s.mail u v))) e (omega arith)) (omega arith))

-- and none is delivered
pub none-delivered : (es : List Event) (t n m : ℕ) (s : Space) → n ≡ m → waiting_in m s ≡ 0 → es ≡ es ++ all_deliveries t n n s
none-delivered es t n m s q e =
    sym (append-nil es)
    ∙ ap (λ l. es ++ l) (sym (nil_from_length (all_deliveries t n n s) (all-count t n n s ∙ ap (λ k. waiting_in k s) q ∙ e)))
