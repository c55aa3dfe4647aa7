-- Clocks and mail after each step.
use Rattle.std.proofs.Common.{◌≡◌, ◌≢◌, ℕ, ◌+◌, ◌<◌, ◌≤◌, ◌==◌, ◌&&◌, zero, suc, nat_lt, true, not, List, [], ◌∷◌, ◌++◌, sym, ap, ◌∙◌, subst, inl, inr, arith}
use Rattle.std.proofs.lemmas.Bool.{cases_eq, cond_both, cond-false, ne_eqb, and_parts, and_left, eqb-true}
use Rattle.upc_values.specs.Lists.{Each}
use Rattle.upc_values.proofs.Membership.{each-append}
use Rattle.replica_space.specs.declared.message.Message.{Message}
use Rattle.replica_space.specs.Spaces.{Space, greater, greatest, with_sent, sent, received, met, spread}
use Rattle.replica_space_copies.specs.layer.Same.{IsSame}
use Rattle.replica_space_copies.specs.code.Sound.{IsLow}
use Rattle.replica_space_copies.proofs.Waiting.{more-own}

-- no message has a clock above this
abbrev AreBelow : ℕ → List Message → Type 0
AreBelow w ms = Each (λ (m : Message). m.stamp.clock ≤ w) ms

below-more : (w x : ℕ) (ms : List Message) → w ≤ x → AreBelow w ms → AreBelow x ms
below-more w x [] h e = tt
below-more w x (m ∷ ms) h e = (omega (arith, e.0), below-more w x ms h e.1)

pub low-same : (n w : ℕ) (s r : Space) → IsSame n r s → IsLow n w s → IsLow n w r
low-same n w s r h low = record {
  own = λ t l. h.mail t t l l ∙ low.own t l;
  clock = λ t l. omega (arith, h.clock t l, low.clock t l);
  mail = λ to from l k. subst (AreBelow w) (sym (h.mail to from l k)) (low.mail to from l k);
}

pub low-sent : (n w : ℕ) (m : Message) (s : Space) → m.stamp.clock ≤ w + 1 → IsLow n w s → IsLow n (w + 1) (sent m s)
low-sent n w m s h low = record {
  own = λ t l.
      elim (cases_eq t m.stamp.thread) [
        | inl e ↦ ap (λ k. with_sent m k k (s.mail k k)) e ∙ more-own m s m.stamp.thread ∙ ap (λ k. s.mail k k) (sym e) ∙ low.own t l
        | inr e ↦ own-of t e ∙ low.own t l
      ];
  clock = λ t l. cond_both (t == m.stamp.thread) m.stamp.clock (s.clock t) (λ k. k ≤ w + 1) (λ e. h) (λ e. omega (arith, low.clock t l));
  mail = λ to from l k.
      let old = below-more w (w + 1) (s.mail to from) (omega arith) (low.mail to from l k) in
      cond_both ((from == m.stamp.thread) && not (to == from)) (s.mail to from ++ m ∷ []) (s.mail to from) (AreBelow (w + 1))
      (λ e. each-append (λ (x : Message). x.stamp.clock ≤ w + 1) (s.mail to from) (m ∷ []) old (h, tt))
      (λ e. old);
}
  where
    own-of : (t : ℕ) → t ≢ m.stamp.thread → with_sent m t t (s.mail t t) ≡ s.mail t t
    own-of t e =
        cond-false ((t == m.stamp.thread) && not (t == t)) (s.mail t t ++ m ∷ []) (s.mail t t)
        (and_left (t == m.stamp.thread) (not (t == t)) (ne_eqb t m.stamp.thread e))

pub low-received : (n w to from : ℕ) (m : Message) (ms : List Message) (s : Space) → to < n → from < n → s.mail to from ≡ m ∷ ms
    → IsLow n w s → IsLow n w (received to from (m ∷ ms) s)
low-received n w to from m ms s h k e low =
    let all : AreBelow w (m ∷ ms) = subst (AreBelow w) e (low.mail to from h k) in
    record {
      own = λ t l.
          cond_both ((t == to) && (t == from)) ms (s.mail t t) (λ x. x ≡ []) (λ b. absurd (mine t l b)) (λ b. low.own t l);
      clock = λ t l.
          let old = low.clock t l in
          cond_both (t == to) (greater (s.clock t) m.stamp.clock) (s.clock t) (λ x. x ≤ w)
          (λ b. cond_both (nat_lt (s.clock t) m.stamp.clock) m.stamp.clock (s.clock t) (λ x. x ≤ w) (λ q. all.0) (λ q. old))
          (λ b. old);
      mail = λ u v l q. cond_both ((u == to) && (v == from)) ms (s.mail u v) (AreBelow w) (λ b. all.1) (λ b. low.mail u v l q);
    }
  where
    mine : (t : ℕ) → t < n → ((t == to) && (t == from)) ≡ true → ⊥
    mine t l b =
        let p = and_parts (t == to) (t == from) b in
        let q : s.mail t t ≡ m ∷ ms = ap (λ u. s.mail u t) (eqb-true t to p.0) ∙ ap (λ v. s.mail to v) (eqb-true t from p.1) ∙ e in
        let nil : [] ≡ m ∷ ms = sym (low.own t l) ∙ q in
        cc

greatest-low : (n w : ℕ) (f : ℕ → ℕ) → ((t : ℕ) → t < n → f t ≤ w) → greatest n f ≤ w
greatest-low zero w f h = omega arith
greatest-low (suc n) w f h =
    cond_both (nat_lt (greatest n f) (f n)) (f n) (greatest n f) (λ k. k ≤ w) (λ e. h n (omega arith))
    (λ e. greatest-low n w f (λ t l. h t (omega arith)))

pub low-met : (n w : ℕ) (s : Space) → IsLow n w s → IsLow n w (met n s)
low-met n w s low = record { own = low.own; clock = λ t l. greatest-low n w s.clock low.clock; mail = low.mail }

pub low-spread : (n w : ℕ) (m : Message) (s : Space) → IsLow n w s → IsLow n (w + 1) (spread m s)
low-spread n w m s low = record {
  own = low.own;
  clock = λ t l. omega (arith, low.clock t l);
  mail = λ to from l k. below-more w (w + 1) (s.mail to from) (omega arith) (low.mail to from l k);
}
