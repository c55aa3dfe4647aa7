-- Numbers by thread.
use Rattle.std.proofs.Common.{◌≡◌, ℕ, ◌+◌, ◌<◌, ◌≤◌, ◌==◌, nat_lt, max, cond, true, false, List, [], ◌∷◌, ◌++◌, length, get_or, set, refl, sym, ap, inl, inr, eq-eqb, eqb-true, arith}
use Rattle.std.proofs.lemmas.Bool.{cases_eq, cases_lt, cond-true, cond-false, cond_both, ne_eqb, lt-ltb, ltb-true}
use Rattle.std.proofs.lemmas.List.{get_or-set_same, get_or-set_other, get_or_past}

-- a zero at the end changes no number
pub zero-end : (xs : List ℕ) (u : ℕ) → get_or (xs ++ 0 ∷ []) u 0 ≡ get_or xs u 0
zero-end [] ℕ.zero = refl
zero-end [] (ℕ.suc u) = refl
zero-end (x ∷ xs) ℕ.zero = refl
zero-end (x ∷ xs) (ℕ.suc u) = zero-end xs u

-- a number is raised
pub raised : (xs : List ℕ) (t n u : ℕ) → t < length xs → get_or xs t 0 < n
    → get_or (set xs t n) u 0 ≡ max (get_or xs u 0) (cond (t == u) n 0)
raised xs t n u lt up =
    cond_both {A = ℕ} (t == u) n 0 (λ z. get_or (set xs t n) u 0 ≡ max (get_or xs u 0) z)
    (λ e.
    let q : t ≡ u = eqb-true t u e in
    let new : get_or (set xs t n) t 0 ≡ n = get_or-set_same xs t n 0 lt in
    let a : get_or (set xs t n) u 0 ≡ get_or (set xs t n) t 0 = ap (λ z. get_or (set xs t n) z 0) (sym q) in
    let b : get_or xs u 0 ≡ get_or xs t 0 = ap (λ z. get_or xs z 0) (sym q) in
    omega arith)
    (λ e.
    let old : get_or (set xs t n) u 0 ≡ get_or xs u 0 =
    get_or-set_other xs t u n 0 (λ q. absurd (differ t u e q)) in
    omega arith)
  where
    differ : (a b : ℕ) → (a == b) ≡ false → b ≡ a → ⊥
    differ a b e q = let k : (a == b) ≡ true = eq-eqb a b (sym q) in absurd cc

-- or is so already
pub raised-already : (xs : List ℕ) (t n u : ℕ) → n ≤ get_or xs t 0 → get_or xs u 0 ≡ max (get_or xs u 0) (cond (t == u) n 0)
raised-already xs t n u up =
    cond_both {A = ℕ} (t == u) n 0 (λ z. get_or xs u 0 ≡ max (get_or xs u 0) z)
    (λ e.
    let b : get_or xs u 0 ≡ get_or xs t 0 = ap (λ z. get_or xs z 0) (sym (eqb-true t u e)) in
    omega arith)
    (λ e. omega arith)

-- the numbers below t are joined
abbrev pub joined_below : List ℕ → ℕ → ℕ → ℕ
joined_below ys t u = cond (nat_lt u t) (get_or ys u 0) 0

joined-at : (ys : List ℕ) (t u : ℕ) → max (joined_below ys t u) (cond (t == u) (get_or ys t 0) 0) ≡ joined_below ys (t + 1) u
joined-at ys t u =
    elim (cases_lt u t) [
      | inl l ↦
          let a : joined_below ys t u ≡ get_or ys u 0 = cond-true (nat_lt u t) (get_or ys u 0) 0 (lt-ltb u t l) in
          let b : cond {A = ℕ} (t == u) (get_or ys t 0) 0 ≡ 0 = cond-false (t == u) (get_or ys t 0) 0 (ne_eqb t u (λ q. absurd (omega arith))) in
          let c : joined_below ys (t + 1) u ≡ get_or ys u 0 = cond-true (nat_lt u (t + 1)) (get_or ys u 0) 0 (lt-ltb u (t + 1) (omega arith)) in
          omega arith
      | inr g ↦
          let a : joined_below ys t u ≡ 0 =
          cond_both {A = ℕ} (nat_lt u t) (get_or ys u 0) 0 (λ z. z ≡ 0) (λ e. let k = ltb-true u t e in absurd (omega arith)) (λ e. refl) in
          elim (cases_eq t u) [
            | inl q ↦
                let b : cond {A = ℕ} (t == u) (get_or ys t 0) 0 ≡ get_or ys t 0 = cond-true (t == u) (get_or ys t 0) 0 (eq-eqb t u q) in
                let c : joined_below ys (t + 1) u ≡ get_or ys u 0 = cond-true (nat_lt u (t + 1)) (get_or ys u 0) 0 (lt-ltb u (t + 1) (omega arith)) in
                let d : get_or ys t 0 ≡ get_or ys u 0 = ap (λ z. get_or ys z 0) q in
                omega arith
            | inr n ↦
                let b : cond {A = ℕ} (t == u) (get_or ys t 0) 0 ≡ 0 = cond-false (t == u) (get_or ys t 0) 0 (ne_eqb t u n) in
                let c : joined_below ys (t + 1) u ≡ 0 =
                cond_both {A = ℕ} (nat_lt u (t + 1)) (get_or ys u 0) 0 (λ z. z ≡ 0)
                (λ e. let k = ltb-true u (t + 1) e in absurd (n (omega arith))) (λ e. refl) in
                omega arith
          ]
    ]

-- one more number is joined
pub joined-more : (now old first : ℕ) (ys : List ℕ) (t u : ℕ) → now ≡ max old (cond (t == u) (get_or ys t 0) 0) → old ≡ max first (joined_below ys t u)
    → now ≡ max first (joined_below ys (t + 1) u)
joined-more now old first ys t u e q = let k = joined-at ys t u in omega arith

-- all are
pub joined-all : (ys : List ℕ) (t u : ℕ) → length ys ≤ t → joined_below ys t u ≡ get_or ys u 0
joined-all ys t u l =
    cond_both {A = ℕ} (nat_lt u t) (get_or ys u 0) 0 (λ z. z ≡ get_or ys u 0) (λ e. refl)
    (λ e. elim (cases_lt u t) [
      | inl k ↦ let h : nat_lt u t ≡ true = lt-ltb u t k in absurd cc
      | inr k ↦ sym (get_or_past ys u 0 (omega arith))
    ])
