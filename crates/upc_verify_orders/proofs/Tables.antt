-- Places of the strict list looked up in the points of a thread.
use Rattle.std.proofs.Common.{◌≡◌, ◌↔◌, ℕ, ◌+◌, ◌<◌, ◌≤◌, ◌==◌, nat_lt, nat_le, ◌&&◌, Bool, true, false, cond, List, [], ◌∷◌, ◌++◌, length, get_or, take, drop, refl, sym, ap, ◌∙◌, subst, inl, inr, arith, eq-eqb, eqb-true, leb-true, le-leb, lt-ltb, length-take, append-nil, ne_eqb}
use Rattle.std.proofs.lemmas.List.{take_more, drop_more, get_or_default}
use Rattle.std.proofs.lemmas.List.FromFn.{length-map-range_with_len, get_or-map-range_with_len, map-range_with_len_more}
use Rattle.std.proofs.lemmas.Bool.{cases_order, cases_Bool, cond_both, cond-true, cond-false, false≢true}
use Rattle.upc_values.specs.declared.order.Op.{Op}
use Rattle.upc_values.specs.Lists.{Each, Pairwise}
use Rattle.upc_values.proofs.Lists.{each-at}
use Rattle.upc_verify_orders.specs.declared.table.Point.{Point}
use Rattle.upc_verify_orders.specs.layer.Reach.{one_more, behind_last, first_place}
use Rattle.upc_verify_orders.specs.code.Tables.{op_rank, is_until, is_from, reached, reaches, InThread, points, tables, up_to, from_on}

abbrev pub point : ℕ → ℕ → Point
point r n = record { rank = r; place = n }

-- one member more
pub points-more : (t n : ℕ) (xs : List Op) (y : Op) → points t n (xs ++ y ∷ []) ≡ points t n xs ++ cond (y.thread == t) (point (op_rank y) (n + length xs) ∷ []) []
points-more t n [] y =
    cond_both (y.thread == t) (point (op_rank y) n ∷ []) [] (λ l. l ≡ cond (y.thread == t) (point (op_rank y) (n + 0) ∷ []) [])
    (λ e. sym (cond-true (y.thread == t) (point (op_rank y) (n + 0) ∷ []) [] e ∙ ap (λ k. point (op_rank y) k ∷ []) (let k : n + 0 ≡ n = omega arith in k)))
    (λ e. sym (cond-false (y.thread == t) (point (op_rank y) (n + 0) ∷ []) [] e))
points-more t n (x ∷ xs) y =
    let last = cond (y.thread == t) (point (op_rank y) (n + length (x ∷ xs)) ∷ []) [] in
    let more : points t (n + 1) (xs ++ y ∷ []) ≡ points t (n + 1) xs ++ last =
    points-more t (n + 1) xs y
    ∙ ap (λ k. points t (n + 1) xs ++ cond (y.thread == t) (point (op_rank y) k ∷ []) []) (let k : n + 1 + length xs ≡ n + length (x ∷ xs) = omega arith in k) in
    elim (cases_Bool (x.thread == t)) [
      | inl e ↦
          cond-true (x.thread == t) (point (op_rank x) n ∷ points t (n + 1) (xs ++ y ∷ [])) (points t (n + 1) (xs ++ y ∷ [])) e
          ∙ ap (λ l. point (op_rank x) n ∷ l) more
          ∙ ap (λ l. l ++ last) (sym (cond-true (x.thread == t) (point (op_rank x) n ∷ points t (n + 1) xs) (points t (n + 1) xs) e))
      | inr e ↦
          cond-false (x.thread == t) (point (op_rank x) n ∷ points t (n + 1) (xs ++ y ∷ [])) (points t (n + 1) (xs ++ y ∷ [])) e
          ∙ more
          ∙ ap (λ l. l ++ last) (sym (cond-false (x.thread == t) (point (op_rank x) n ∷ points t (n + 1) xs) (points t (n + 1) xs) e))
    ]

-- the points of a list in program order ascend
ranks-above : (t n r : ℕ) (ss : List Op) → Each (λ b. b.thread ≡ t → r < op_rank b) ss → Each (λ p. r < p.rank) (points t n ss)
ranks-above t n r [] h = tt
ranks-above t n r (s ∷ ss) h =
    cond_both (s.thread == t) (point (op_rank s) n ∷ points t (n + 1) ss) (points t (n + 1) ss) (Each (λ p. r < p.rank))
    (λ e. (h.0 (eqb-true s.thread t e), ranks-above t (n + 1) r ss h.1))
    (λ e. ranks-above t (n + 1) r ss h.1)

pub ascending : (t n : ℕ) (ss : List Op) → Pairwise InThread ss → Pairwise (λ a b. a.rank < b.rank) (points t n ss)
ascending t n [] h = tt
ascending t n (s ∷ ss) h =
    cond_both (s.thread == t) (point (op_rank s) n ∷ points t (n + 1) ss) (points t (n + 1) ss) (Pairwise (λ a b. a.rank < b.rank))
    (λ e. (ranks-above t (n + 1) (op_rank s) ss (of-thread (eqb-true s.thread t e) ss h.0), ascending t (n + 1) ss h.1))
    (λ e. ascending t (n + 1) ss h.1)
  where
    of-thread : s.thread ≡ t → (ys : List Op) → Each (InThread s) ys → Each (λ b. b.thread ≡ t → op_rank s < op_rank b) ys
    of-thread e [] k = tt
    of-thread e (y ∷ ys) k = ((λ q. k.0 (e ∙ sym q)), of-thread e ys k.1)

-- each place lies in the list
pub within : (t n : ℕ) (ss : List Op) → Each (λ p. p.place < n + length ss) (points t n ss)
within t n [] = tt
within t n (s ∷ ss) =
    let rest : Each (λ p. p.place < n + length (s ∷ ss)) (points t (n + 1) ss) = wider (points t (n + 1) ss) (within t (n + 1) ss) in
    cond_both (s.thread == t) (point (op_rank s) n ∷ points t (n + 1) ss) (points t (n + 1) ss) (Each (λ p. p.place < n + length (s ∷ ss)))
    (λ e. (omega arith, rest)) (λ e. rest)
  where
    wider : (ps : List Point) → Each (λ p. p.place < n + 1 + length ss) ps → Each (λ p. p.place < n + length (s ∷ ss)) ps
    wider [] h = tt
    wider (p ∷ ps) h = (let k = h.0 in omega arith, wider ps h.1)

-- what is found among the points
abbrev pub put : ℕ → ℕ → ℕ
put n ℕ.zero = 0
put n (ℕ.suc k) = n + ℕ.suc k

up-cons : (u : ℕ) (b : Bool) (n k : ℕ) → u ≡ put (n + 1) k → cond (nat_lt 0 u) u (cond b (n + 1) 0) ≡ put n (one_more b k)
up-cons u b n (ℕ.suc k) e =
    cond-true (nat_lt 0 u) u (cond b (n + 1) 0) (lt-ltb 0 u (omega (arith, e))) ∙ omega (arith, e)
up-cons u true n ℕ.zero e =
    cond-false (nat_lt 0 u) u (n + 1) (subst (λ z. nat_lt 0 z ≡ false) (sym e) refl) ∙ omega arith
up-cons u false n ℕ.zero e = cond-false (nat_lt 0 u) u 0 (subst (λ z. nat_lt 0 z ≡ false) (sym e) refl)

up-skip : (u n k : ℕ) → u ≡ put (n + 1) k → u ≡ put n (one_more false k)
up-skip u n ℕ.zero e = e
up-skip u n (ℕ.suc k) e = omega (arith, e)

and-first : (x y : Bool) → x ≡ true → (x && y) ≡ y
and-first true y e = refl
and-first false y e = absurd (false≢true e)

and-none : (x y : Bool) → x ≡ false → (x && y) ≡ false
and-none true y e = absurd (false≢true (sym e))
and-none false y e = refl

pub up-found : (o : Op) (n : ℕ) (ss : List Op) → up_to (op_rank o) (points o.thread n ss) ≡ put n (behind_last (is_until o) ss)
up-found o n [] = refl
up-found o n (s ∷ ss) =
    let rest = points o.thread (n + 1) ss in
    let k = behind_last (is_until o) ss in
    let ind = up-found o (n + 1) ss in
    let test = nat_le (op_rank s) (op_rank o) in
    elim (cases_Bool (s.thread == o.thread)) [
      | inl e ↦
          ap (up_to (op_rank o)) (cond-true (s.thread == o.thread) (point (op_rank s) n ∷ rest) rest e)
          ∙ up-cons (up_to (op_rank o) rest) test n k ind
          ∙ ap (λ b. put n (one_more b k)) (sym (and-first (s.thread == o.thread) test e))
      | inr e ↦
          ap (up_to (op_rank o)) (cond-false (s.thread == o.thread) (point (op_rank s) n ∷ rest) rest e)
          ∙ up-skip (up_to (op_rank o) rest) n k ind
          ∙ ap (λ b. put n (one_more b k)) (sym (and-none (s.thread == o.thread) test e))
    ]

put-zero : (k : ℕ) → put 0 k ≡ k
put-zero ℕ.zero = refl
put-zero (ℕ.suc k) = omega arith

pub reached-found : (o : Op) (ss : List Op) → up_to (op_rank o) (points o.thread 0 ss) ≡ reached ss o
reached-found o ss = up-found o 0 ss ∙ put-zero (reached ss o)

from-cons : (b : Bool) (n f : ℕ) (u : ℕ) → u ≡ n + 1 + f → cond b n u ≡ n + cond b 0 (f + 1)
from-cons true n f u e = omega arith
from-cons false n f u e = omega (arith, e)

pub from-found : (o : Op) (n : ℕ) (ss : List Op) → from_on (op_rank o) (n + length ss) (points o.thread n ss) ≡ n + first_place (is_from o) ss
from-found o n [] = refl
from-found o n (s ∷ ss) =
    let rest = points o.thread (n + 1) ss in
    let none = n + length (s ∷ ss) in
    let f = first_place (is_from o) ss in
    let same : n + 1 + length ss ≡ none = omega arith in
    let ind : from_on (op_rank o) none rest ≡ n + 1 + f = subst (λ z. from_on (op_rank o) z rest ≡ n + 1 + f) same (from-found o (n + 1) ss) in
    let test = nat_le (op_rank o) (op_rank s) in
    elim (cases_Bool (s.thread == o.thread)) [
      | inl e ↦
          ap (from_on (op_rank o) none) (cond-true (s.thread == o.thread) (point (op_rank s) n ∷ rest) rest e)
          ∙ from-cons test n f (from_on (op_rank o) none rest) ind
          ∙ ap (λ b. n + cond b 0 (f + 1)) (sym (and-first (s.thread == o.thread) test e))
      | inr e ↦
          ap (from_on (op_rank o) none) (cond-false (s.thread == o.thread) (point (op_rank s) n ∷ rest) rest e)
          ∙ from-cons false n f (from_on (op_rank o) none rest) ind
          ∙ ap (λ b. n + cond b 0 (f + 1)) (sym (and-none (s.thread == o.thread) test e))
    ]

pub reaches-found : (o : Op) (ss : List Op) → from_on (op_rank o) (length ss) (points o.thread 0 ss) ≡ reaches ss o
reaches-found o ss =
    ap (λ z. from_on (op_rank o) z (points o.thread 0 ss)) (let z : length ss ≡ 0 + length ss = omega arith in z)
    ∙ from-found o 0 ss ∙ (let z : 0 + reaches ss o ≡ reaches ss o = omega arith in z)

-- what halving finds
pub up-none : (r : ℕ) (ps : List Point) → ((i : ℕ) (d : Point) → i < length ps → r < (get_or ps i d).rank) → up_to r ps ≡ 0
up-none r [] h = refl
up-none r (p ∷ ps) h =
    let rest = up-none r ps (λ i d lt. h (ℕ.suc i) d (omega arith)) in
    let first : r < p.rank = h 0 p (omega arith) in
    cond-false (nat_lt 0 (up_to r ps)) (up_to r ps) (cond (nat_le p.rank r) (p.place + 1) 0) (subst (λ z. nat_lt 0 z ≡ false) (sym rest) refl)
    ∙ cond-false (nat_le p.rank r) (p.place + 1) 0 (not-le p.rank r first)
  where
    not-le : (a b : ℕ) → b < a → nat_le a b ≡ false
    not-le a b lt = elim (cases_Bool (nat_le a b)) [ inl t ↦ let k = leb-true a b t in absurd (omega arith) | inr f ↦ f ]

pub up-at : (r : ℕ) (ps : List Point) (n : ℕ) (d : Point) → n < length ps → (get_or ps n d).rank ≤ r → ((i : ℕ) (e : Point) → n < i → i < length ps → r < (get_or ps i e).rank) → up_to r ps ≡ (get_or ps n d).place + 1
up-at r [] n d lt h above = absurd (omega arith)
up-at r (p ∷ ps) ℕ.zero d lt h above =
    let rest = up-none r ps (λ i e l. above (ℕ.suc i) e (omega arith) (omega arith)) in
    cond-false (nat_lt 0 (up_to r ps)) (up_to r ps) (cond (nat_le p.rank r) (p.place + 1) 0) (subst (λ z. nat_lt 0 z ≡ false) (sym rest) refl)
    ∙ cond-true (nat_le p.rank r) (p.place + 1) 0 (le-leb p.rank r h)
up-at r (p ∷ ps) (ℕ.suc n) d lt h above =
    let rest = up-at r ps n d (omega arith) h (λ i e l m. above (ℕ.suc i) e (omega arith) (omega arith)) in
    cond-true (nat_lt 0 (up_to r ps)) (up_to r ps) (cond (nat_le p.rank r) (p.place + 1) 0) (lt-ltb 0 (up_to r ps) (omega (arith, rest)))
    ∙ rest

pub from-none : (r none : ℕ) (ps : List Point) → ((i : ℕ) (d : Point) → i < length ps → (get_or ps i d).rank < r) → from_on r none ps ≡ none
from-none r none [] h = refl
from-none r none (p ∷ ps) h =
    let first : p.rank < r = h 0 p (omega arith) in
    cond-false (nat_le r p.rank) p.place (from_on r none ps) (not-le r p.rank first)
    ∙ from-none r none ps (λ i d lt. h (ℕ.suc i) d (omega arith))
  where
    not-le : (a b : ℕ) → b < a → nat_le a b ≡ false
    not-le a b lt = elim (cases_Bool (nat_le a b)) [ inl t ↦ let k = leb-true a b t in absurd (omega arith) | inr f ↦ f ]

pub from-at : (r none : ℕ) (ps : List Point) (n : ℕ) (d : Point) → n < length ps → r ≤ (get_or ps n d).rank → ((i : ℕ) (e : Point) → i < n → (get_or ps i e).rank < r) → from_on r none ps ≡ (get_or ps n d).place
from-at r none [] n d lt h below = absurd (omega arith)
from-at r none (p ∷ ps) ℕ.zero d lt h below = cond-true (nat_le r p.rank) p.place (from_on r none ps) (le-leb r p.rank h)
from-at r none (p ∷ ps) (ℕ.suc n) d lt h below =
    let first : p.rank < r = below 0 p (omega arith) in
    cond-false (nat_le r p.rank) p.place (from_on r none ps) (not-le r p.rank first)
    ∙ from-at r none ps n d (omega arith) h (λ i e l. below (ℕ.suc i) e (omega arith))
  where
    not-le : (a b : ℕ) → b < a → nat_le a b ≡ false
    not-le a b lt = elim (cases_Bool (nat_le a b)) [ inl t ↦ let k = leb-true a b t in absurd (omega arith) | inr f ↦ f ]

-- points that ascend, by their numbers
pub ascend-at : (ps : List Point) → Pairwise (λ a b. a.rank < b.rank) ps → (i j : ℕ) (d e : Point) → i < j → j < length ps → (get_or ps i d).rank < (get_or ps j e).rank
ascend-at [] h i j d e lt within = absurd (omega arith)
ascend-at (p ∷ ps) h i ℕ.zero d e lt within = absurd (omega arith)
ascend-at (p ∷ ps) h ℕ.zero (ℕ.suc j) d e lt within = each-at ps h.0 j e (omega arith)
  where
    each-at : (qs : List Point) → Each (λ b. p.rank < b.rank) qs → (k : ℕ) (f : Point) → k < length qs → p.rank < (get_or qs k f).rank
    each-at [] h k f lt = absurd (omega arith)
    each-at (q ∷ qs) h ℕ.zero f lt = h.0
    each-at (q ∷ qs) h (ℕ.suc k) f lt = each-at qs h.1 k f (omega arith)
ascend-at (p ∷ ps) h (ℕ.suc i) (ℕ.suc j) d e lt within = ascend-at ps h.1 i j d e (omega arith) (omega arith)

-- what stands before a point of a lower rank, and behind one that is not lower
pub below-more : (ps : List Point) → Pairwise (λ a b. a.rank < b.rank) ps → (r m i : ℕ) (d e : Point) → m < length ps → (get_or ps m e).rank < r → i < m + 1 → (get_or ps i d).rank < r
below-more ps h r m i d e within low lt =
    elim (cases_order i m) [
      | inl q ↦
          subst (λ k. (get_or ps k d).rank < r) (sym q) (subst (λ p. p.rank < r) (get_or_default ps m e d within) low)
      | inr k ↦ elim k [
        | inl less ↦ let up = ascend-at ps h i m d e less within in omega (arith, up, low)
        | inr more ↦ absurd (omega arith)
      ]
    ]

pub above-more : (ps : List Point) → Pairwise (λ a b. a.rank < b.rank) ps → (r m i : ℕ) (d e : Point) → i < length ps → r ≤ (get_or ps m e).rank → m ≤ i → r ≤ (get_or ps i d).rank
above-more ps h r m i d e within high le =
    elim (cases_order m i) [
      | inl q ↦ subst (λ k. r ≤ (get_or ps k d).rank) q (subst (λ p. r ≤ p.rank) (get_or_default ps m e d (omega arith)) high)
      | inr k ↦ elim k [
        | inl less ↦ let up = ascend-at ps h m i e d less within in omega (arith, up, high)
        | inr more ↦ absurd (omega arith)
      ]
    ]

-- one member more, of the thread or not
pub point-more : (t : ℕ) (strict : List Op) (i : ℕ) (d : Op) (old new : List Point) → i < length strict → old ≡ points t 0 (take i strict) → (get_or strict i d).thread ≡ t → new ≡ old ++ point (op_rank (get_or strict i d)) i ∷ [] → new ≡ points t 0 (take (i + 1) strict)
point-more t strict i d old new lt e h q =
    let y = get_or strict i d in
    q ∙ ap (λ l. l ++ point (op_rank y) i ∷ []) e
    ∙ ap (λ k. points t 0 (take i strict) ++ point (op_rank y) k ∷ []) (let z : i ≡ 0 + length (take i strict) = omega (arith, length-take i strict) in z)
    ∙ ap (λ l. points t 0 (take i strict) ++ l) (sym (cond-true (y.thread == t) (point (op_rank y) (0 + length (take i strict)) ∷ []) [] (eq-eqb y.thread t h)))
    ∙ sym (points-more t 0 (take i strict) y)
    ∙ ap (points t 0) (sym (take_more strict i d lt))

pub point-skip : (t : ℕ) (strict : List Op) (i : ℕ) (d : Op) (old : List Point) → i < length strict → old ≡ points t 0 (take i strict) → ((get_or strict i d).thread ≡ t → ⊥) → old ≡ points t 0 (take (i + 1) strict)
point-skip t strict i d old lt e h =
    let y = get_or strict i d in
    e ∙ sym (append-nil (points t 0 (take i strict)))
    ∙ ap (λ l. points t 0 (take i strict) ++ l) (sym (cond-false (y.thread == t) (point (op_rank y) (0 + length (take i strict)) ∷ []) [] (ne_eqb y.thread t h)))
    ∙ sym (points-more t 0 (take i strict) y)
    ∙ ap (points t 0) (sym (take_more strict i d lt))

-- the tables
pub tables-next : (strict : List Op) (t : ℕ) (old new : List (List Point)) (ps : List Point) → new ≡ old ++ ps ∷ [] → old ≡ tables t strict → ps ≡ points t 0 strict → new ≡ tables (t + 1) strict
tables-next strict t old new ps h e k =
    h ∙ ap (λ l. l ++ ps ∷ []) e ∙ ap (λ p. tables t strict ++ p ∷ []) k
    ∙ sym (map-range_with_len_more (λ u. points u 0 strict) 0 t t (omega arith))

pub table-at : (strict : List Op) (ts : List (List Point)) (n t : ℕ) (d : List Point) → ts ≡ tables n strict → t < n → get_or ts t d ≡ points t 0 strict
table-at strict ts n t d e lt =
    ap (λ l. get_or l t d) e ∙ get_or-map-range_with_len (λ u. points u 0 strict) 0 n t t d lt (omega arith)

pub tables-length : (strict : List Op) (n : ℕ) → length (tables n strict) ≡ n
tables-length strict n = length-map-range_with_len (λ u. points u 0 strict) 0 n

-- the walk
module _ (strict : List Op) where
  abbrev pub R : Op → Op → Type 0
  R a b = reached strict a ≤ reaches strict b

  abbrev pub Above : ℕ → List Op → Type 0
  Above most os = Each (λ b. most ≤ reaches strict b) os × Pairwise R os

  raised : (m n : ℕ) (os : List Op) → m ≤ n → Each (λ b. n ≤ reaches strict b) os → Each (λ b. m ≤ reaches strict b) os
  raised m n [] h k = tt
  raised m n (o ∷ os) h k = (let x : n ≤ reaches strict o = k.0 in omega arith, raised m n os h k.1)

  both-above : (m n k : ℕ) (os : List Op) → ((z : ℕ) → m ≤ z → n ≤ z → k ≤ z) → Each (λ b. m ≤ reaches strict b) os → Each (λ b. n ≤ reaches strict b) os → Each (λ b. k ≤ reaches strict b) os
  both-above m n k [] f h g = tt
  both-above m n k (o ∷ os) f h g = (f (reaches strict o) h.0 g.0, both-above m n k os f h.1 g.1)

  pub walk-next : (m k : ℕ) (o : Op) (os : List Op) → m ≤ reaches strict o → m ≤ k → reached strict o ≤ k → ((z : ℕ) → m ≤ z → reached strict o ≤ z → k ≤ z) → (Above k os → Above m (o ∷ os)) × (Above m (o ∷ os) → Above k os)
  walk-next m k o os h a b f = (
    λ w. ((h, raised m k os a w.0), (raised (reached strict o) k os b w.0, w.1)),
    λ w. (both-above m (reached strict o) k os f w.0.1 w.1.0, w.1.1),
  )

  pub walk-step : (order : List Op) (P : Type 0) (i : ℕ) (d : Op) (m k r s : ℕ) → i < length order → s ≡ reaches strict (get_or order i d) → r ≡ reached strict (get_or order i d) → m ≤ s → m ≤ k → r ≤ k
      → ((z : ℕ) → m ≤ z → r ≤ z → k ≤ z) → (Above m (drop i order) ↔ P) → (Above k (drop (i + 1) order) ↔ P)
  walk-step order P i d m k r s lt e f h a b one inv =
      let o = get_or order i d in
      let rest = drop (i + 1) order in
      let cut : drop i order ≡ o ∷ rest = drop_more order i d lt in
      let w = walk-next m k o rest (subst (λ z. m ≤ z) e h) a (subst (λ z. z ≤ k) f b) (λ z x y. one z x (subst (λ v. v ≤ z) (sym f) y)) in (
        λ x. inv.0 (subst (Above m) (sym cut) (w.0 x)),
        λ p. w.1 (subst (Above m) cut (inv.1 p)),
      )

  pub walk-stops : (order : List Op) (P : Type 0) (i : ℕ) (d : Op) (m s : ℕ) → i < length order → s ≡ reaches strict (get_or order i d) → s < m → (Above m (drop i order) ↔ P) → P → ⊥
  walk-stops order P i d m s lt e h inv p =
      let cut : drop i order ≡ get_or order i d ∷ drop (i + 1) order = drop_more order i d lt in
      let w = subst (Above m) cut (inv.1 p) in
      let k : m ≤ reaches strict (get_or order i d) = w.0.0 in
      omega (arith, e, k)

-- what the walk looks up
pub found-points : (strict : List Op) (ts : List (List Point)) (order : List Op) (i : ℕ) (d : Op) (ps : List Point) → ts ≡ tables (length ts) strict → Each (λ n. n.thread < length ts) order → i < length order
    → ps ≡ get_or ts (get_or order i d).thread ps → ps ≡ points (get_or order i d).thread 0 strict
found-points strict ts order i d ps e below lt is =
    is ∙ table-at strict ts (length ts) (get_or order i d).thread ps e (each-at (λ n. n.thread < length ts) order i d below lt)

pub found-reached : (strict : List Op) (o : Op) (ps : List Point) (r v : ℕ) → ps ≡ points o.thread 0 strict → r ≡ op_rank o → v ≡ up_to r ps → v ≡ reached strict o
found-reached strict o ps r v e f h = h ∙ ap (λ z. up_to z ps) f ∙ ap (up_to (op_rank o)) e ∙ reached-found o strict

pub found-reaches : (strict : List Op) (o : Op) (ps : List Point) (r v : ℕ) → ps ≡ points o.thread 0 strict → r ≡ op_rank o → v ≡ from_on r (length strict) ps → v ≡ reaches strict o
found-reaches strict o ps r v e f h = h ∙ ap (λ z. from_on z (length strict) ps) f ∙ ap (from_on (op_rank o) (length strict)) e ∙ reaches-found o strict

pub within-list : (strict : List Op) (t : ℕ) (ps : List Point) → ps ≡ points t 0 strict → Each (λ p. p.place < length strict) ps
within-list strict t ps e =
    subst (Each (λ p. p.place < length strict)) (sym e)
    (subst (λ z. Each (λ p. p.place < z) (points t 0 strict)) (let z : 0 + length strict ≡ length strict = omega arith in z) (within t 0 strict))
