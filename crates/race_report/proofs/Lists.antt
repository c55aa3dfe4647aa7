-- Lists: lists put end to end, and the members that pass a test.
use Rattle.std.proofs.Common.{◌≡◌, ℕ, ◌+◌, ◌<◌, Bool, true, false, cond, List, [], ◌∷◌, ◌++◌, map, filter, flat_map, slice_get, Some, refl, sym, ap, ◌∙◌, subst, inl, inr, arith}
use Rattle.std.specs.List.{count_by}
use Rattle.std.proofs.lemmas.List.Recursion.{is_count_by}
use Rattle.std.proofs.lemmas.Bool.{cond-true, cond-false, cases_Bool}
use Rattle.upc_values.specs.Lists.{Each, Has, Precedes, Pairwise}
use Rattle.upc_values.proofs.Membership.{has-left, has-right, has-cases, each-from, pairs-insert}

-- a member is before another where one list is before the other's
precedes-in : {X : Type 0} (xs ys : List X) (a b : X) → Has xs a → Has ys b → Precedes (xs ++ ys) a b
precedes-in [] ys a b h k = absurd h
precedes-in (x ∷ xs) ys a b (inl e) k = inl (e, has-right xs ys b k)
precedes-in (x ∷ xs) ys a b (inr m) k = inr (precedes-in xs ys a b m k)

precedes-right : {X : Type 0} (xs ys : List X) (a b : X) → Precedes ys a b → Precedes (xs ++ ys) a b
precedes-right [] ys a b p = p
precedes-right (x ∷ xs) ys a b p = inr (precedes-right xs ys a b p)

pub has-map : {X Y : Type 0} (f : X → Y) (xs : List X) (y : Y) → Has (map f xs) y → (x : X) × Has xs x × (f x ≡ y)
has-map f [] y h = absurd h
has-map f (x ∷ xs) y (inl e) = (x, inl refl, e)
has-map f (x ∷ xs) y (inr m) = let k = has-map f xs y m in (k.0, inr k.1, k.2)

module _ {X Y : Type 0} (f : X → List Y) where
  pub has-flat : (xs : List X) (x : X) (y : Y) → Has xs x → Has (f x) y → Has (flat_map f xs) y
  has-flat [] x y h k = absurd h
  has-flat (z ∷ xs) x y (inl e) k = has-left (f z) (flat_map f xs) y (subst (λ w. Has (f w) y) (sym e) k)
  has-flat (z ∷ xs) x y (inr m) k = has-right (f z) (flat_map f xs) y (has-flat xs x y m k)

  pub flat-has : (xs : List X) (y : Y) → Has (flat_map f xs) y → (x : X) × Has xs x × Has (f x) y
  flat-has [] y h = absurd h
  flat-has (x ∷ xs) y h =
      elim (has-cases (f x) (flat_map f xs) y h) [
        | inl m ↦ (x, inl refl, m)
        | inr m ↦ let k = flat-has xs y m in (k.0, inr k.1, k.2)
      ]

  pub flat-precedes : (xs : List X) (x z : X) (a b : Y) → Precedes xs x z → Has (f x) a → Has (f z) b → Precedes (flat_map f xs) a b
  flat-precedes [] x z a b p h k = absurd p
  flat-precedes (w ∷ xs) x z a b (inl q) h k =
      precedes-in (f w) (flat_map f xs) a b (subst (λ v. Has (f v) a) (sym q.0) h) (has-flat xs z b q.1 k)
  flat-precedes (w ∷ xs) x z a b (inr p) h k =
      precedes-right (f w) (flat_map f xs) a b (flat-precedes xs x z a b p h k)

  -- pairs within each list, and of one list and a later one
  pub flat-pairs : (R : Y → Y → Type 0) (xs : List X) → Each (λ x. Pairwise R (f x)) xs
      → ((x z : X) → Precedes xs x z → (a b : Y) → Has (f x) a → Has (f z) b → R a b) → Pairwise R (flat_map f xs)
  flat-pairs R [] h k = tt
  flat-pairs R (x ∷ xs) h k =
      pairs-insert R [] (f x) (flat_map f xs) (flat-pairs R xs h.1 (λ y z p. k y z (inr p))) h.0 tt
      (each-from (λ a. Each (R a) (flat_map f xs)) (f x)
      (λ a m. each-from (R a) (flat_map f xs) (λ b n. let g = flat-has xs b n in k x g.0 (inl (refl, g.1)) a b m g.2)))

pub slice-has : {X : Type 0} (xs : List X) (p : ℕ) (x : X) → slice_get xs p ≡ Some x → Has xs x
slice-has [] p x h = cc
slice-has (y ∷ xs) ℕ.zero x h = let e : y ≡ x = cc in inl e
slice-has (y ∷ xs) (ℕ.suc p) x h = inr (slice-has xs p x h)

module _ {X : Type 0} (test : X → Bool) where
  -- how many pass
  abbrev pub counted : List X → ℕ
  counted [] = 0
  counted (x ∷ xs) = cond (test x) (1 + counted xs) (counted xs)

  pub counted-is : (xs : List X) → counted xs ≡ count_by test xs
  counted-is xs = is_count_by counted test refl (λ x ys. refl) xs

  -- what stands before the p-th that passes
  pub record Before (xs : List X) (p : ℕ) (x : X) : Type 0 where
    pub front : List X
    pub rest : List X
    pub is : xs ≡ front ++ x ∷ rest
    pub many : counted front ≡ p

  one-more : (y : X) (xs : List X) (p : ℕ) (x : X) → test y ≡ true → Before xs p x → Before (y ∷ xs) (1 + p) x
  one-more y xs p x t b =
      record {
        front = y ∷ b.front;
        rest = b.rest;
        is = ap (λ z. y ∷ z) b.is;
        many = cond-true (test y) (1 + counted b.front) (counted b.front) t ∙ ap (λ n. 1 + n) b.many;
      }

  same-count : (y : X) (xs : List X) (p : ℕ) (x : X) → test y ≡ false → Before xs p x → Before (y ∷ xs) p x
  same-count y xs p x f b =
      record {
        front = y ∷ b.front;
        rest = b.rest;
        is = ap (λ z. y ∷ z) b.is;
        many = cond-false (test y) (1 + counted b.front) (counted b.front) f ∙ b.many;
      }

  passed : (y : X) (xs : List X) (x : X) → test y ≡ true → ((k : ℕ) → slice_get (filter test xs) k ≡ Some x → Before xs k x)
      → (p : ℕ) → slice_get (y ∷ filter test xs) p ≡ Some x → Before (y ∷ xs) p x
  passed y xs x t next ℕ.zero g =
      let e : y ≡ x = cc in
      record { front = []; rest = xs; is = ap (λ z. z ∷ xs) e; many = refl }
  passed y xs x t next (ℕ.suc p) g =
      let e : 1 + p ≡ ℕ.suc p = omega arith in
      subst (λ n. Before (y ∷ xs) n x) e (one-more y xs p x t (next p g))

  pub before : (xs : List X) (p : ℕ) (x : X) → slice_get (filter test xs) p ≡ Some x → Before xs p x
  before [] p x h = cc
  before (y ∷ xs) p x h =
      elim (cases_Bool (test y)) [
        | inl t ↦
            passed y xs x t (λ k g. before xs k x g) p
            (sym (ap (λ z. slice_get z p) (cond-true (test y) (y ∷ filter test xs) (filter test xs) t)) ∙ h)
        | inr f ↦
            same-count y xs p x f
            (before xs p x (sym (ap (λ z. slice_get z p) (cond-false (test y) (y ∷ filter test xs) (filter test xs) f)) ∙ h))
      ]

  sooner : (y : X) (front passing : List X) (x : X) (n : ℕ) → ((k : ℕ) → slice_get passing k ≡ Some x → k < n → Has front x)
      → (p : ℕ) → slice_get (y ∷ passing) p ≡ Some x → p < 1 + n → Has (y ∷ front) x
  sooner y front passing x n next ℕ.zero g lt = let e : y ≡ x = cc in inl e
  sooner y front passing x n next (ℕ.suc p) g lt = inr (next p g (omega arith))

  -- where a front has more than p that pass, the p-th is in it
  pub early : (front rest : List X) (p : ℕ) (x : X) → slice_get (filter test (front ++ rest)) p ≡ Some x → p < counted front → Has front x
  early [] rest p x h lt = absurd (omega arith)
  early (y ∷ front) rest p x h lt =
      let passing = filter test (front ++ rest) in
      let many = counted front in
      elim (cases_Bool (test y)) [
        | inl t ↦
            sooner y front passing x many (λ k g l. early front rest k x g l) p
            (sym (ap (λ z. slice_get z p) (cond-true (test y) (y ∷ passing) passing t)) ∙ h)
            (subst (λ k. p < k) (cond-true (test y) (1 + many) many t) lt)
        | inr f ↦
            inr (early front rest p x (sym (ap (λ z. slice_get z p) (cond-false (test y) (y ∷ passing) passing f)) ∙ h)
            (subst (λ k. p < k) (cond-false (test y) (1 + many) many f) lt))
      ]
