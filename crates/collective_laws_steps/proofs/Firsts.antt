-- A list of n numbers that has each number below n has each once.
use Rattle.std.proofs.Common.{◌≡◌, ℕ, zero, suc, ◌+◌, ◌<◌, ◌≤◌, List, [], ◌∷◌, length, ◌⊎◌, inl, inr, refl, sym, ◌∙◌}
use Rattle.std.proofs.Common.{subst, arith, get_or}
use Rattle.std.specs.Prelude.{ℤ, pos}
use Rattle.std.specs.List.{position_or_len}
use Rattle.std.specs.Ordering.{int_eq}
use Rattle.std.proofs.lemmas.Bool.{cases_Bool}
use Rattle.std.proofs.lemmas.Bool.Decides.{Decides-int_eq}
use Rattle.std.proofs.lemmas.List.Sums.{position_or_len_is}
use Rattle.upc_values.specs.Lists.{Has}

module _ {X : Type 0} where
  -- The list without the member at this place.
  abbrev without : ℕ → List X → List X
  without k [] = []
  without zero (x ∷ xs) = xs
  without (suc k) (x ∷ xs) = x ∷ without k xs

  length_without : (k : ℕ) (xs : List X) → k < length xs → length (without k xs) + 1 ≡ length xs
  length_without k [] h = absurd (omega arith)
  length_without zero (x ∷ xs) h = omega arith
  length_without (suc k) (x ∷ xs) h =
      let e : length (without k xs) + 1 ≡ length xs = length_without k xs (omega arith) in omega arith

  left_without : (k : ℕ) (xs : List X) (y : X) → Has xs y → (get_or xs k y ≡ y) ⊎ Has (without k xs) y
  left_without k [] y h = absurd h
  left_without zero (x ∷ xs) y (inl e) = inl e
  left_without zero (x ∷ xs) y (inr h) = inr h
  left_without (suc k) (x ∷ xs) y (inl e) = inr (inl e)
  left_without (suc k) (x ∷ xs) y (inr h) = elim (left_without k xs y h) [ inl e ↦ inl e | inr m ↦ inr (inr m) ]

  has_at : (xs : List X) (i : ℕ) (y : X) → i < length xs → Has xs (get_or xs i y)
  has_at [] i y h = absurd (omega arith)
  has_at (x ∷ xs) zero y h = inl refl
  has_at (x ∷ xs) (suc i) y h = inr (has_at xs i y (omega arith))

  -- A later member is left.
  later_without : (k i : ℕ) (xs : List X) (y : X) → k < i → i < length xs → Has (without k xs) (get_or xs i y)
  later_without k i [] y h lt = absurd (omega arith)
  later_without k zero (x ∷ xs) y h lt = absurd (omega arith)
  later_without zero (suc i) (x ∷ xs) y h lt = has_at xs i y (omega arith)
  later_without (suc k) (suc i) (x ∷ xs) y h lt = inr (later_without k i xs y (omega arith) (omega arith))

  record Placed (xs : List X) (y : X) : Type 0 where
    at : ℕ
    below : at < length xs
    is : (d : X) → get_or xs at d ≡ y

  placed : (xs : List X) (y : X) → Has xs y → Placed xs y
  placed [] y h = absurd h
  placed (x ∷ xs) y (inl e) = record { at = 0; below = omega arith; is = λ d. e }
  placed (x ∷ xs) y (inr h) =
      let p = placed xs y h in record { at = suc p.at; below = let b = p.below in omega arith; is = λ d. p.is d }

-- The list has each number below n.
abbrev pub HasAll : ℕ → List ℤ → Type 0
HasAll n vs = (u : ℕ) → u < n → Has vs (pos u)

-- Then it has at least n members.
at_least : (n : ℕ) (vs : List ℤ) → HasAll n vs → n ≤ length vs
at_least zero vs h = omega arith
at_least (suc n) vs h =
    let p = placed vs (pos n) (h n (omega arith)) in
    let rest : HasAll n (without p.at vs) =
    λ u lt. elim (left_without p.at vs (pos u) (h u (omega arith))) [
      | inl e ↦ let same : pos n ≡ pos u = sym (p.is (pos u)) ∙ e in absurd (let q : n ≡ u = cc in omega arith)
      | inr m ↦ m
    ] in
    let least : n ≤ length (without p.at vs) = at_least n (without p.at vs) rest in
    let less : length (without p.at vs) + 1 ≡ length vs = length_without p.at vs p.below in
    omega arith

defaults : (xs : List ℤ) (j : ℕ) (a b : ℤ) → j < length xs → get_or xs j a ≡ get_or xs j b
defaults [] j a b h = absurd (omega arith)
defaults (x ∷ xs) zero a b h = refl
defaults (x ∷ xs) (suc j) a b h = defaults xs j a b (omega arith)

-- No two places of n members hold one number, where each number below n is there.
two_places : (n : ℕ) (vs : List ℤ) (k i : ℕ) (d : ℤ) → HasAll n vs → length vs ≡ n → k < i → i < n
    → get_or vs k d ≡ get_or vs i d → ⊥
two_places n vs k i d h len lt below e =
    let rest : HasAll n (without k vs) =
    λ u b. elim (left_without k vs (pos u) (h u b)) [
      | inl q ↦
          subst (Has (without k vs))
          (defaults vs i (pos u) d (omega arith) ∙ sym e ∙ defaults vs k d (pos u) (omega arith) ∙ q)
          (later_without k i vs (pos u) lt (omega arith))
      | inr m ↦ m
    ] in
    let least : n ≤ length (without k vs) = at_least n (without k vs) rest in
    let less : length (without k vs) + 1 ≡ length vs = length_without k vs (omega arith) in
    omega arith

-- So the first place of a number is each place of it.
pub first_place : (n : ℕ) (vs : List ℤ) (i t : ℕ) → HasAll n vs → length vs ≡ n → i < n
    → get_or vs i (pos 0) ≡ pos t → position_or_len (λ v. int_eq v (pos t)) vs ≡ i
first_place n vs i t h len lt e =
    position_or_len_is (λ v. int_eq v (pos t)) vs i (pos 0) (omega arith)
    (λ k b. elim (cases_Bool (int_eq (get_or vs k (pos 0)) (pos t))) [
      | inl q ↦
          absurd (two_places n vs k i (pos 0) h len b lt
          ((Decides-int_eq (get_or vs k (pos 0)) (pos t)).0 q ∙ sym e))
      | inr q ↦ q
    ])
    (λ b. (Decides-int_eq (get_or vs i (pos 0)) (pos t)).1 e)
