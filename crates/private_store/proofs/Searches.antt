-- What a search finds where keys rise.
use Rattle.std.proofs.Common.{◌≡◌, ◌≢◌, inl, inr, ℕ, ◌<◌, ◌≤◌, Bool, true, false, cond, ◌==◌, nat_lt, List, [], ◌∷◌, length, get_or, Some, None, Result, Ok, Err, refl, sym, subst, ap, arith, tests}
use Rattle.std.specs.Cmp.{ranks}
use Rattle.std.specs.List.{AllPairs, position}
use Rattle.std.specs.List.Sorted.{IsBinarySearchResult, IsSearchInRange}
use Rattle.std.specs.Ordering.{nat_cmp, ordering_index, MatchOrdering}
use Rattle.std.specs.Result.{result_ok}
use Rattle.std.proofs.lemmas.Bool.{cases_eq, cases_lt}
use Rattle.std.proofs.lemmas.Bool.Decides.{nat_tests}
use Rattle.std.proofs.lemmas.List.Sums.{position_or_len_is}

at_first : (i n : ℕ) → i < n → cond (nat_lt i n) (Some i) None ≡ Some i
at_first i n h = grind (arith, nat_tests)

at_end : (i n : ℕ) → i ≡ n → cond (nat_lt i n) (Some i) None ≡ None
at_end i n h = grind (arith, nat_tests)

-- the first place that passes
pub position_at : {X : Type 0} (t : X → Bool) (xs : List X) (i : ℕ) (d : X) → i < length xs → t (get_or xs i d) ≡ true
    → ((k : ℕ) → k < i → t (get_or xs k d) ≡ false) → position t xs ≡ Some i
position_at t xs i d lt here before =
    let e = position_or_len_is t xs i d (omega arith) before (λ _. here) in rw e (at_first i (length xs) lt)

none_at : {X : Type 0} (t : X → Bool) (xs : List X) (d : X) → ((k : ℕ) → k < length xs → t (get_or xs k d) ≡ false)
    → position t xs ≡ None
none_at t xs d each =
    let e = position_or_len_is t xs (length xs) d (omega arith) each (λ h. absurd (omega arith)) in
    rw e (at_end (length xs) (length xs) refl)

-- no place passes
pub position_none : {X : Type 0} (t : X → Bool) (xs : List X) → ((k : ℕ) (d : X) → k < length xs → t (get_or xs k d) ≡ false)
    → position t xs ≡ None
position_none t [] each = refl
position_none t (x ∷ xs) each = none_at t (x ∷ xs) x (λ k lt. each k x lt)

higher : (a b x : ℕ) → a ≤ b → ordering_index (nat_cmp a x) ≤ ordering_index (nat_cmp b x)
higher a b x le = grind (arith, tests)

pub differs : (a b : ℕ) → a ≢ b → (a == b) ≡ false
differs a b ne = grind (arith, nat_tests)

pub equals : (a b : ℕ) → a ≡ b → (a == b) ≡ true
equals a b e = grind (arith, nat_tests)

element : {X : Type 0} (xs : List X) (i : ℕ) → i < length xs → X
element [] i lt = absurd (omega arith)
element (x ∷ xs) i lt = x

module _ {X : Type 0} (key : X → ℕ) (n : ℕ) (xs : List X) (up : AllPairs (λ a b. key a < key b) xs) where
  no_other : (i : ℕ) (d : X) → i < length xs → key (get_or xs i d) ≡ n → (k : ℕ) → k < length xs → k ≢ i → key (get_or xs k d) ≢ n
  no_other i d lt here k below ne e =
      elim (cases_lt k i) [
        | inl l ↦ (let h = up k i d l lt in omega arith)
        | inr l ↦ (let h = up i k d (omega arith) below in omega arith)
      ]

  -- where one has the key, a test that asks for the key finds that one or none
  pub only_place : (t : X → Bool) → ((x : X) → key x ≢ n → t x ≡ false) → (i : ℕ) (d : X) → i < length xs → key (get_or xs i d) ≡ n
      → (b : Bool) → t (get_or xs i d) ≡ b → position t xs ≡ cond b (Some i) None
  only_place t asks i d lt here true e =
      position_at t xs i d lt e (λ k h. asks (get_or xs k d) (no_other i d lt here k (omega arith) (omega arith)))
  only_place t asks i d lt here false e = none_at t xs d other
    where
      other : (k : ℕ) → k < length xs → t (get_or xs k d) ≡ false
      other k h =
          elim (cases_eq k i) [
            | inl q ↦ subst (λ j. t (get_or xs j d) ≡ false) (sym q) e
            | inr ne ↦ asks (get_or xs k d) (no_other i d lt here k h ne)
          ]

  level : (a b : ℕ) (d : X) → a ≤ b → b < length xs → key (get_or xs a d) ≤ key (get_or xs b d)
  level a b d le lt =
      elim (cases_eq a b) [
        | inl e ↦ (let same = ap (λ j. key (get_or xs j d)) e in omega arith)
        | inr ne ↦ (let h = up a b d (omega arith) lt in omega arith)
      ]

  -- what a binary search by the key answers
  pub searched : (r : Result ℕ ℕ) → IsSearchInRange r (length xs) → IsBinarySearchResult (λ y. nat_cmp (key y) n) xs r
      → result_ok r ≡ position (λ x. key x == n) xs
  searched (Ok i) lt h =
      let d = element xs i lt in
      let here : key (get_or xs i d) ≡ n = subst (λ o. MatchOrdering o (key (get_or xs i d) < n) (key (get_or xs i d) ≡ n) (n < key (get_or xs i d))) (h d) (ranks (key (get_or xs i d)) n) in
      sym (only_place (λ x. key x == n) (λ x ne. differs (key x) n ne) i d lt here true (equals (key (get_or xs i d)) n here))
  searched (Err i) le h = sym (position_none (λ x. key x == n) xs missing)
    where
      missing : (k : ℕ) (d : X) → k < length xs → (key (get_or xs k d) == n) ≡ false
      missing k d lt =
          let parted = h (λ a b e l m. higher (key (get_or xs a e)) (key (get_or xs b e)) n (level a b e l m)) in
          let v = key (get_or xs k d) in
          elim (cases_lt k i) [
            | inl l ↦ (let less : v < n = subst (λ o. MatchOrdering o (v < n) (v ≡ n) (n < v)) (parted.0 k d (omega arith) l) (ranks v n) in differs v n (omega arith))
            | inr l ↦ (let more : n < v = subst (λ o. MatchOrdering o (v < n) (v ≡ n) (n < v)) (parted.1 k d l lt) (ranks v n) in differs v n (omega arith))
          ]
