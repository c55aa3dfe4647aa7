-- A row found by its place, or by that there is none.
use Rattle.std.proofs.Common.{◌≡◌, ◌<◌, ℕ, zero, suc, Bool, true, false, List, [], ◌∷◌, ◌++◌, length, map, get_or, set, Some, None, nat_lt, sym, ap, ◌∙◌, arith, inl, inr}
use Rattle.std.specs.List.{position, position_or_len}
use Rattle.std.proofs.lemmas.Bool.{cases_Bool, cond-true, cond-false, ltb-false}
use Rattle.std.proofs.lemmas.List.Sums.{fails_before_first}
use Rattle.std.proofs.lemmas.List.Quantifiers.{position-Some}
use Rattle.outcomes.specs.declared.row.Row.{Row}
use Rattle.outcomes.specs.Tally.{Listed, listed, is_same}
use Rattle.outcomes.specs.code.Added.{added, merged}

none-fails : {X : Type 0} (p : X → Bool) (xs : List X) → position p xs ≡ None → (k : ℕ) (d : X) → k < length xs
    → p (get_or xs k d) ≡ false
none-fails p xs e k d lt = elim (cases_Bool (nat_lt (position_or_len p xs) (length xs))) [
  | inl below ↦
      let some : position p xs ≡ Some (position_or_len p xs) =
      cond-true (nat_lt (position_or_len p xs) (length xs)) (Some (position_or_len p xs)) None below in
      let bad : Some (position_or_len p xs) ≡ None = sym some ∙ e in
      absurd cc
  | inr past ↦
      let all = ltb-false (position_or_len p xs) (length xs) past in
      fails_before_first p xs k d (omega arith)
]

module _ (new : Listed) where
  merges-at : (rows : List Row) (i : ℕ) (x : Row) → i < length rows
      → ((d : Row) → is_same (listed (get_or rows i d)).shown new.shown ≡ true)
      → ((k : ℕ) (d : Row) → k < i → is_same (listed (get_or rows k d)).shown new.shown ≡ false)
      → ((d : Row) → listed x ≡ merged new (listed (get_or rows i d)))
      → map listed (set rows i x) ≡ added new (map listed rows)
  merges-at [] i x lt same differs is = absurd (omega arith)
  merges-at (r ∷ rows) zero x lt same differs is =
      ap (λ l. l ∷ map listed rows) (is r)
      ∙ sym (cond-true (is_same (listed r).shown new.shown) (merged new (listed r) ∷ map listed rows)
      (listed r ∷ added new (map listed rows)) (same r))
  merges-at (r ∷ rows) (suc i) x lt same differs is =
      ap (λ l. listed r ∷ l) (merges-at rows i x (omega arith) same (λ k d b. differs (suc k) d (omega arith)) is)
      ∙ sym (cond-false (is_same (listed r).shown new.shown) (merged new (listed r) ∷ map listed rows)
      (listed r ∷ added new (map listed rows)) (differs 0 r (omega arith)))

  comes-last : (rows : List Row) (x : Row) → listed x ≡ new
      → ((k : ℕ) (d : Row) → k < length rows → is_same (listed (get_or rows k d)).shown new.shown ≡ false)
      → map listed (rows ++ x ∷ []) ≡ added new (map listed rows)
  comes-last [] x is differs = ap (λ l. l ∷ []) is
  comes-last (r ∷ rows) x is differs =
      ap (λ l. listed r ∷ l) (comes-last rows x is (λ k d b. differs (suc k) d (omega arith)))
      ∙ sym (cond-false (is_same (listed r).shown new.shown) (merged new (listed r) ∷ map listed rows)
      (listed r ∷ added new (map listed rows)) (differs 0 r (omega arith)))

  abbrev pub fits : Row → Bool
  fits w = is_same (listed w).shown new.shown

  pub added-found : (rows : List Row) (i : ℕ) (x : Row) → position fits rows ≡ Some i
      → ((d : Row) → listed x ≡ merged new (listed (get_or rows i d)))
      → map listed (set rows i x) ≡ added new (map listed rows)
  added-found rows i x e is =
      merges-at rows i x (position-Some fits rows i x e).0 (λ d. (position-Some fits rows i d e).1)
      (λ k d b. (position-Some fits rows i d e).2 k b) is

  pub found-below : (rows : List Row) (i : ℕ) (x : Row) → position fits rows ≡ Some i → i < length rows
  found-below rows i x e = (position-Some fits rows i x e).0

  pub added-last : (rows : List Row) (x : Row) → listed x ≡ new → position fits rows ≡ None
      → map listed (rows ++ x ∷ []) ≡ added new (map listed rows)
  added-last rows x is e = comes-last rows x is (none-fails fits rows e)
