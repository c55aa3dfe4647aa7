-- Places of which one has met another.
use Rattle.std.proofs.Common.{◌≡◌, ◌≢◌, ℕ, zero, suc, ◌+◌, ◌<◌, List, ◌∷◌, length, sym, subst, arith, inl, inr, get_or, set, get_or-set_same, get_or-set_other}
use Rattle.std.proofs.lemmas.Bool.{cases_eq}
use Rattle.upc_values.specs.Lists.{Numbered}
use Rattle.upc_values.specs.Openings.{Opening}
use Rattle.upc_task.specs.layer.Seated.{IsLawful}
use Rattle.upc_rounds_teams.specs.declared.place.Place.{Place}
use Rattle.upc_rounds_teams.specs.layer.Teams.{Met, HaveMet, seen_at}
use Rattle.upc_rounds_teams.proofs.Crews.{met-then}

-- What holds at a place of a list of which one member was set
pub set-at : (Q : ℕ → Place → Type 0) (ls : List Place) (t i : ℕ) (m d : Place) → t < length ls → ((i ≢ t) → Q i (get_or ls i d)) → (i ≡ t → Q t m) → Q i (get_or (set ls t m) i d)
set-at Q ls t i m d lt other same = elim (cases_eq i t) as (λ z. Q i (get_or (set ls t m) i d)) [
  | inl e ↦ subst (λ j. Q j (get_or (set ls t m) j d)) (sym e) (subst (Q t) (sym (get_or-set_same ls t m d lt)) (same e))
  | inr ne ↦ subst (Q i) (sym (get_or-set_other ls t i m d ne)) (other ne)
]

each-of : (a b c : Place) (xs ys zs : List Place) → length ys ≡ length xs → Met a b → Met b c
    → ((i : ℕ) (d : Place) → i < length xs → Met (get_or xs i d) (get_or ys i d)) → ((i : ℕ) (d : Place) → i < length ys → Met (get_or ys i d) (get_or zs i d))
    → (i : ℕ) (d : Place) → i < length (a ∷ xs) → Met (get_or (a ∷ xs) i d) (get_or (c ∷ zs) i d)
each-of a b c xs ys zs xy ab bc m n zero d lt = met-then a b c ab bc
each-of a b c xs ys zs xy ab bc m n (suc i) d lt =
    let l : i < length xs = omega arith in
    met-then (get_or xs i d) (get_or ys i d) (get_or zs i d) (m i d l) (n i d (subst (λ k. i < k) (sym xy) l))

seen-of : (b c : Place) (xs ys zs : List Place) → length ys ≡ length xs → seen_at c ≡ seen_at b → ((i : ℕ) (d : Place) → i < length ys → seen_at (get_or zs i d) ≡ seen_at b)
    → (i : ℕ) (d : Place) → i < length xs + 1 → seen_at (get_or (c ∷ zs) i d) ≡ seen_at b
seen-of b c xs ys zs xy stays seen zero d lt = stays
seen-of b c xs ys zs xy stays seen (suc i) d lt = let l : i < length xs = omega arith in seen i d (subst (λ k. i < k) (sym xy) l)

-- The first and the others after both sweeps
pub have-met : (a b c : Place) (xs ys zs : List Place) → length ys ≡ length xs → length zs ≡ length ys → Met a b → Met b c → seen_at c ≡ seen_at b
    → ((i : ℕ) (d : Place) → i < length xs → Met (get_or xs i d) (get_or ys i d)) → ((i : ℕ) (d : Place) → i < length ys → Met (get_or ys i d) (get_or zs i d))
    → ((i : ℕ) (d : Place) → i < length ys → seen_at (get_or zs i d) ≡ seen_at b)
    → ((o : Opening) → IsLawful o (seen_at a) → Numbered (λ i k. IsLawful o (seen_at k)) xs → IsLawful o (seen_at b))
    → HaveMet (a ∷ xs) (c ∷ zs)
have-met a b c xs ys zs xy yz ab bc stays m n seen lawful = record {
  many = omega (arith, xy, yz);
  all = seen_at b;
  each = each-of a b c xs ys zs xy ab bc m n;
  seen = λ i d lt. seen-of b c xs ys zs xy stays seen i d (omega (arith, lt));
  lawful = λ o h. lawful o (h 0 a (omega arith)) (λ i d lt. h (suc i) d (omega arith));
}
