-- The messages that wait, by number.
use Rattle.std.proofs.Common.{◌≡◌, ℕ, ◌+◌, ◌<◌, List, ◌∷◌, length, drop, slice_get, Some, None, sym, ap, ◌∙◌, arith}
use Rattle.std.proofs.lemmas.List.{drop_more}
use Rattle.std.proofs.lemmas.Option.{slice_get_within, get_or_from_slice_get}
use Rattle.upc_values.proofs.Joining.{past-none}

pub next-letter : {X : Type 0} (xs : List X) (k : ℕ) (x : X) → Some x ≡ slice_get xs k → drop k xs ≡ x ∷ drop (k + 1) xs
next-letter xs k x e =
    drop_more xs k x (slice_get_within xs k x (sym e)) ∙ ap (λ y. y ∷ drop (k + 1) xs) (get_or_from_slice_get xs k x x (sym e))

pub no-letter : {X : Type 0} (xs : List X) (k : ℕ) → k < length xs → slice_get xs k ≡ None → ⊥
no-letter xs k lt e = let past = past-none xs k e in omega (arith, past)
