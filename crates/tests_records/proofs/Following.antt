-- The first of a list are a thread's entries so far.
use Rattle.std.proofs.Common.{◌≡◌, ℕ, ◌+◌, ◌<◌, List, [], ◌∷◌, ◌++◌, length, take, get_or, slice_get, Some, sym, ap, ◌∙◌, append_assoc, arith}
use Rattle.std.proofs.lemmas.List.{take_more}
use Rattle.upc_values.specs.declared.journal.Entry.{Entry}
use Rattle.upc_values.specs.Drain.{entries_of}
use Rattle.upc_values.proofs.Walks.{entries_of-append, entries-own}

-- what is found at a place
pub entry-there : (xs : List Entry) (n : ℕ) (x : Entry) → Some x ≡ slice_get xs n → (n < length xs) × ((d : Entry) → get_or xs n d ≡ x)
entry-there [] n x h = absurd cc
entry-there (y ∷ xs) ℕ.zero x h = (omega arith, λ d. cc)
entry-there (y ∷ xs) (ℕ.suc n) x h = let r = entry-there xs n x h in let lt = r.0 in (omega arith, λ d. r.1 d)

-- one more entry of the thread
pub one-more : (t : ℕ) (xs : List Entry) (n : ℕ) (e x : Entry) (now left : List Entry) → now ≡ e ∷ left → e.thread ≡ t → e ≡ x → n < length xs → ((d : Entry) → get_or xs n d ≡ x) → take (n + 1) xs ++ entries_of t left ≡ take n xs ++ entries_of t now
one-more t xs n e x now left steps own same lt there =
    ap (λ z. z ++ entries_of t left) (take_more xs n e lt ∙ ap (λ z. take n xs ++ z ∷ []) (there e ∙ sym same))
    ∙ append_assoc (take n xs) (e ∷ []) (entries_of t left)
    ∙ ap (λ z. take n xs ++ z)
    (ap (λ z. z ++ entries_of t left) (sym (entries-own t e own)) ∙ sym (entries_of-append t (e ∷ []) left)
    ∙ ap (entries_of t) (sym steps))
