-- What holds of each member of a list.
use Rattle.std.proofs.Common.{◌≡◌, ◌+◌, ◌↔◌, All, sym, subst, ◌∙◌, inl, inr, ℕ, ◌<◌, List, [], ◌∷◌, ◌++◌, length, get_or, take, arith}
use Rattle.std.proofs.lemmas.Bool.{cases_eq}
use Rattle.std.proofs.lemmas.List.{get_or_default}
use Rattle.std.proofs.lemmas.List.Elements.{All-cons}
use Rattle.upc_values.specs.Lists.{Each}

pub each-push : {X : Type 0} (P : X → Type 0) (xs : List X) (x : X) → Each P xs → P x → Each P (xs ++ x ∷ [])
each-push P [] x h p = (p, tt)
each-push P (y ∷ xs) x h p = (h.0, each-push P xs x h.1 p)

pub each-at : {X : Type 0} (P : X → Type 0) (xs : List X) (i : ℕ) (d : X) → Each P xs → i < length xs → P (get_or xs i d)
each-at P [] i d h lt = absurd (omega arith)
each-at P (x ∷ xs) ℕ.zero d h lt = h.0
each-at P (x ∷ xs) (ℕ.suc i) d h lt = each-at P xs i d h.1 (omega arith)

pub each-grow : {X : Type 0} (P Q : X → Type 0) (xs : List X) → ((x : X) → P x → Q x) → Each P xs → Each Q xs
each-grow P Q [] f h = tt
each-grow P Q (x ∷ xs) f h = (f x h.0, each-grow P Q xs f h.1)

pub each-take : {X : Type 0} (P : X → Type 0) (n : ℕ) (xs : List X) → Each P xs → Each P (take n xs)
each-take P ℕ.zero xs h = tt
each-take P (ℕ.suc n) [] h = tt
each-take P (ℕ.suc n) (x ∷ xs) h = (h.0, each-take P n xs h.1)

-- what holds of each member below i, and of member i, which is x, holds of each below i + 1
pub below-more : {X : Type 0} (P : ℕ → X → Type 0) (xs : List X) (i : ℕ) (x : X) → i < length xs → x ≡ get_or xs i x
    → ((k : ℕ) (d : X) → k < i → P k (get_or xs k d)) → P i x → (k : ℕ) (d : X) → k < i + 1 → P k (get_or xs k d)
below-more P xs i x lt is h p k d b =
    elim (cases_eq k i) [
      | inl e ↦ subst (λ j. P j (get_or xs j d)) (sym e) (subst (P i) (is ∙ get_or_default xs i x d lt) p)
      | inr ne ↦ h k d (omega arith)
    ]

-- P holds of the first member: it holds of each of a list exactly where it holds of each after the first
pub all-next : {X : Type 0} (P : X → Type 0) (x : X) (rest left xs : List X) → left ≡ x ∷ rest → P x
    → (All P left ↔ All P xs) → (All P rest ↔ All P xs)
all-next P x rest left xs is p h = (
  λ r. h.0 (subst (All P) (sym is) (All-cons P x rest p r)),
  λ a k d lt. subst (All P) is (h.1 a) (ℕ.suc k) d (omega arith),
)

-- where it holds of each, it holds of the first that is left
pub all-first : {X : Type 0} (P : X → Type 0) (x : X) (rest left xs : List X) → left ≡ x ∷ rest
    → (All P left ↔ All P xs) → All P xs → P x
all-first P x rest left xs is h a = subst (All P) is (h.1 a) 0 x (omega arith)
