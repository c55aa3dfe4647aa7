-- Tests, one after another.
use Rattle.std.proofs.Common.{◌≡◌, ℕ, zero, suc, ◌<◌, List, ◌++◌, Bool, true, false, ◌&&◌, ◌||◌, inl, inr, sym, ap, ◌∙◌, subst, arith}
use Rattle.std.proofs.lemmas.Bool.{cases_lt}
use Rattle.std.specs.List.{list_any}
use Rattle.std.proofs.lemmas.List.Folds.{list_any-append}
use Rattle.upc_values.specs.History.{each_thread}
use Rattle.std.proofs.Math.Bool.{and-false}

pub first-fails : (a b x : Bool) → x ≡ a → x ≡ false → false ≡ (a && b)
first-fails a b x e h = sym (ap (λ z. z && b) (sym e ∙ h))

pub second-fails : (a b d x y : Bool) → x ≡ a → x ≡ true → y ≡ b → y ≡ false → false ≡ (a && (b && d))
second-fails a b d x y e h g k = sym (ap (λ z. z && (b && d)) (sym e ∙ h) ∙ ap (λ z. z && d) (sym g ∙ k))

pub third-decides : (a b d x y r : Bool) → x ≡ a → x ≡ true → y ≡ b → y ≡ true → r ≡ d → r ≡ (a && (b && d))
third-decides a b d x y r e h g k f = f ∙ sym (ap (λ z. z && (b && d)) (sym e ∙ h) ∙ ap (λ z. z && d) (sym g ∙ k))

-- a number below n that fails
pub each-fails : (test : ℕ → Bool) (n k : ℕ) → k < n → test k ≡ false → each_thread n test ≡ false
each-fails test zero k h e = absurd (omega arith)
each-fails test (suc n) k h e =
    elim (cases_lt k n) [
      | inl l ↦ ap (λ z. test n && z) (each-fails test n k l e) ∙ and-false (test n)
      | inr g ↦ let same : k ≡ n = omega arith in ap (λ z. z && each_thread n test) (subst (λ m. test m ≡ false) same e)
    ]

-- a member of one list or of the other
pub any_of_both : {X : Type 0} (p : X → Bool) (xs ys : List X) → (list_any p xs || list_any p ys) ≡ list_any p (xs ++ ys)
any_of_both p xs ys = sym (list_any-append p xs ys)
