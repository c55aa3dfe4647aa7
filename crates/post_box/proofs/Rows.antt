-- Lists of boxes and of the places at them.
use Rattle.std.proofs.Common.{◌≡◌, ◌≢◌, ℕ, zero, suc, ◌<◌, List, [], ◌∷◌, ◌++◌, length, take, get_or, set, refl, ap, sym, subst, ◌∙◌, inl, inr, arith, get_or-set_same, get_or-set_other}
use Rattle.std.proofs.Math.Seq.{take-suc}
use Rattle.std.proofs.lemmas.Bool.{cases_eq}

module _ {A : Type 0} where
  pub set-at : (Q : ℕ → A → Type 0) (ls : List A) (t i : ℕ) (m d : A) → t < length ls → ((i ≢ t) → Q i (get_or ls i d)) → (i ≡ t → Q t m) → Q i (get_or (set ls t m) i d)
  set-at Q ls t i m d lt other same = elim (cases_eq i t) as (λ z. Q i (get_or (set ls t m) i d)) [
    | inl q ↦ subst (λ j. Q j (get_or (set ls t m) j d)) (sym q) (subst (Q t) (sym (get_or-set_same ls t m d lt)) (same q))
    | inr ne ↦ subst (Q i) (sym (get_or-set_other ls t i m d ne)) (other ne)
  ]

  ends : (xs ys : List A) (x y : A) → xs ++ x ∷ [] ≡ ys ++ y ∷ [] → (xs ≡ ys) × (x ≡ y)
  ends [] [] x y e = (refl, cc e)
  ends [] (z ∷ []) x y e = absurd (cc e)
  ends [] (z ∷ w ∷ ys) x y e = absurd (cc e)
  ends (z ∷ []) [] x y e = absurd (cc e)
  ends (z ∷ w ∷ xs) [] x y e = absurd (cc e)
  ends (z ∷ xs) (w ∷ ys) x y e = let t = ends xs ys x y (cc e) in let h : z ≡ w = cc e in (cc (h, t.0), t.1)

  -- what is left of a front when its last member is taken off
  pub popped : (ks items new : List A) (x : A) (at t : ℕ) → at ≡ suc t → items ≡ take (suc at) ks → items ≡ new ++ x ∷ [] → at < length ks
      → (new ≡ take (suc t) ks) × ((d : A) → x ≡ get_or ks (suc t) d)
  popped ks items new x at t is left cut lt =
      let one : (d : A) → new ++ x ∷ [] ≡ take at ks ++ get_or ks at d ∷ [] = λ d. sym cut ∙ (left ∙ take-suc ks at d lt) in (
        (ends new (take at ks) x (get_or ks at x) (one x)).0 ∙ ap (λ n. take n ks) is,
        λ d. (ends new (take at ks) x (get_or ks at d) (one d)).1 ∙ ap (λ n. get_or ks n d) is,
      )

module _ {B O : Type 0} where
  -- two lists that are one longer
  pub snoc-both : (R : B → O → Type 0) (bs : List B) (os : List O) (x : B) (y : O) → length os ≡ length bs
      → ((i : ℕ) (b : B) (o : O) → i < length bs → R (get_or bs i b) (get_or os i o)) → R x y
      → (i : ℕ) (b : B) (o : O) → i < length (bs ++ x ∷ []) → R (get_or (bs ++ x ∷ []) i b) (get_or (os ++ y ∷ []) i o)
  snoc-both R [] [] x y e h r zero b o lt = r
  snoc-both R [] [] x y e h r (suc i) b o lt = absurd (omega arith)
  snoc-both R [] (z ∷ os) x y e h r i b o lt = absurd (omega (arith, e))
  snoc-both R (w ∷ bs) [] x y e h r i b o lt = absurd (omega (arith, e))
  snoc-both R (w ∷ bs) (z ∷ os) x y e h r zero b o lt = h 0 b o (omega arith)
  snoc-both R (w ∷ bs) (z ∷ os) x y e h r (suc i) b o lt = snoc-both R bs os x y (omega (arith, e)) (λ j c p l. h (suc j) c p (omega (arith, l))) r i b o (omega (arith, lt))
