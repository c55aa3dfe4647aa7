-- Lists: some member, where two lists meet, counts.
use Rattle.std.proofs.Common.{◌≡◌, ℕ, zero, suc, ◌+◌, ◌<◌, ◌≤◌, Bool, true, false, ◌&&◌, cond, List, [], ◌∷◌, ◌++◌}
use Rattle.std.proofs.Common.{length, filter, Some, slice_get, ◌⊎◌, inl, inr, refl, sym, ap, ◌∙◌, subst, arith}
use Rattle.std.proofs.Common.{append_assoc}
use Rattle.std.specs.List.{count_by}
use Rattle.std.proofs.lemmas.Bool.{cond_both}
use Rattle.std.proofs.lemmas.List.{length-append}
use Rattle.std.proofs.lemmas.List.Sums.{sum_by-append}
use Rattle.upc_values.specs.Lists.{Each, Has}

-- P holds of some member.
abbrev pub Holds_of : {X : Type 0} → (X → Type 0) → List X → Type 0
Holds_of P [] = ⊥
Holds_of P (x ∷ xs) = P x ⊎ Holds_of P xs

zero-first : (n : ℕ) → 0 + n ≡ n
zero-first n = omega arith

one-more : (n : ℕ) → 1 + n ≡ n + 1
one-more n = omega arith

module _ {X : Type 0} where
  pub of-left : (P : X → Type 0) (xs ys : List X) → Holds_of P xs → Holds_of P (xs ++ ys)
  of-left P [] ys h = absurd h
  of-left P (x ∷ xs) ys (inl p) = inl p
  of-left P (x ∷ xs) ys (inr h) = inr (of-left P xs ys h)

  pub of-right : (P : X → Type 0) (xs ys : List X) → Holds_of P ys → Holds_of P (xs ++ ys)
  of-right P [] ys h = h
  of-right P (x ∷ xs) ys h = inr (of-right P xs ys h)

  pub of-cases : (P : X → Type 0) (xs ys : List X) → Holds_of P (xs ++ ys) → Holds_of P xs ⊎ Holds_of P ys
  of-cases P [] ys h = inr h
  of-cases P (x ∷ xs) ys (inl p) = inl (inl p)
  of-cases P (x ∷ xs) ys (inr h) = elim (of-cases P xs ys h) [ inl k ↦ inl (inr k) | inr k ↦ inr k ]

  pub of-found : (P : X → Type 0) (xs : List X) → Holds_of P xs → (x : X) × Has xs x × P x
  of-found P [] h = absurd h
  of-found P (x ∷ xs) (inl p) = (x, inl refl, p)
  of-found P (x ∷ xs) (inr h) = let r = of-found P xs h in (r.0, inr r.1, r.2)

  abbrev pub head_or : X → List X → X
  head_or d [] = d
  head_or d (x ∷ xs) = x

  abbrev pub tail_of : List X → List X
  tail_of [] = []
  tail_of (x ∷ xs) = xs

  -- Of two fronts of one list the longer one goes on from the other.
  pub longer : (xs ys us vs : List X) → xs ++ ys ≡ us ++ vs → length xs ≤ length us
      → (m : List X) × (us ≡ xs ++ m) × (ys ≡ m ++ vs)
  longer [] ys us vs e le = (us, refl, e)
  longer (x ∷ xs) ys [] vs e le = absurd (omega arith)
  longer (x ∷ xs) ys (u ∷ us) vs e le =
      let r = longer xs ys us vs (ap tail_of e) (omega arith) in
      let h : x ≡ u = ap (head_or x) e in
      (r.0, ap (λ l. u ∷ l) r.1 ∙ ap (λ z. z ∷ (xs ++ r.0)) (sym h), r.2)

  -- A member that comes after a front and is of the next list parts that one.
  pub parts_at : (w out rest a b : List X) (x : X) → w ++ (out ++ rest) ≡ a ++ x ∷ b → length w ≤ length a
      → length a < length w + length out
      → (m k : List X) × (a ≡ w ++ m) × (out ≡ m ++ x ∷ k) × (b ≡ k ++ rest)
  parts_at w out rest a b x e le lt =
      let r = longer w (out ++ rest) a (x ∷ b) e le in
      let n : length a ≡ length w + length r.0 = ap length r.1 ∙ length-append w r.0 in
      let q : (r.0 ++ x ∷ []) ++ b ≡ out ++ rest = append_assoc r.0 (x ∷ []) b ∙ sym r.2 in
      let m : length (r.0 ++ x ∷ []) ≡ length r.0 + 1 = length-append r.0 (x ∷ []) in
      let s = longer (r.0 ++ x ∷ []) b out rest q (omega arith) in
      (r.0, s.0, r.1, s.1 ∙ append_assoc r.0 (x ∷ []) s.0, s.2)

  pub middle-has : (xs ys : List X) (x : X) → Has (xs ++ x ∷ ys) x
  middle-has [] ys x = inl refl
  middle-has (y ∷ xs) ys x = inr (middle-has xs ys x)

  -- The last member of a list and what is before it.
  pub at_end : (xs ys us : List X) (x y : X) → (P : X → Type 0) → Each P us → (P x → ⊥) → us ++ y ∷ [] ≡ xs ++ x ∷ ys
      → (xs ≡ us) × (y ≡ x) × (ys ≡ [])
  at_end [] ys [] x y P h n e = (refl, ap (head_or y) e, sym (ap tail_of e))
  at_end (v ∷ xs) ys [] x y P h n e = absurd (not_nil xs (ap tail_of e))
    where
      not_nil : (l : List X) → [] ≡ l ++ x ∷ ys → ⊥
      not_nil [] q = cc
      not_nil (z ∷ l) q = cc
  at_end [] ys (u ∷ us) x y P h n e = absurd (n (subst P (ap (head_or u) e) h.0))
  at_end (v ∷ xs) ys (u ∷ us) x y P h n e =
      let r = at_end xs ys us x y P h.1 n (ap tail_of e) in
      let q : u ≡ v = ap (head_or u) e in
      (ap (λ l. v ∷ l) r.0 ∙ ap (λ z. z ∷ us) (sym q), r.1, r.2)

  -- ---- counts

  pub count-append : (p : X → Bool) (xs ys : List X) → count_by p (xs ++ ys) ≡ count_by p xs + count_by p ys
  count-append p xs ys = sum_by-append (λ x. cond (p x) 1 0) xs ys

  pub count-cons : (p : X → Bool) (x : X) (xs : List X) → count_by p (x ∷ xs) ≡ cond (p x) 1 0 + count_by p xs
  count-cons p x xs =
      count-append p (x ∷ []) xs ∙ ap (λ n. n + count_by p xs) (zero-first (cond (p x) 1 0))

  pub count-yes : (p : X → Bool) (x : X) (xs : List X) → p x ≡ true → count_by p (x ∷ xs) ≡ count_by p xs + 1
  count-yes p x xs h =
      count-cons p x xs ∙ ap (λ b. cond b 1 0 + count_by p xs) h ∙ one-more (count_by p xs)

  pub count-no : (p : X → Bool) (x : X) (xs : List X) → p x ≡ false → count_by p (x ∷ xs) ≡ count_by p xs
  count-no p x xs h =
      count-cons p x xs ∙ ap (λ b. cond b 1 0 + count_by p xs) h ∙ zero-first (count_by p xs)

  pub count-none : (p : X → Bool) (xs : List X) → Each (λ x. p x ≡ false) xs → count_by p xs ≡ 0
  count-none p [] h = refl
  count-none p (x ∷ xs) h = count-no p x xs h.0 ∙ count-none p xs h.1

  -- Those that pass a test, counted by another one.
  pub count-filter : (p q : X → Bool) (xs : List X) → count_by (λ x. p x && q x) xs ≡ count_by q (filter p xs)
  count-filter p q [] = refl
  count-filter p q (x ∷ xs) = by_test (p x) refl (count-filter p q xs)
    where
      by_test : (b : Bool) → p x ≡ b → count_by (λ y. p y && q y) xs ≡ count_by q (filter p xs)
          → count_by (λ y. p y && q y) (x ∷ xs) ≡ count_by q (cond (p x) (x ∷ filter p xs) (filter p xs))
      by_test true e f =
          count-cons (λ y. p y && q y) x xs
          ∙ ap (λ z. cond (z && q x) 1 0 + count_by (λ y. p y && q y) xs) e
          ∙ ap (λ n. cond (q x) 1 0 + n) f ∙ sym (count-cons q x (filter p xs))
          ∙ ap (λ z. count_by q (cond z (x ∷ filter p xs) (filter p xs))) (sym e)
      by_test false e f =
          count-cons (λ y. p y && q y) x xs
          ∙ ap (λ z. cond (z && q x) 1 0 + count_by (λ y. p y && q y) xs) e
          ∙ zero-first (count_by (λ y. p y && q y) xs) ∙ f
          ∙ ap (λ z. count_by q (cond z (x ∷ filter p xs) (filter p xs))) (sym e)

  pub filter-length : (p : X → Bool) (xs : List X) → length (filter p xs) ≡ count_by p xs
  filter-length p [] = refl
  filter-length p (x ∷ xs) =
      cond_both (p x) (x ∷ filter p xs) (filter p xs) (λ l. length l ≡ count_by p (x ∷ xs))
      (λ e. let r = filter-length p xs in let s = count-yes p x xs e in omega arith)
      (λ e. let r = filter-length p xs in let s = count-no p x xs e in omega arith)

  -- A list has more members than the number at which one is found.
  pub found-within : (xs : List X) (i : ℕ) (x : X) → slice_get xs i ≡ Some x → i < length xs
  found-within [] i x e = absurd cc
  found-within (y ∷ xs) zero x e = omega arith
  found-within (y ∷ xs) (suc i) x e = let r = found-within xs i x e in omega arith
