-- Lists: runs, and two fronts of one list.
use Rattle.std.proofs.Common.{◌≡◌, ℕ, ◌+◌, ◌-◌, ◌<◌, ◌≤◌, zero, suc, Bool, true, false, cond, ◌&&◌, List, [], ◌∷◌, ◌++◌, length, get_or, take, drop, refl, sym, ap, leb, eqb, ◌∙◌, ◌⊎◌, inl, inr, arith}
use Rattle.std.proofs.lemmas.List.{take_all, length-drop}
use Rattle.std.proofs.lemmas.List.Sums.{AllPass-from_list_all}
use Rattle.std.proofs.lemmas.Bool.Decides.{nat_tests, eqb_tells}
use Rattle.std.specs.List.{list_all, prefix_len}
use Rattle.upc_lexer.specs.Gaps.{StopsAt}

-- of two fronts of one list one goes on with the other
pub record Longer {A : Type 0} (p r q s : List A) : Type 0 where
  pub more : List A
  pub front : q ≡ p ++ more
  pub back : r ≡ more ++ s

pub head_is : {A : Type 0} {x y : A} {xs ys : List A} → x ∷ xs ≡ y ∷ ys → (x ≡ y) × (xs ≡ ys)
head_is e = (cc, cc)

pub fronts : {A : Type 0} (p r q s : List A) → p ++ r ≡ q ++ s → Longer p r q s ⊎ Longer q s p r
fronts [] r q s e = inl (record { more = q; front = refl; back = e })
fronts (x ∷ p) r [] s e = inr (record { more = x ∷ p; front = refl; back = sym e })
fronts (x ∷ p) r (y ∷ q) s e =
    let h = head_is e in
    elim (fronts p r q s h.1) [
      | inl l ↦ inl (record { more = l.more; front = ap (λ z. z ∷ q) (sym h.0) ∙ ap (λ l. x ∷ l) l.front; back = l.back })
      | inr l ↦ inr (record { more = l.more; front = ap (λ z. z ∷ p) h.0 ∙ ap (λ l. y ∷ l) l.front; back = l.back })
    ]

run_passes_by : (p : ℕ → Bool) (x : ℕ) (xs : List ℕ) (b : Bool) → p x ≡ b → list_all p (take (prefix_len p xs) xs) ≡ true → list_all p (take (cond b (1 + prefix_len p xs) 0) (x ∷ xs)) ≡ true
run_passes_by p x xs true e h = let k : 1 + prefix_len p xs ≡ suc (prefix_len p xs) = omega arith in rw (k, e) h
run_passes_by p x xs false e h = refl

-- the front of a run passes the test, and the run stops after it
pub run_passes : (p : ℕ → Bool) (xs : List ℕ) → list_all p (take (prefix_len p xs) xs) ≡ true
run_passes p [] = refl
run_passes p (x ∷ xs) = run_passes_by p x xs (p x) refl (run_passes p xs)

run_stops_by : (p : ℕ → Bool) (x : ℕ) (xs : List ℕ) (b : Bool) → p x ≡ b → StopsAt p (drop (prefix_len p xs) xs) → StopsAt p (drop (cond b (1 + prefix_len p xs) 0) (x ∷ xs))
run_stops_by p x xs true e h = let k : 1 + prefix_len p xs ≡ suc (prefix_len p xs) = omega arith in rw k h
run_stops_by p x xs false e h = e

pub run_stops : (p : ℕ → Bool) (xs : List ℕ) → StopsAt p (drop (prefix_len p xs) xs)
run_stops p [] = tt
run_stops p (x ∷ xs) = run_stops_by p x xs (p x) refl (run_stops p xs)

-- the items come with falling numbers
abbrev pub falls : {A : Type 0} → (A → ℕ) → List A → Bool
falls f [] = true
falls f (x ∷ xs) = list_all (λ y. leb (f y) (f x)) xs && falls f xs

pub and_left : (a b : Bool) → (a && b) ≡ true → a ≡ true
and_left true b h = refl
and_left false b h = h

pub and_right : (a b : Bool) → (a && b) ≡ true → b ≡ true
and_right true b h = h
and_right false b h = absurd cc

le_of : {a b : ℕ} → leb a b ≡ true → a ≤ b
le_of h = grind (arith, nat_tests)

pub falls_at : {A : Type 0} (f : A → ℕ) (xs : List A) (d : A) (j k : ℕ) → falls f xs ≡ true → j ≤ k → k < length xs → f (get_or xs k d) ≤ f (get_or xs j d)
falls_at f [] d j k h le lt = absurd (omega arith)
falls_at f (x ∷ xs) d zero zero h le lt = omega arith
falls_at f (x ∷ xs) d zero (suc k) h le lt = le_of (AllPass-from_list_all (λ y. leb (f y) (f x)) xs (and_left _ _ h) k d (omega arith))
falls_at f (x ∷ xs) d (suc j) zero h le lt = absurd (omega arith)
falls_at f (x ∷ xs) d (suc j) (suc k) h le lt = falls_at f xs d j k (and_right _ _ h) (omega arith) (omega arith)

-- a run that stops is the whole front
pub run_is : (p : ℕ → Bool) (xs ys : List ℕ) → list_all p xs ≡ true → StopsAt p ys → prefix_len p (xs ++ ys) ≡ length xs
run_is p [] [] h st = refl
run_is p [] (y ∷ ys) h st = rw st refl
run_is p (x ∷ xs) ys h st =
    let here : p x ≡ true = and_left (p x) _ h in
    let rest = run_is p xs ys (and_right (p x) _ h) st in
    rw (here, rest) (omega arith)

-- what a pattern `[a, b, rest @ ..]` calls the rest
pub rest_is : (n : ℕ) (xs : List ℕ) → take (length xs - n) (drop n xs) ≡ drop n xs
rest_is n xs = take_all (length xs - n) (drop n xs) (omega (arith, length-drop n xs))

-- numbers that differ fail the test
pub eqb-no : (a b : ℕ) → (a ≡ b → ⊥) → eqb a b ≡ false
eqb-no a b h = elim (eqb_tells a b) [ inl t ↦ absurd (h t.1) | inr t ↦ t.0 ]
