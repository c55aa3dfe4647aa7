-- The numbers of functions, where one more is defined.
use Rattle.std.proofs.Common.{◌≡◌, ℕ, ◌+◌, ◌≤◌, ◌==◌, Bool, true, false, ◌||◌, if◌then◌else◌, List, [], ◌∷◌, ◌++◌, length, Option, Some, None, refl, ap, arith}
use Rattle.std.specs.List.{list_any}
use Rattle.std.proofs.lemmas.List.{append-nil}
use Rattle.std.proofs.lemmas.List.Folds.{list_any-append}
use Rattle.upc_checker_scopes.specs.Defined.{number_in}
use Rattle.upc_checker_scopes.specs.code.ViewDefined.{numbered, first_or}

most_by : (n m : ℕ) (b : Bool) → n ≤ m → (if b then 0 else n + 1) ≤ m + 1
most_by n m true h = omega arith
most_by n m false h = omega (arith, h)

-- A number is at most how many there are.
pub number_most : (names : List ℕ) (name : ℕ) → number_in names name ≤ length names
number_most [] name = omega arith
number_most (x ∷ names) name = let h = most_by (number_in names name) (length names) (x == name) (number_most names name) in omega (arith, h)

-- ---- more functions

kept_by : (n m : ℕ) (b d : Bool) → (b || d) ≡ true → (d ≡ true → n ≡ m) → (if b then 0 else n + 1) ≡ (if b then 0 else m + 1)
kept_by n m true d h f = refl
kept_by n m false d h f = ap (λ k. k + 1) (f h)

-- A function keeps its number.
kept : (names others : List ℕ) (name : ℕ) → list_any (λ x. x == name) names ≡ true → number_in (names ++ others) name ≡ number_in names name
kept [] others name h = absurd cc
kept (x ∷ names) others name h =
    kept_by (number_in (names ++ others) name) (number_in names name) (x == name) (list_any (λ y. y == name) names) h (kept names others name)

fresh_by : (n m : ℕ) (b d : Bool) → (b || d) ≡ false → (d ≡ false → n ≡ m) → (if b then 0 else n + 1) ≡ m + 1
fresh_by n m true d h f = absurd cc
fresh_by n m false d h f = ap (λ k. k + 1) (f h)

-- Another is counted after them.
fresh : (names others : List ℕ) (name : ℕ) → list_any (λ x. x == name) names ≡ false → number_in (names ++ others) name ≡ length names + number_in others name
fresh [] others name h = omega arith
fresh (x ∷ names) others name h =
    let e = fresh_by (number_in (names ++ others) name) (length names + number_in others name) (x == name) (list_any (λ y. y == name) names) h (fresh names others name) in
    omega (arith, e)

-- The new one is found after the others where it is none of them.
abbrev last : ℕ → Bool → Option ℕ
last count d = if d then Some count else None

new_by : (count : ℕ) (d : Bool) → (if d || false then Some (count + (if d then 0 else 1)) else None) ≡ last count d
new_by count true = let e : count + 0 ≡ count = omega arith in ap Some e
new_by count false = refl

more_by : (names : List ℕ) (x name : ℕ) (b : Bool) → list_any (λ y. y == name) names ≡ b →
    numbered (names ++ (x ∷ [])) name ≡ first_or (if b then Some (number_in names name) else None) (last (length names) (x == name))
more_by names x name true e = rw (list_any-append (λ y. y == name) names (x ∷ []), e, kept names (x ∷ []) name e) refl
more_by names x name false e = rw (list_any-append (λ y. y == name) names (x ∷ []), e, fresh names (x ∷ []) name e) (new_by (length names) (x == name))

pub numbered_more : (names : List ℕ) (x name : ℕ) → numbered (names ++ (x ∷ [])) name ≡ first_or (numbered names name) (if x == name then Some (length names) else None)
numbered_more names x name = more_by names x name (list_any (λ y. y == name) names) refl

-- ---- what is found

some_by : (n m : ℕ) (b : Bool) → (if b then Some m else None) ≡ Some n → m ≡ n
some_by n m true h = cc
some_by n m false h = absurd cc

pub numbered_some : (names : List ℕ) (name n : ℕ) → numbered names name ≡ Some n → number_in names name ≡ n
numbered_some names name n h = some_by n (number_in names name) (list_any (λ x. x == name) names) h

none_by : (m : ℕ) (b : Bool) → (if b then Some m else None) ≡ None → b ≡ false
none_by m true h = absurd cc
none_by m false h = refl

pub numbered_none : (names : List ℕ) (name : ℕ) → numbered names name ≡ None → number_in names name ≡ length names
numbered_none names name h =
    let e = fresh names [] name (none_by (number_in names name) (list_any (λ x. x == name) names) h) in
    let f : number_in (names ++ []) name ≡ number_in names name = ap (λ xs. number_in xs name) (append-nil names) in
    omega (arith, e, f)
