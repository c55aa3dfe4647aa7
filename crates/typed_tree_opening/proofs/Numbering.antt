-- A shape keeps its number while more get theirs.
use Rattle.std.proofs.Common.{◌≡◌, ℕ, ◌+◌, ◌<◌, ◌≤◌, suc, Bool, true, false, nat_lt, if◌then◌else◌, List, [], ◌∷◌, ◌++◌, length, refl, ap, ◌∙◌, arith}
use Rattle.std.proofs.lemmas.Bool.{ltb-true, ltb-false}
use Rattle.std.proofs.lemmas.List.{length-append}
use Rattle.block_layout.specs.declared.kind.Shape.{Shape}
use Rattle.typed_tree.specs.Elements.{number_among, with_shape}
use Rattle.typed_tree.specs.layer.Parts.{same_shape, with_shapes}
use Rattle.typed_tree_opening.proofs.Sound.{shape_itself}

before_one : (b : Bool) (n m count : ℕ) → (n < count → m ≡ n) → (if b then 0 else n + 1) < suc count → (if b then 0 else m + 1) ≡ (if b then 0 else n + 1)
before_one true n m count f h = refl
before_one false n m count f h = ap (λ k. k + 1) (f (omega arith))

-- A shape has the same number where more stand after it.
pub number_before : (xs ys : List Shape) (s : Shape) → number_among xs s < length xs → number_among (xs ++ ys) s ≡ number_among xs s
number_before [] ys s h = absurd (omega arith)
number_before (x ∷ xs) ys s h = before_one (same_shape x s) (number_among xs s) (number_among (xs ++ ys) s) (length xs) (number_before xs ys s) h

behind_one : (b : Bool) (n m count : ℕ) → (count ≤ n → m ≡ n) → suc count ≤ (if b then 0 else n + 1) → (if b then 0 else m + 1) ≡ (if b then 0 else n + 1)
behind_one true n m count f h = refl
behind_one false n m count f h = ap (λ k. k + 1) (f (omega arith))

-- A new one gets the number that it was to have.
pub number_behind : (xs : List Shape) (s : Shape) → length xs ≤ number_among xs s → number_among (xs ++ (s ∷ [])) s ≡ number_among xs s
number_behind [] s h = rw (shape_itself s) refl
number_behind (x ∷ xs) s h = behind_one (same_shape x s) (number_among xs s) (number_among (xs ++ (s ∷ [])) s) (length xs) (number_behind xs s) h

most_one : (b : Bool) (n count : ℕ) → n ≤ count → (if b then 0 else n + 1) ≤ suc count
most_one true n count h = omega arith
most_one false n count h = omega arith

most : (xs : List Shape) (s : Shape) → number_among xs s ≤ length xs
most [] s = omega arith
most (x ∷ xs) s = most_one (same_shape x s) (number_among xs s) (length xs) (most xs s)

-- A shape that has a number, or got one, has it.
pub new_by : (xs : List Shape) (s : Shape) (b : Bool) → nat_lt (number_among xs s) (length xs) ≡ b → (number_among (if b then xs else xs ++ (s ∷ [])) s ≡ number_among xs s) × (number_among (if b then xs else xs ++ (s ∷ [])) s < length (if b then xs else xs ++ (s ∷ [])))
new_by xs s true e = (refl, ltb-true (number_among xs s) (length xs) e)
new_by xs s false e =
    let same = number_behind xs s (ltb-false (number_among xs s) (length xs) e) in
    (same, omega (arith, same, most xs s, length-append xs (s ∷ [])))

-- A shape that has a number keeps it when one more has.
pub more_by : (xs : List Shape) (x s : Shape) (b : Bool) → number_among xs s < length xs → (number_among (if b then xs else xs ++ (x ∷ [])) s ≡ number_among xs s) × (length xs ≤ length (if b then xs else xs ++ (x ∷ [])))
more_by xs x s true h = (refl, omega arith)
more_by xs x s false h = (number_before xs (x ∷ []) s h, omega (arith, length-append xs (x ∷ [])))

number_stays : (xs ss : List Shape) (s : Shape) → number_among xs s < length xs → number_among (with_shapes xs ss) s ≡ number_among xs s
number_stays xs [] s h = refl
number_stays xs (x ∷ ss) s h =
    let p = more_by xs x s (nat_lt (number_among xs x) (length xs)) h in
    number_stays (with_shape xs x) ss s (omega (arith, h, p.0, p.1)) ∙ p.0

-- A shape that has a number, or got one, has it among all.
pub kept_number : (xs ss : List Shape) (s : Shape) → number_among (with_shapes (with_shape xs s) ss) s ≡ number_among xs s
kept_number xs ss s =
    let p = new_by xs s (nat_lt (number_among xs s) (length xs)) refl in
    number_stays (with_shape xs s) ss s p.1 ∙ p.0
