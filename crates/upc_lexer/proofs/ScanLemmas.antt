-- A scan for what stands somewhere in some bytes, from byte to byte.
use Rattle.std.proofs.Common.{◌≡◌, ℕ, ◌+◌, ◌<◌, ◌≤◌, zero, suc, Bool, true, false, eqb, ◌||◌, List, [], ◌∷◌, length, get_or, drop, refl, sym, ap, ◌∙◌, arith}
use Rattle.std.proofs.lemmas.List.{drop_all}
use Rattle.upc_lexer.specs.Splices.{opens_trigraph, has_trigraph, opens_spliced_end, has_spliced_end}
use Rattle.upc_lexer.specs.Strings.{opens_octal, has_octal}

-- what stands somewhere stands at the front or further on
abbrev Scans : (List ℕ → Bool) → (List ℕ → Bool) → Type 0
Scans opens has = (b : ℕ) (bs : List ℕ) → has (b ∷ bs) ≡ (opens (b ∷ bs) || has bs)

step_on : (opens has : List ℕ → Bool) → Scans opens has → (xs : List ℕ) (i : ℕ) → i < length xs → opens (drop i xs) ≡ false → has (drop (suc i) xs) ≡ has (drop i xs)
step_on opens has s [] i lt h = absurd (omega arith)
step_on opens has s (x ∷ xs) zero lt h = sym (s x xs ∙ rw h refl)
step_on opens has s (x ∷ xs) (suc i) lt h = step_on opens has s xs i (omega arith) h

step_found : (opens has : List ℕ → Bool) → Scans opens has → (xs : List ℕ) (i : ℕ) → i < length xs → opens (drop i xs) ≡ true → has (drop i xs) ≡ true
step_found opens has s [] i lt h = absurd (omega arith)
step_found opens has s (x ∷ xs) zero lt h = s x xs ∙ rw h refl
step_found opens has s (x ∷ xs) (suc i) lt h = step_found opens has s xs i (omega arith) h

trigraph_scans : Scans opens_trigraph has_trigraph
trigraph_scans b bs = refl

end_scans : Scans opens_spliced_end has_spliced_end
end_scans b bs = refl

next_is : (i : ℕ) → i + 1 ≡ suc i
next_is i = omega arith

pub trigraph_on : (xs : List ℕ) (i : ℕ) → i < length xs → opens_trigraph (drop i xs) ≡ false → has_trigraph (drop (i + 1) xs) ≡ has_trigraph (drop i xs)
trigraph_on xs i lt h = rw next_is (step_on opens_trigraph has_trigraph trigraph_scans xs i lt h)

pub trigraph_found : (xs : List ℕ) (i : ℕ) → i < length xs → opens_trigraph (drop i xs) ≡ true → has_trigraph (drop i xs) ≡ true
trigraph_found xs i lt h = step_found opens_trigraph has_trigraph trigraph_scans xs i lt h

pub trigraph_none : (xs : List ℕ) (i : ℕ) → length xs ≤ i → has_trigraph (drop i xs) ≡ false
trigraph_none xs i le = ap has_trigraph (drop_all i xs le)

pub end_on : (xs : List ℕ) (i : ℕ) → i < length xs → opens_spliced_end (drop i xs) ≡ false → has_spliced_end (drop (i + 1) xs) ≡ has_spliced_end (drop i xs)
end_on xs i lt h = rw next_is (step_on opens_spliced_end has_spliced_end end_scans xs i lt h)

pub end_found : (xs : List ℕ) (i : ℕ) → i < length xs → opens_spliced_end (drop i xs) ≡ true → has_spliced_end (drop i xs) ≡ true
end_found xs i lt h = step_found opens_spliced_end has_spliced_end end_scans xs i lt h

pub end_none : (xs : List ℕ) (i : ℕ) → length xs ≤ i → has_spliced_end (drop i xs) ≡ false
end_none xs i le = ap has_spliced_end (drop_all i xs le)

-- an octal escape is scanned for by bytes and by escapes
octal_two : (a b : ℕ) (rest : List ℕ) → opens_octal (a ∷ b ∷ rest) ≡ false → eqb a 92 ≡ true → has_octal rest ≡ has_octal (a ∷ b ∷ rest)
octal_two a b rest h e = sym (rw (h, e) refl)

octal_one : (a : ℕ) (bs : List ℕ) → opens_octal (a ∷ bs) ≡ false → eqb a 92 ≡ false → has_octal bs ≡ has_octal (a ∷ bs)
octal_one a [] h e = refl
octal_one a (b ∷ rest) h e = sym (rw (h, e) refl)

octal_last : (a : ℕ) → has_octal [] ≡ has_octal (a ∷ [])
octal_last a = refl

pub octal_on : (xs : List ℕ) (i : ℕ) → i < length xs → opens_octal (drop i xs) ≡ false → eqb (get_or xs i 0) 92 ≡ false → has_octal (drop (i + 1) xs) ≡ has_octal (drop i xs)
octal_on [] i lt h e = absurd (omega arith)
octal_on (x ∷ xs) zero lt h e = octal_one x xs h e
octal_on (x ∷ xs) (suc i) lt h e = let n : suc i + 1 ≡ suc (i + 1) = omega arith in rw n (octal_on xs i (omega arith) h e)

pub octal_past : (xs : List ℕ) (i : ℕ) → i < length xs → opens_octal (drop i xs) ≡ false → eqb (get_or xs i 0) 92 ≡ true → has_octal (drop (i + 2) xs) ≡ has_octal (drop i xs)
octal_past [] i lt h e = absurd (omega arith)
octal_past (x ∷ []) zero lt h e = refl
octal_past (x ∷ y ∷ xs) zero lt h e = octal_two x y xs h e
octal_past (x ∷ xs) (suc i) lt h e = let n : suc i + 2 ≡ suc (i + 2) = omega arith in rw n (octal_past xs i (omega arith) h e)

octal_here : (bs : List ℕ) → opens_octal bs ≡ true → has_octal bs ≡ true
octal_here [] h = h
octal_here (a ∷ []) h = h
octal_here (a ∷ b ∷ rest) h = rw h refl

pub octal_found : (xs : List ℕ) (i : ℕ) → opens_octal (drop i xs) ≡ true → has_octal (drop i xs) ≡ true
octal_found xs i h = octal_here (drop i xs) h

pub octal_none : (xs : List ℕ) (i : ℕ) → length xs ≤ i → has_octal (drop i xs) ≡ false
octal_none xs i le = ap has_octal (drop_all i xs le)
