-- Lists of what has a number, searched at the places of a number alone.
use Rattle.std.proofs.Common.{◌≡◌, ℕ, zero, suc, ◌+◌, ◌<◌, ◌≤◌, Bool, true, false, if◌then◌else◌, nat_eq, nat_lt, List, [], ◌∷◌, ◌++◌, length, map, reverse, take, get_or, Option, Some, None, refl, sym, ap, ◌∙◌, arith}
use Rattle.std.proofs.lemmas.Bool.{eqb-true, ltb-true, ltb-false}
use Rattle.std.proofs.lemmas.List.{reverse-append, length-append, take_more, take_all, get_or_append_left, get_or_at, get_or-map}
use Rattle.upc_types.specs.layer.Places.{place_below, IsLinked}

-- How many places there are up to this one.
abbrev pub up_to : Option ℕ → ℕ
up_to None = 0
up_to (Some place) = suc place

plus_one : (m : ℕ) → m + 1 ≡ suc m
plus_one m = omega arith

-- ---- places among more names

pub below_more : (names : List ℕ) (x name n : ℕ) → n ≤ length names → place_below (names ++ (x ∷ [])) name n ≡ place_below names name n
below_more names x name zero h = refl
below_more names x name (suc n) h =
    rw (get_or_append_left names (x ∷ []) 0 n (omega (arith, h)), below_more names x name n (omega (arith, h))) refl

linked_by : (names : List ℕ) (links : List (Option ℕ)) (x place : ℕ) (b : Bool) → length links ≡ length names → IsLinked names links → nat_lt place (length names) ≡ b → place < length (names ++ (x ∷ [])) →
    get_or (links ++ (place_below names x (length names) ∷ [])) place None ≡ place_below (names ++ (x ∷ [])) (get_or (names ++ (x ∷ [])) place 0) place
linked_by names links x place true even linked e h =
    let below : place < length names = ltb-true place (length names) e in
    let a : get_or (links ++ (place_below names x (length names) ∷ [])) place None ≡ get_or links place None = get_or_append_left links _ None place (omega (arith, below, even)) in
    let n : get_or (names ++ (x ∷ [])) place 0 ≡ get_or names place 0 = get_or_append_left names (x ∷ []) 0 place below in
    a ∙ linked place below ∙ sym (below_more names x (get_or names place 0) place (omega (arith, below))) ∙ ap (λ k. place_below (names ++ (x ∷ [])) k place) (sym n)
linked_by names links x place false even linked e h =
    let above : length names ≤ place = ltb-false place (length names) e in
    let last : place ≡ length names = omega (arith, above, h, length-append names (x ∷ [])) in
    let a : get_or (links ++ (place_below names x (length names) ∷ [])) place None ≡ place_below names x (length names) = get_or_at links (place_below names x (length names)) [] None place (even ∙ sym last) in
    let n : get_or (names ++ (x ∷ [])) place 0 ≡ x = get_or_at names x [] 0 place (sym last) in
    a ∙ ap (place_below names x) (sym last) ∙ sym (below_more names x x place (omega (arith, last))) ∙ ap (λ k. place_below (names ++ (x ∷ [])) k place) (sym n)

-- One more name is linked to the latest one of the same name.
pub linked_more : (names : List ℕ) (links : List (Option ℕ)) (x : ℕ) → length links ≡ length names → IsLinked names links →
    IsLinked (names ++ (x ∷ [])) (links ++ (place_below names x (length names) ∷ []))
linked_more names links x even linked place h = linked_by names links x place (nat_lt place (length names)) even linked refl h

-- And is the latest of that name.
pub latest_more : (names : List ℕ) (x q : ℕ) → place_below (names ++ (x ∷ [])) q (length (names ++ (x ∷ []))) ≡ (if nat_eq x q then Some (length names) else place_below names q (length names))
latest_more names x q =
    let n : get_or (names ++ (x ∷ [])) (length names) 0 ≡ x = get_or_at names x [] 0 (length names) refl in
    let same : length names ≤ length names = omega arith in
    ap (place_below (names ++ (x ∷ [])) q) (length-append names (x ∷ []) ∙ plus_one (length names)) ∙ ap (λ k. if nat_eq k q then Some (length names) else place_below (names ++ (x ∷ [])) q (length names)) n ∙
    ap (λ o. if nat_eq x q then Some (length names) else o) (below_more names x q (length names) same)

-- ---- where a name is found

found_one : (names : List ℕ) (name n i : ℕ) (b : Bool) → nat_eq (get_or names n 0) name ≡ b → (if b then Some n else place_below names name n) ≡ Some i →
    (place_below names name n ≡ Some i → (i < n) × (get_or names i 0 ≡ name)) → (i < suc n) × (get_or names i 0 ≡ name)
found_one names name n i true e h f =
    let j : n ≡ i = cc in
    (omega (arith, j), ap (λ k. get_or names k 0) (sym j) ∙ eqb-true (get_or names n 0) name e)
found_one names name n i false e h f = let g = f h in (omega (arith, g.0), g.1)

-- A place that is found is below, and the name stands there.
pub found : (names : List ℕ) (name n i : ℕ) → place_below names name n ≡ Some i → (i < n) × (get_or names i 0 ≡ name)
found names name zero i h = absurd cc
found names name (suc n) i h = found_one names name n i (nat_eq (get_or names n 0) name) refl h (found names name n i)

-- A place at which that name stands, or none.
abbrev pub IsAt : List ℕ → ℕ → Option ℕ → Type 0
IsAt names name None = Unit {0}
IsAt names name (Some place) = (place < length names) × (get_or names place 0 ≡ name)

pub is_at : (names : List ℕ) (name n : ℕ) (o : Option ℕ) → n ≤ length names → o ≡ place_below names name n → IsAt names name o
is_at names name n None h e = tt
is_at names name n (Some i) h e = let f = found names name n i (sym e) in (omega (arith, f.0, h), f.1)

-- The latest of the first ones.
pub latest_of : {X : Type 0} (xs : List X) (d : X) (n : ℕ) → n < length xs → reverse (take (suc n) xs) ≡ get_or xs n d ∷ reverse (take n xs)
latest_of xs d n h = ap (λ k. reverse (take k xs)) (sym (plus_one n)) ∙ ap reverse (take_more xs n d h) ∙ reverse-append (take n xs) (get_or xs n d ∷ [])

-- ---- what a search leaves out

module _ {X : Type 0} {A : Type 0} (name_of : X → ℕ) (F : List X → A) (name : ℕ) (skip : (x : X) (ys : List X) → nat_eq (name_of x) name ≡ false → F (x ∷ ys) ≡ F ys) where
  skips_one : (xs : List X) (d : X) (n : ℕ) (o : Option ℕ) (b : Bool) → n < length xs → nat_eq (get_or (map name_of xs) n 0) name ≡ b →
      (if b then Some n else place_below (map name_of xs) name n) ≡ o →
      ((q : Option ℕ) → place_below (map name_of xs) name n ≡ q → F (reverse (take n xs)) ≡ F (reverse (take (up_to q) xs))) → F (reverse (take (suc n) xs)) ≡ F (reverse (take (up_to o) xs))
  skips_one xs d n o true h e i f = ap (λ q. F (reverse (take (up_to q) xs))) i
  skips_one xs d n o false h e i f =
      let m : get_or (map name_of xs) n 0 ≡ name_of (get_or xs n d) = get_or-map name_of xs n d 0 h in
      ap F (latest_of xs d n h) ∙ skip (get_or xs n d) (reverse (take n xs)) (ap (λ k. nat_eq k name) (sym m) ∙ e) ∙ f o i

  skips_in : (xs : List X) (d : X) (n : ℕ) (o : Option ℕ) → n ≤ length xs → place_below (map name_of xs) name n ≡ o → F (reverse (take n xs)) ≡ F (reverse (take (up_to o) xs))
  skips_in xs d zero o h i = ap (λ q. F (reverse (take (up_to q) xs))) i
  skips_in xs d (suc n) o h i =
      skips_one xs d n o (nat_eq (get_or (map name_of xs) n 0) name) (omega (arith, h)) refl i (λ q j. skips_in xs d n q (omega (arith, h)) j)

  -- Where a search passes over what has another name, only the places of the name count.
  pub skips : (xs : List X) (n : ℕ) (o : Option ℕ) → n ≤ length xs → place_below (map name_of xs) name n ≡ o → F (reverse (take n xs)) ≡ F (reverse (take (up_to o) xs))
  skips [] zero o h i = ap (λ q. F (reverse (take {A = X} (up_to q) []))) i
  skips [] (suc n) o h i = absurd (omega (arith, h))
  skips (x ∷ xs) n o h i = skips_in (x ∷ xs) x n o h i

  -- At first all count.
  pub begins : (xs : List X) (o : Option ℕ) → o ≡ place_below (map name_of xs) name (length xs) → F (reverse xs) ≡ F (reverse (take (up_to o) xs))
  begins xs o e = ap (λ ys. F (reverse ys)) (sym (take_all (length xs) xs (omega arith))) ∙ skips xs (length xs) o (omega arith) (sym e)

  -- After one that is passed over, the next place of the name.
  pub goes_back : (xs : List X) (d : X) (n : ℕ) (o : Option ℕ) → n < length xs → F (get_or xs n d ∷ reverse (take n xs)) ≡ F (reverse (take n xs)) → o ≡ place_below (map name_of xs) name n →
      F (reverse (take (suc n) xs)) ≡ F (reverse (take (up_to o) xs))
  goes_back xs d n o h pass e = ap F (latest_of xs d n h) ∙ pass ∙ skips xs n o (omega (arith, h)) (sym e)

-- The name of what stands at a place.
pub get_or-named : {X : Type 0} (name_of : X → ℕ) (xs : List X) (n : ℕ) (d : X) → n < length xs → get_or (map name_of xs) n 0 ≡ name_of (get_or xs n d)
get_or-named name_of xs n d h = get_or-map name_of xs n d 0 h

-- The next place is below.
pub falls : (names : List ℕ) (name place : ℕ) (o q : Option ℕ) → o ≡ Some place → q ≡ place_below names name place → up_to q < up_to o
falls names name place o None e f = let u : up_to o ≡ suc place = ap up_to e in omega (arith, u)
falls names name place o (Some i) e f =
    let u : up_to o ≡ suc place = ap up_to e in
    let b = found names name place i (sym f) in
    omega (arith, u, b.0)
