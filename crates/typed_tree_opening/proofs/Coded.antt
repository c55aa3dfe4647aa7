-- Shapes found by their codes.
use Rattle.std.proofs.Common.{◌≡◌, ◌≢◌, ℕ, suc, ◌+◌, ◌<◌, ◌≤◌, Bool, true, false, if◌then◌else◌, nat_eq, nat_lt}
use Rattle.std.proofs.Common.{List, [], ◌∷◌, ◌++◌, length, get_or, Option, Some, refl, sym, ap, ◌∙◌, subst, arith}
use Rattle.std.proofs.lemmas.Bool.{eq-eqb, eqb-true, eqb-false, ltb-true, ltb-false}
use Rattle.std.proofs.lemmas.List.{length-map, length-append, get_or_append_left, get_or_at, get_or-map}
use Rattle.block_layout.specs.declared.kind.Shape.{Shape}
use Rattle.upc_types.specs.layer.Places.{place_below}
use Rattle.upc_types.proofs.PlacesOfNumbers.{up_to}
use Rattle.upc_types.proofs.Coded.{skipped}
use Rattle.typed_tree.specs.Elements.{number_among}
use Rattle.typed_tree.specs.layer.Parts.{same_shape}
use Rattle.typed_tree_opening.specs.code.Apart.{code_of, codes_of, AreApart}
use Rattle.typed_tree_opening.proofs.Sound.{shape_is}
use Rattle.typed_tree_opening.proofs.Numbering.{number_before, number_behind}

-- Each shape has one code.
pub coded : (shapes : List Shape) → length (codes_of shapes) ≡ length shapes
coded shapes = length-map shapes code_of

unlike_one : (x s : Shape) (b : Bool) → same_shape x s ≡ b → nat_eq (code_of x) (code_of s) ≡ false → b ≡ false
unlike_one x s false h e = refl
unlike_one x s true h e =
    let same = eq-eqb (code_of x) (code_of s) (ap code_of (shape_is x s h)) in absurd cc

-- Between the latest place of a code and the end no shape is equal.
pub other_from : (shapes : List Shape) (s : Shape) (k : ℕ) (o : Option ℕ) → k ≤ length shapes →
    o ≡ place_below (codes_of shapes) (code_of s) k →
    (i : ℕ) (d : Shape) → up_to o ≤ i → i < k → same_shape (get_or shapes i d) s ≡ false
other_from shapes s k o few h i d low high =
    let x = get_or shapes i d in
    let e : get_or (codes_of shapes) i 0 ≡ code_of x =
    get_or-map code_of shapes i d 0 (omega (arith, few, high)) in
    unlike_one x s (same_shape x s) refl
    (ap (λ n. nat_eq n (code_of s)) (sym e) ∙ skipped (codes_of shapes) (code_of s) k o (sym h) i low high)

-- Where no shape is equal, the number is their count.
pub none_equal : (shapes : List Shape) (s : Shape) →
    ((i : ℕ) (d : Shape) → i < length shapes → same_shape (get_or shapes i d) s ≡ false) →
    number_among shapes s ≡ length shapes
none_equal [] s f = refl
none_equal (x ∷ shapes) s f =
    let e : same_shape x s ≡ false = f 0 x (omega arith) in
    let r = none_equal shapes s (λ i d h. f (suc i) d (omega (arith, h))) in
    ap (λ b. if b then 0 else number_among shapes s + 1) e ∙ (omega (arith, r))

apart_one : (shapes : List Shape) (s : Shape) → AreApart shapes → number_among shapes s ≡ length shapes →
    (i : ℕ) (d : Shape) (b : Bool) → nat_lt i (length shapes) ≡ b → i < length (shapes ++ (s ∷ [])) →
    number_among (shapes ++ (s ∷ [])) (get_or (shapes ++ (s ∷ [])) i d) ≡ i
apart_one shapes s apart new i d true e h =
    let below = ltb-true i (length shapes) e in
    let a = apart i d below in
    ap (number_among (shapes ++ (s ∷ []))) (get_or_append_left shapes (s ∷ []) d i below)
    ∙ number_before shapes (s ∷ []) (get_or shapes i d) (omega (arith, a, below)) ∙ a
apart_one shapes s apart new i d false e h =
    let above : length shapes ≤ i = ltb-false i (length shapes) e in
    let same : i ≡ length shapes = omega (arith, above, h, length-append shapes (s ∷ [])) in
    ap (number_among (shapes ++ (s ∷ []))) (get_or_at shapes s [] d i (sym same))
    ∙ number_behind shapes s (omega (arith, new)) ∙ new ∙ sym same

-- A shape that no other one equals is apart from them.
pub apart_more : (shapes : List Shape) (s : Shape) → AreApart shapes → number_among shapes s ≡ length shapes →
    AreApart (shapes ++ (s ∷ []))
apart_more shapes s apart new i d h = apart_one shapes s apart new i d (nat_lt i (length shapes)) refl h

-- A shape that is equal and stands at a place has that number.
pub number_at : (shapes : List Shape) (s d : Shape) (i : ℕ) → AreApart shapes → i < length shapes →
    same_shape (get_or shapes i d) s ≡ true → i ≡ number_among shapes s
number_at shapes s d i apart h e =
    sym (apart i d h) ∙ ap (number_among shapes) (shape_is (get_or shapes i d) s e)

other_cases : (shapes : List Shape) (s : Shape) (place : ℕ) (o at : Option ℕ) → place < length shapes →
    at ≡ Some place → o ≡ place_below (codes_of shapes) (code_of s) place →
    ((d : Shape) → same_shape (get_or shapes place d) s ≡ false) →
    ((i : ℕ) (d : Shape) → up_to at ≤ i → i < length shapes → same_shape (get_or shapes i d) s ≡ false) →
    (i : ℕ) (d : Shape) (b c : Bool) → nat_lt i place ≡ b → nat_eq i place ≡ c → up_to o ≤ i → i < length shapes →
    same_shape (get_or shapes i d) s ≡ false
other_cases shapes s place o at below a f here rest i d true c e k low high =
    other_from shapes s place o (omega (arith, below)) f i d low (ltb-true i place e)
other_cases shapes s place o at below a f here rest i d false true e k low high =
    subst (λ j. same_shape (get_or shapes j d) s ≡ false) (sym (eqb-true i place k)) (here d)
other_cases shapes s place o at below a f here rest i d false false e k low high =
    let u : up_to at ≡ suc place = ap up_to a in
    let above : place ≤ i = ltb-false i place e in
    let other : i ≢ place = eqb-false i place k in
    rest i d (omega (arith, u, above, other)) high

-- After one that is not equal, the next place of the code.
pub other_more : (shapes : List Shape) (s : Shape) (place : ℕ) (o at : Option ℕ) → place < length shapes →
    at ≡ Some place → o ≡ place_below (codes_of shapes) (code_of s) place →
    ((d : Shape) → same_shape (get_or shapes place d) s ≡ false) →
    ((i : ℕ) (d : Shape) → up_to at ≤ i → i < length shapes → same_shape (get_or shapes i d) s ≡ false) →
    (i : ℕ) (d : Shape) → up_to o ≤ i → i < length shapes → same_shape (get_or shapes i d) s ≡ false
other_more shapes s place o at below a f here rest i d low high =
    other_cases shapes s place o at below a f here rest i d (nat_lt i place) (nat_eq i place) refl refl low high
