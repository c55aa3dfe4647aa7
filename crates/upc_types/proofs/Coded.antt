-- Targets found by their codes.
use Rattle.std.proofs.Common.{◌≡◌, ◌≢◌, ℕ, zero, suc, ◌+◌, ◌<◌, ◌≤◌, Bool, true, false, if◌then◌else◌, nat_eq, nat_lt, List, [], ◌∷◌, ◌++◌, length, get_or, Option, Some, refl, sym, ap, ◌∙◌, subst, arith}
use Rattle.std.proofs.lemmas.Bool.{eq-eqb, eqb-true, eqb-false, ltb-true, ltb-false, lt-ltb, le-ltb}
use Rattle.std.proofs.lemmas.List.{length-append, get_or_append_left, get_or_at, get_or-map}
use Rattle.std.specs.Hash.DefaultHasher as sip
use Rattle.upc_types.specs.Types.{CType, Qualified}
use Rattle.upc_types.specs.Cells.{alike, number_of, noted}
use Rattle.upc_types.specs.code.TypeCodes.{code_of, with_block, with_base}
use Rattle.upc_types.specs.code.Targets.{AreApart, codes_of}
use Rattle.upc_types.specs.layer.Places.{place_below}
use Rattle.upc_types.proofs.Numbers.{last}
use Rattle.upc_types.proofs.Equal.{parts, number_same}
use Rattle.upc_types.proofs.PlacesOfNumbers.{up_to}

-- ---- what a search by places leaves out

skipped_one : (numbers : List ℕ) (n k : ℕ) (o : Option ℕ) (b : Bool) → nat_eq (get_or numbers k 0) n ≡ b → (if b then Some k else place_below numbers n k) ≡ o →
    ((q : Option ℕ) → place_below numbers n k ≡ q → (i : ℕ) → up_to q ≤ i → i < k → nat_eq (get_or numbers i 0) n ≡ false) →
    (i : ℕ) (c : Bool) → nat_lt i k ≡ c → up_to o ≤ i → i < suc k → nat_eq (get_or numbers i 0) n ≡ false
skipped_one numbers n k o true e h f i c g low high = let u : suc k ≡ up_to o = ap up_to h in absurd (omega (arith, u, low, high))
skipped_one numbers n k o false e h f i true g low high = f o h i low (ltb-true i k g)
skipped_one numbers n k o false e h f i false g low high =
    let above : k ≤ i = ltb-false i k g in
    let same : k ≡ i = omega (arith, above, high) in
    subst (λ j. nat_eq (get_or numbers j 0) n ≡ false) same e

-- Between the latest place of a number and the end another number stands everywhere.
pub skipped : (numbers : List ℕ) (n k : ℕ) (o : Option ℕ) → place_below numbers n k ≡ o → (i : ℕ) → up_to o ≤ i → i < k → nat_eq (get_or numbers i 0) n ≡ false
skipped numbers n zero o h i low high = absurd (omega (arith, high))
skipped numbers n (suc k) o h i low high =
    skipped_one numbers n k o (nat_eq (get_or numbers k 0) n) refl h (λ q j. skipped numbers n k q j) i (nat_lt i k) refl low high

-- ---- codes

-- Targets that are alike have one code.
pub code_same : (t u : CType) → alike t u ≡ true → code_of t ≡ code_of u
code_same (Qualified a c s x) (Qualified b d t y) h =
    let p = parts (Qualified a c s x) (Qualified b d t y) h in
    ap (λ m. sip.finish (with_base (with_block sip.initial s) m)) p.0 ∙ ap (λ n. sip.finish (with_base (with_block sip.initial n) b)) p.1

unlike_one : (t u : CType) (b : Bool) → alike t u ≡ b → nat_eq (code_of t) (code_of u) ≡ false → b ≡ false
unlike_one t u false h e = refl
unlike_one t u true h e = let same = eq-eqb (code_of t) (code_of u) (code_same t u h) in absurd cc

-- Targets with other codes are not alike.
unlike : (t u : CType) → nat_eq (code_of t) (code_of u) ≡ false → alike t u ≡ false
unlike t u e = unlike_one t u (alike t u) refl e

-- Between the latest place of a code and the end no target is alike.
pub unlike_from : (targets : List CType) (t : CType) (k : ℕ) (o : Option ℕ) → k ≤ length targets → o ≡ place_below (codes_of targets) (code_of t) k →
    (i : ℕ) (d : CType) → up_to o ≤ i → i < k → alike (get_or targets i d) t ≡ false
unlike_from targets t k o few h i d low high =
    let e : get_or (codes_of targets) i 0 ≡ code_of (get_or targets i d) = get_or-map code_of targets i d 0 (omega (arith, few, high)) in
    unlike (get_or targets i d) t (ap (λ n. nat_eq n (code_of t)) (sym e) ∙ skipped (codes_of targets) (code_of t) k o (sym h) i low high)

-- ---- numbers

-- Where no target is alike, the number is their count.
pub none_alike : (targets : List CType) (t : CType) → ((i : ℕ) (d : CType) → i < length targets → alike (get_or targets i d) t ≡ false) → number_of targets t ≡ length targets
none_alike [] t f = refl
none_alike (x ∷ targets) t f =
    let e : alike x t ≡ false = f 0 x (omega arith) in
    let r = none_alike targets t (λ i d h. f (suc i) d (omega (arith, h))) in
    ap (λ b. if b then 0 else number_of targets t + 1) e ∙ (omega (arith, r))

more_one : (b : Bool) (n m len : ℕ) → (if b then 0 else n + 1) < len + 1 → (n < len → m ≡ n) → (if b then 0 else m + 1) ≡ (if b then 0 else n + 1)
more_one true n m len h f = refl
more_one false n m len h f = ap (λ k. k + 1) (f (omega (arith, h)))

number_more : (targets : List CType) (x y : CType) → number_of targets x < length targets → number_of (targets ++ (y ∷ [])) x ≡ number_of targets x
number_more [] x y h = absurd (omega (arith, h))
number_more (t ∷ targets) x y h =
    more_one (alike t x) (number_of targets x) (number_of (targets ++ (y ∷ [])) x) (length targets) (omega (arith, h)) (number_more targets x y)

apart_one : (targets : List CType) (t : CType) → AreApart targets → number_of targets t ≡ length targets → (i : ℕ) (d : CType) (b : Bool) → nat_lt i (length targets) ≡ b →
    i < length (targets ++ (t ∷ [])) → number_of (targets ++ (t ∷ [])) (get_or (targets ++ (t ∷ [])) i d) ≡ i
apart_one targets t apart new i d true e h =
    let below = ltb-true i (length targets) e in
    let a = apart i d below in
    ap (number_of (targets ++ (t ∷ []))) (get_or_append_left targets (t ∷ []) d i below)
    ∙ number_more targets (get_or targets i d) t (omega (arith, a, below)) ∙ a
apart_one targets t apart new i d false e h =
    let above : length targets ≤ i = ltb-false i (length targets) e in
    let same : i ≡ length targets = omega (arith, above, h, length-append targets (t ∷ [])) in
    ap (number_of (targets ++ (t ∷ []))) (get_or_at targets t [] d i (sym same)) ∙ last targets t new ∙ sym same

-- A target that no other one is alike is apart from them.
pub apart_more : (targets : List CType) (t : CType) → AreApart targets → number_of targets t ≡ length targets → AreApart (targets ++ (t ∷ []))
apart_more targets t apart new i d h = apart_one targets t apart new i d (nat_lt i (length targets)) refl h

-- A target that is alike and stands at a place has that number.
pub number_at : (targets : List CType) (t d : CType) (i : ℕ) → AreApart targets → i < length targets → alike (get_or targets i d) t ≡ true → i ≡ number_of targets t
number_at targets t d i apart h e = sym (apart i d h) ∙ number_same targets (get_or targets i d) t e

unlike_cases : (targets : List CType) (t : CType) (place : ℕ) (o at : Option ℕ) → place < length targets → at ≡ Some place → o ≡ place_below (codes_of targets) (code_of t) place →
    ((d : CType) → alike (get_or targets place d) t ≡ false) → ((i : ℕ) (d : CType) → up_to at ≤ i → i < length targets → alike (get_or targets i d) t ≡ false) →
    (i : ℕ) (d : CType) (b c : Bool) → nat_lt i place ≡ b → nat_eq i place ≡ c → up_to o ≤ i → i < length targets → alike (get_or targets i d) t ≡ false
unlike_cases targets t place o at below s f here rest i d true c e k low high = unlike_from targets t place o (omega (arith, below)) f i d low (ltb-true i place e)
unlike_cases targets t place o at below s f here rest i d false true e k low high = subst (λ j. alike (get_or targets j d) t ≡ false) (sym (eqb-true i place k)) (here d)
unlike_cases targets t place o at below s f here rest i d false false e k low high =
    let u : up_to at ≡ suc place = ap up_to s in
    let above : place ≤ i = ltb-false i place e in
    let other : i ≢ place = eqb-false i place k in
    rest i d (omega (arith, u, above, other)) high

-- After one that is not alike, the next place of the code.
pub unlike_more : (targets : List CType) (t : CType) (place : ℕ) (o at : Option ℕ) → place < length targets → at ≡ Some place → o ≡ place_below (codes_of targets) (code_of t) place →
    ((d : CType) → alike (get_or targets place d) t ≡ false) → ((i : ℕ) (d : CType) → up_to at ≤ i → i < length targets → alike (get_or targets i d) t ≡ false) →
    (i : ℕ) (d : CType) → up_to o ≤ i → i < length targets → alike (get_or targets i d) t ≡ false
unlike_more targets t place o at below s f here rest i d low high =
    unlike_cases targets t place o at below s f here rest i d (nat_lt i place) (nat_eq i place) refl refl low high

pub noted_old : (targets : List CType) (t : CType) → number_of targets t < length targets → noted targets t ≡ targets
noted_old targets t h = ap (λ b. if b then targets else targets ++ (t ∷ [])) (lt-ltb (number_of targets t) (length targets) h)

pub noted_new : (targets : List CType) (t : CType) → number_of targets t ≡ length targets → noted targets t ≡ targets ++ (t ∷ [])
noted_new targets t h =
    let same : length targets ≤ number_of targets t = omega (arith, h) in
    ap (λ b. if b then targets else targets ++ (t ∷ [])) (le-ltb (number_of targets t) (length targets) same)
