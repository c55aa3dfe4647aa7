-- What pages have for a location is what the list of their values has.
use Rattle.std.proofs.Common.{ℤ, ◌≡◌, ◌<◌, ◌≤◌, ◌+◌, ◌*◌, ◌%◌, ◌==◌, ◌&&◌, ℕ, suc, cond, List, [], ◌∷◌, ◌++◌, length, map, take, get_or, Bool, true, false, Option, Some, None, refl, sym, ap, ◌∙◌, inl, inr, arith, eqb-true, eq-eqb}
use Rattle.std.specs.declared.cmp.Ordering.{Ordering}
use Rattle.std.specs.declared.cmp.Ordering.TheVariants.{Less, Equal, Greater}
use Rattle.std.specs.Ordering.{is_eq, nat_cmp, ordering_then}
use Rattle.std.specs.Cmp.{unsigned_ties, nat_eq_equiv}
use Rattle.std.specs.List.{AllByRecursion}
use Rattle.std.specs.List.Sorted.{IsStrictlySortedBy}
use Rattle.std.specs.Map.{lookup, keys_of}
use Rattle.std.specs.Option.{option_map}
use Rattle.std.specs.BTreeMap.{is_at}
use Rattle.std.proofs.lemmas.Bool.{cases_eq, ne_eqb, and_parts}
use Rattle.std.proofs.lemmas.List.{get_or-take, length-take}
use Rattle.std.proofs.lemmas.Map.Keys.{sorted_head, sorted_tail}
use Rattle.std.proofs.lemmas.Nat.{div-add-mod'}
use Rattle.block_layout.specs.declared.place.Loc.{Loc}
use Rattle.block_layout.specs.declared.place.SharedPtr.{SharedPtr}
use Rattle.upc_values.specs.declared.scalar.Scalar.{Scalar}
use Rattle.upc_values.specs.declared.scalar.Scalar.TheVariants.{Int, Shared, Lock}
use Rattle.upc_values.specs.Scalars.{same_loc}
use Rattle.upc_values.specs.Openings.{given}
use Rattle.shared_heap.specs.declared.page_number.PageNumber.{PageNumber}
use Rattle.shared_heap.specs.code.Cells.{page_of, loc_at, from_offset, by_loc, found, all_cells}

-- the order of pages
abbrev pub order : PageNumber → PageNumber → Ordering
order p q = ordering_then (nat_cmp p.object q.object) (ordering_then (nat_cmp p.thread q.thread) (nat_cmp p.index q.index))

then-both : (p q : Ordering) → is_eq (ordering_then p q) ≡ (is_eq p && is_eq q)
then-both Less q = refl
then-both Equal q = refl
then-both Greater q = refl

-- a page is at a number where the numbers are the same
at-page : (p q : PageNumber) → is_at (order p) q ≡ ((p.object == q.object) && ((p.thread == q.thread) && (p.index == q.index)))
at-page p q =
    then-both (nat_cmp p.object q.object) (ordering_then (nat_cmp p.thread q.thread) (nat_cmp p.index q.index))
    ∙ ap (λ b. is_eq (nat_cmp p.object q.object) && b) (then-both (nat_cmp p.thread q.thread) (nat_cmp p.index q.index))
    ∙ ap (λ b. b && (is_eq (nat_cmp p.thread q.thread) && is_eq (nat_cmp p.index q.index))) (sym (unsigned_ties p.object q.object))
    ∙ ap (λ b. (p.object == q.object) && (b && is_eq (nat_cmp p.index q.index))) (sym (unsigned_ties p.thread q.thread))
    ∙ ap (λ b. (p.object == q.object) && ((p.thread == q.thread) && b)) (sym (unsigned_ties p.index q.index))

same-page : (p q : PageNumber) → is_at (order p) q ≡ true → p ≡ q
same-page p q h =
    let both = and_parts (p.object == q.object) ((p.thread == q.thread) && (p.index == q.index)) (sym (at-page p q) ∙ h) in
    let rest = and_parts (p.thread == q.thread) (p.index == q.index) both.1 in
    let a : PageNumber = record { object = q.object; thread = p.thread; index = p.index } in
    let b : PageNumber = record { object = q.object; thread = q.thread; index = p.index } in
    let first : p ≡ a = ap (λ o. record { object = o; thread = p.thread; index = p.index }) (eqb-true p.object q.object both.0) in
    let second : a ≡ b = ap (λ t. record { object = q.object; thread = t; index = p.index }) (eqb-true p.thread q.thread rest.0) in
    let third : b ≡ q = ap (λ i. record { object = q.object; thread = q.thread; index = i }) (eqb-true p.index q.index rest.1) in
    first ∙ second ∙ third

and-all : (a b c d : Bool) → (a && (b && (c && d))) ≡ ((a && (b && c)) && d)
and-all true true c d = refl
and-all true false c d = refl
and-all false b c d = refl

-- an offset of a piece is one of its page, and of one page alone
offsets : (a b i k : ℕ) → i < 1024 → k < 1024 → (a * 1024 + i == b * 1024 + k) ≡ ((a == b) && (i == k))
offsets a b i k li lk =
    elim (cases_eq a b) [
      | inl p ↦ elim (cases_eq i k) [
        | inl q ↦
            eq-eqb (a * 1024 + i) (b * 1024 + k) (omega arith)
            ∙ sym (ap (λ x. x && (i == k)) (eq-eqb a b p) ∙ eq-eqb i k q)
        | inr q ↦
            ne_eqb (a * 1024 + i) (b * 1024 + k) (λ e. q (omega arith))
            ∙ sym (ap (λ x. x && (i == k)) (eq-eqb a b p) ∙ ne_eqb i k q)
      ]
      | inr p ↦
          ne_eqb (a * 1024 + i) (b * 1024 + k) (λ e. p (omega arith))
          ∙ sym (ap (λ x. x && (i == k)) (ne_eqb a b p))
    ]

-- two offsets of pages are one location where the pages and the offsets are the same
same-locs : (p q : PageNumber) (i k : ℕ) → i < 1024 → k < 1024 → same_loc (loc_at p i) (loc_at q k) ≡ (is_at (order p) q && (i == k))
same-locs p q i k li lk =
    ap (λ b. (p.object == q.object) && ((p.thread == q.thread) && b)) (offsets p.index q.index i k li lk)
    ∙ and-all (p.object == q.object) (p.thread == q.thread) (p.index == q.index) (i == k)
    ∙ ap (λ b. b && (i == k)) (sym (at-page p q))

-- a location is an offset of its page
loc-parts : (l : Loc) → l ≡ loc_at (page_of l) (l.offset % 1024)
loc-parts l =
    let at : (o : ℕ) → Loc = λ o. record { object = l.object; thread = l.thread; offset = o } in
    ap at (sym (div-add-mod' l.offset 1024))

below : (n : ℕ) → n % 1024 < 1024
below n = omega arith

same-at : (l : Loc) (number : PageNumber) (at : ℕ) → number ≡ page_of l → at ≡ l.offset % 1024 → (k : Loc)
    → same_loc l k ≡ (is_at (order number) (page_of k) && (at == k.offset % 1024))
same-at l number at page offset k =
    let i = k.offset % 1024 in
    ap (λ m. same_loc m k) (loc-parts l) ∙ ap (same_loc (loc_at (page_of l) (l.offset % 1024))) (loc-parts k)
    ∙ same-locs (page_of l) (page_of k) (l.offset % 1024) i (below l.offset) (below k.offset)
    ∙ ap (λ p. is_at (order p) (page_of k) && (l.offset % 1024 == i)) (sym page)
    ∙ ap (λ n. is_at (order number) (page_of k) && (n == i)) (sym offset)

same_loc-turned : (l k : Loc) → same_loc l k ≡ same_loc k l
same_loc-turned l k =
    ap (λ b. b && ((l.thread == k.thread) && (l.offset == k.offset))) (nat_eq_equiv.symm l.object k.object)
    ∙ ap (λ b. (k.object == l.object) && (b && (l.offset == k.offset))) (nat_eq_equiv.symm l.thread k.thread)
    ∙ ap (λ b. (k.object == l.object) && ((k.thread == l.thread) && b)) (nat_eq_equiv.symm l.offset k.offset)

-- the first value, where there is one; else the second
abbrev pub or : {X : Type 0} → Option X → Option X → Option X
or (Some v) o = Some v
or None o = o

or-none : {X : Type 0} → (o : Option X) → or o None ≡ o
or-none (Some v) = refl
or-none None = refl

-- a value of one kind is found among all values
pub given-map : {X : Type 0} (f : X → Scalar) (l : Loc) (xs : List (Loc × X)) (ys : List (Loc × Scalar))
    → given l (map (λ e. (e.0, f e.1)) xs ++ ys) ≡ or (option_map f (found l xs)) (given l ys)
given-map f l [] ys = refl
given-map f l (x ∷ xs) ys =
    let rest : List (Loc × Scalar) = map (λ e. (e.0, f e.1)) xs ++ ys in
    let head : (b : Bool) → cond b (Some (f x.1)) (given l rest) ≡ or (option_map f (cond b (Some x.1) (found l xs))) (given l ys) =
    elim [ true ↦ refl | false ↦ given-map f l xs ys ] in
    ap (λ b. cond b (Some (f x.1)) (given l rest)) (same_loc-turned x.0 l) ∙ head (same_loc l x.0)

pub given-last : {X : Type 0} (f : X → Scalar) (l : Loc) (xs : List (Loc × X)) → given l (map (λ e. (e.0, f e.1)) xs) ≡ option_map f (found l xs)
given-last f l [] = refl
given-last f l (x ∷ xs) =
    let rest : List (Loc × Scalar) = map (λ e. (e.0, f e.1)) xs in
    let head : (b : Bool) → cond b (Some (f x.1)) (given l rest) ≡ option_map f (cond b (Some x.1) (found l xs)) =
    elim [ true ↦ refl | false ↦ given-last f l xs ] in
    ap (λ b. cond b (Some (f x.1)) (given l rest)) (same_loc-turned x.0 l) ∙ head (same_loc l x.0)

-- what all values give a location is what the first kind that has it gives
pub given-all : (l : Loc) (integers : List (Loc × ℤ)) (pointers : List (Loc × SharedPtr)) (locks : List (Loc × ℕ))
    → given l (all_cells integers pointers locks) ≡ or (option_map Int (found l integers)) (or (option_map Shared (found l pointers)) (option_map Lock (found l locks)))
given-all l integers pointers locks =
    given-map Int l integers (map (λ e. (e.0, Shared e.1)) pointers ++ map (λ e. (e.0, Lock e.1)) locks)
    ∙ ap (or (option_map Int (found l integers)))
    (given-map Shared l pointers (map (λ e. (e.0, Lock e.1)) locks)
    ∙ ap (or (option_map Shared (found l pointers))) (given-last Lock l locks))

-- a value is saved, or forgotten, in one kind
module _ {X : Type 0} (f : X → Scalar) where
  pub put-first : (s : Bool) (v : X) (a : Option X) (o : Option Scalar) → or (option_map f (cond s (Some v) a)) o ≡ cond s (Some (f v)) (or (option_map f a) o)
  put-first true v a o = refl
  put-first false v a o = refl

  pub put-next : (s : Bool) (a : Option X) (w o : Option Scalar) → or (option_map f (cond s None a)) (cond s w o) ≡ cond s w (or (option_map f a) o)
  put-next true a w o = refl
  put-next false a w o = refl

  pub put-last : (s : Bool) (v : X) (a : Option X) → option_map f (cond s (Some v) a) ≡ cond s (Some (f v)) (option_map f a)
  put-last true v a = refl
  put-last false v a = refl

module _ {X : Type 0} where
  found-append : (l : Loc) (xs ys : List (Loc × X)) → found l (xs ++ ys) ≡ or (found l xs) (found l ys)
  found-append l [] ys = refl
  found-append l (x ∷ xs) ys =
      let head : (b : Bool) → cond b (Some x.1) (found l (xs ++ ys)) ≡ or (cond b (Some x.1) (found l xs)) (found l ys) =
      elim [ true ↦ refl | false ↦ found-append l xs ys ] in
      head (same_loc l x.0)

  -- no offset from this one on is the location
  miss : (l : Loc) (p : PageNumber) (at : ℕ) (vs : List (Option X)) → ((i : ℕ) → at ≤ i → i < at + length vs → same_loc l (loc_at p i) ≡ false) → found l (from_offset p at vs) ≡ None
  miss l p at [] h = refl
  miss l p at (None ∷ vs) h = miss l p (at + 1) vs (λ i a b. h i (omega arith) (omega arith))
  miss l p at (Some v ∷ vs) h =
      ap (λ b. cond b (Some v) (found l (from_offset p (at + 1) vs))) (h at (omega arith) (omega arith))
      ∙ miss l p (at + 1) vs (λ i a b. h i (omega arith) (omega arith))

  -- one offset from this one on is the location
  hit : (l : Loc) (p : PageNumber) (at j n : ℕ) (vs : List (Option X)) → n ≡ at + j → ((i : ℕ) → at ≤ i → i < at + length vs → same_loc l (loc_at p i) ≡ (n == i)) → found l (from_offset p at vs) ≡ get_or vs j None
  hit l p at j n [] e h = refl
  hit l p at ℕ.zero n (None ∷ vs) e h =
      miss l p (at + 1) vs (λ i a b. h i (omega arith) (omega arith) ∙ ne_eqb n i (λ same. omega arith))
  hit l p at ℕ.zero n (Some v ∷ vs) e h =
      ap (λ b. cond b (Some v) (found l (from_offset p (at + 1) vs))) (h at (omega arith) (omega arith) ∙ eq-eqb n at (omega arith))
  hit l p at (suc j) n (None ∷ vs) e h = hit l p (at + 1) j n vs (omega arith) (λ i a b. h i (omega arith) (omega arith))
  hit l p at (suc j) n (Some v ∷ vs) e h =
      ap (λ b. cond b (Some v) (found l (from_offset p (at + 1) vs)))
      (h at (omega arith) (omega arith) ∙ ne_eqb n at (λ same. omega arith))
      ∙ hit l p (at + 1) j n vs (omega arith) (λ i a b. h i (omega arith) (omega arith))

  in-page : (q p : PageNumber) (k : ℕ) (vs : List (Option X)) → k < 1024 → (b : Bool) → is_at (order q) p ≡ b → found (loc_at q k) (from_offset p 0 (take 1024 vs)) ≡ cond b (get_or vs k None) None
  in-page q p k vs lk true e =
      let long = length-take 1024 vs in
      hit (loc_at q k) p 0 k k (take 1024 vs) (omega arith) (λ i a b. same-locs q p k i lk (omega arith) ∙ ap (λ c. c && (k == i)) e)
      ∙ get_or-take 1024 vs k None lk
  in-page q p k vs lk false e =
      let long = length-take 1024 vs in
      miss (loc_at q k) p 0 (take 1024 vs) (λ i a b. same-locs q p k i lk (omega arith) ∙ ap (λ c. c && (k == i)) e)

  -- what a page has at an offset, if there is a page
  abbrev pub at_page : ℕ → Option (List (Option X)) → Option X
  at_page k None = None
  at_page k (Some vs) = get_or vs k None

  none-past : (p : PageNumber) (es : List (PageNumber × List (Option X))) → AllByRecursion (λ q. order p q ≡ Less) (keys_of es) → lookup (is_at (order p)) es ≡ None
  none-past p [] h = refl
  none-past p (e ∷ es) h =
      ap (λ b. cond b (Some e.1) (lookup (is_at (order p)) es)) (ap is_eq h.0) ∙ none-past p es h.1

  first-page : (q : PageNumber) (k : ℕ) (e : PageNumber × List (Option X)) (es : List (PageNumber × List (Option X))) → k < 1024 → IsStrictlySortedBy order (keys_of (e ∷ es))
      → found (loc_at q k) (by_loc es) ≡ at_page k (lookup (is_at (order q)) es) → (b : Bool) → is_at (order q) e.0 ≡ b
      → or (cond b (get_or e.1 k None) None) (found (loc_at q k) (by_loc es)) ≡ at_page k (cond b (Some e.1) (lookup (is_at (order q)) es))
  first-page q k e es lk sorted rest true here =
      let past : lookup (is_at (order q)) es ≡ None =
      ap (λ p. lookup (is_at (order p)) es) (same-page q e.0 here)
      ∙ none-past e.0 es (sorted_head order e.0 (keys_of es) sorted) in
      ap (or (get_or e.1 k None)) (rest ∙ ap (at_page k) past) ∙ or-none (get_or e.1 k None)
  first-page q k e es lk sorted rest false here = rest

  in-pages : (q : PageNumber) (k : ℕ) (es : List (PageNumber × List (Option X))) → k < 1024 → IsStrictlySortedBy order (keys_of es)
      → found (loc_at q k) (by_loc es) ≡ at_page k (lookup (is_at (order q)) es)
  in-pages q k [] lk sorted = refl
  in-pages q k (e ∷ es) lk sorted =
      let rest = in-pages q k es lk (sorted_tail order e.0 (keys_of es) sorted) in
      found-append (loc_at q k) (from_offset e.0 0 (take 1024 e.1)) (by_loc es)
      ∙ ap (λ o. or o (found (loc_at q k) (by_loc es))) (in-page q e.0 k e.1 lk (is_at (order q) e.0) refl)
      ∙ first-page q k e es lk sorted rest (is_at (order q) e.0) refl

  -- the list has what the page of the location has at its offset
  pub found-by_loc : (l : Loc) (es : List (PageNumber × List (Option X))) → IsStrictlySortedBy order (keys_of es)
      → found l (by_loc es) ≡ at_page (l.offset % 1024) (lookup (is_at (order (page_of l))) es)
  found-by_loc l es sorted =
      ap (λ m. found m (by_loc es)) (loc-parts l) ∙ in-pages (page_of l) (l.offset % 1024) es (below l.offset) sorted

  changed-at : (at k : ℕ) (old new : List (Option X)) (w : Option X) (there : Option (List (Option X))) → get_or new k None ≡ cond (at == k) w (get_or old k None)
      → (b : Bool) → (b ≡ true → at_page k there ≡ get_or old k None) → at_page k (cond b (Some new) there) ≡ cond (b && (at == k)) w (at_page k there)
  changed-at at k old new w there write true h = write ∙ ap (cond (at == k) w) (sym (h refl))
  changed-at at k old new w there write false h = refl

  -- pages of which one is changed at one offset have another value at one location
  pub changed : (es ns : List (PageNumber × List (Option X))) (l : Loc) (number : PageNumber) (at : ℕ) (old new : List (Option X)) (w : Option X)
      → number ≡ page_of l → at ≡ l.offset % 1024 → IsStrictlySortedBy order (keys_of es) → IsStrictlySortedBy order (keys_of ns)
      → ((k : ℕ) → get_or new k None ≡ cond (at == k) w (get_or old k None)) → ((k : ℕ) → at_page k (lookup (is_at (order number)) es) ≡ get_or old k None)
      → ((q : PageNumber) → lookup (is_at (order q)) ns ≡ cond (is_at (order number) q) (Some new) (lookup (is_at (order q)) es))
      → (k : Loc) → found k (by_loc ns) ≡ cond (same_loc l k) w (found k (by_loc es))
  changed es ns l number at old new w page offset sorted sorted-new write was now k =
      let q = page_of k in
      let i = k.offset % 1024 in
      let there = lookup (is_at (order q)) es in
      let old-there : is_at (order number) q ≡ true → at_page i there ≡ get_or old i None =
      λ e. ap (λ r. at_page i (lookup (is_at (order r)) es)) (sym (same-page number q e)) ∙ was i in
      found-by_loc k ns sorted-new ∙ ap (at_page i) (now q)
      ∙ changed-at at i old new w there (write i) (is_at (order number) q) old-there
      ∙ ap (λ b. cond b w (at_page i there)) (sym (same-at l number at page offset k))
      ∙ ap (cond (same_loc l k) w) (sym (found-by_loc k es sorted))

  absent-at : (o : Option X) (b d : Bool) → (b ≡ true → o ≡ None) → o ≡ cond (b && d) None o
  absent-at o true true h = h refl
  absent-at o true false h = refl
  absent-at o false d h = refl

  -- pages of which none is the location's have no value there
  pub absent : (es : List (PageNumber × List (Option X))) (l : Loc) (number : PageNumber) → number ≡ page_of l → IsStrictlySortedBy order (keys_of es)
      → lookup (is_at (order number)) es ≡ None → (k : Loc) → found k (by_loc es) ≡ cond (same_loc l k) None (found k (by_loc es))
  absent es l number page sorted none k =
      let q = page_of k in
      let i = k.offset % 1024 in
      let at = l.offset % 1024 in
      let there = found k (by_loc es) in
      absent-at there (is_at (order number) q) (at == i)
      (λ e. found-by_loc k es sorted ∙ ap (λ r. at_page i (lookup (is_at (order r)) es)) (sym (same-page number q e)) ∙ ap (at_page i) none)
      ∙ ap (λ b. cond b None there) (sym (same-at l number at page refl k))
