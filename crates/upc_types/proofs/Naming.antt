-- Members found by their names.
use Rattle.std.proofs.Common.{◌≡◌, ℕ, zero, suc, ◌+◌, ◌<◌, Bool, true, false, nat_eq, if◌then◌else◌, List, [], ◌∷◌, ◌++◌, length, map, take, get_or, Option, Some, None, is_some, refl, sym, ap, ◌∙◌, subst, arith}
use Rattle.std.proofs.lemmas.List.{map-append, length-map, length-take-le, take_more}
use Rattle.std.proofs.lemmas.Map.Text.{is_eq-slice_cmp}
use Rattle.std.specs.BTreeMap.{BTreeMap, UpdatesBy, is_at}
use Rattle.std.specs.Cmp.{eq_by_cmp_equiv}
use Rattle.std.specs.Cmp.Lexicographic.{pointwise, slice_cmp, bytes_decides, nat_list_cmp_total, nat_list_eq_equiv}
use Rattle.std.specs.Map.{lookup, IsKeyTest, AreApart, KeepsOthers}
use Rattle.std.specs.Ordering.{is_eq, nat_cmp, eq_by_cmp}
use Rattle.upc_types.specs.declared.structs.Member as c
use Rattle.upc_types.specs.Types.{Member}
use Rattle.upc_types.specs.View.{view_member}
use Rattle.upc_types.specs.layer.Named.{one_more, first_named, at_name, first_or}

-- ---- names in a map

other_entries : {K X : Type 0} (eq : K → K → Bool) (test : K → Bool) (old new : List (K × X)) → KeepsOthers eq test old new → (other : K → Bool) → IsKeyTest eq other → AreApart test other → lookup other new ≡ lookup other old
unfolding KeepsOthers
other_entries eq test old new h = h

apart : (bs cs ks : List ℕ) → pointwise nat_eq bs cs ≡ false → is_eq (slice_cmp nat_cmp bs ks) ≡ true → is_eq (slice_cmp nat_cmp cs ks) ≡ false
apart bs cs ks n y =
    let e : bs ≡ ks = (bytes_decides bs ks).0 (sym (is_eq-slice_cmp bs ks) ∙ y) in
    is_eq-slice_cmp cs ks ∙ subst (λ l. pointwise nat_eq cs l ≡ false) e (nat_list_eq_equiv.symm cs bs ∙ n)

module _ {K : Type 0} (m n : BTreeMap K ℕ) (bytes : K → List ℕ) (name : List ℕ) (w : Option ℕ) (h : UpdatesBy (λ x y. slice_cmp nat_cmp (bytes x) (bytes y)) (λ k. slice_cmp nat_cmp name (bytes k)) m n w) where
  put_one : (q : List ℕ) (b : Bool) → pointwise nat_eq name q ≡ b → at_name n bytes q ≡ (if b then w else at_name m bytes q)
  put_one q true e = subst (λ l. at_name n bytes l ≡ w) ((bytes_decides name q).0 e) h.1
  put_one q false e =
      other_entries (eq_by_cmp (λ x y. slice_cmp nat_cmp (bytes x) (bytes y))) (is_at (λ k. slice_cmp nat_cmp name (bytes k))) m.entries n.entries h.3
      (is_at (λ k. slice_cmp nat_cmp q (bytes k)))
      (λ x y. (eq_by_cmp_equiv nat_list_cmp_total).congr q (bytes x) (bytes y))
      (λ k. apart name q (bytes k) e)

  -- A value that is put at a name is there, and at other names are those before.
  pub put : (q : List ℕ) → at_name n bytes q ≡ (if pointwise nat_eq name q then w else at_name m bytes q)
  put q = put_one q (pointwise nat_eq name q) refl

module _ {K : Type 0} (m : BTreeMap K ℕ) (bytes : K → List ℕ) (name : List ℕ) (number : ℕ) where
  old_one : is_some (at_name m bytes name) ≡ true → (q : List ℕ) (o : Option ℕ) (b : Bool) → at_name m bytes q ≡ o → pointwise nat_eq name q ≡ b → o ≡ first_or o (if b then Some number else None)
  old_one h q (Some n) b e f = refl
  old_one h q None false e f = refl
  old_one h q None true e f =
      let same : is_some (at_name m bytes q) ≡ true = subst (λ l. is_some (at_name m bytes l) ≡ true) ((bytes_decides name q).0 f) h in
      let none : is_some (at_name m bytes q) ≡ false = ap is_some e in
      absurd cc

  -- A name that has a number keeps it.
  pub stays : is_some (at_name m bytes name) ≡ true → (q : List ℕ) → at_name m bytes q ≡ first_or (at_name m bytes q) (if pointwise nat_eq name q then Some number else None)
  stays h q = old_one h q (at_name m bytes q) (pointwise nat_eq name q) refl refl

  new_one : is_some (at_name m bytes name) ≡ false → (q : List ℕ) (o : Option ℕ) (b : Bool) → at_name m bytes q ≡ o → pointwise nat_eq name q ≡ b → (if b then Some number else o) ≡ first_or o (if b then Some number else None)
  new_one h q None b e f = refl
  new_one h q (Some n) false e f = refl
  new_one h q (Some n) true e f =
      let same : is_some (at_name m bytes q) ≡ false = subst (λ l. is_some (at_name m bytes l) ≡ false) ((bytes_decides name q).0 f) h in
      let some : is_some (at_name m bytes q) ≡ true = ap is_some e in
      absurd cc

  -- A name that has none gets it.
  pub comes : is_some (at_name m bytes name) ≡ false → (q : List ℕ) → (if pointwise nat_eq name q then Some number else at_name m bytes q) ≡ first_or (at_name m bytes q) (if pointwise nat_eq name q then Some number else None)
  comes h q = new_one h q (at_name m bytes q) (pointwise nat_eq name q) refl refl

-- ---- the first member of a name

later : (o : Option ℕ) (c : Bool) (n : ℕ) → one_more (first_or o (if c then Some n else None)) ≡ first_or (one_more o) (if c then Some (suc n) else None)
later None true n = refl
later None false n = refl
later (Some k) c n = refl

more_one : (b c : Bool) (o r : Option ℕ) (n : ℕ) → r ≡ first_or o (if c then Some n else None) → (if b then Some zero else one_more r) ≡ first_or (if b then Some zero else one_more o) (if c then Some (suc n) else None)
more_one true c o r n h = refl
more_one false c o r n h = ap one_more h ∙ later o c n

-- One more member is the first of its name where none before it has it.
first_more : (ms : List Member) (m : Member) (q : List ℕ) → first_named (ms ++ (m ∷ [])) q ≡ first_or (first_named ms q) (if pointwise nat_eq m.name q then Some (length ms) else None)
first_more [] m q = refl
first_more (x ∷ ms) m q = more_one (pointwise nat_eq x.name q) (pointwise nat_eq m.name q) (first_named ms q) (first_named (ms ++ (m ∷ [])) q) (length ms) (first_more ms m q)

-- The same, member by member.
pub first_step : (xs : List c.Member) (i : ℕ) (x : c.Member) → i < length xs → x ≡ get_or xs i x → (q : List ℕ) →
    first_named (map view_member (take (i + 1) xs)) q ≡ first_or (first_named (map view_member (take i xs)) q) (if pointwise nat_eq x.name q then Some i else None)
first_step xs i x h e q =
    let old = map view_member (take i xs) in
    let n : length old ≡ i = length-map (take i xs) view_member ∙ length-take-le i xs (omega (arith, h)) in
    ap (λ l. first_named (map view_member l) q) (take_more xs i x h ∙ ap (λ (y : c.Member). take i xs ++ (y ∷ [])) (sym e))
    ∙ ap (λ l. first_named l q) (map-append view_member (take i xs) (x ∷ []))
    ∙ first_more old (view_member x) q
    ∙ ap (λ k. first_or (first_named old q) (if pointwise nat_eq x.name q then Some k else None)) n

below_one : (b : Bool) (o : Option ℕ) (n i : ℕ) → (if b then Some zero else one_more o) ≡ Some i → ((j : ℕ) → o ≡ Some j → j < n) → i < suc n
below_one true o n i h f = let e : zero ≡ i = cc in omega (arith, e)
below_one false None n i h f = absurd cc
below_one false (Some j) n i h f = let e : suc j ≡ i = cc in omega (arith, e, f j refl)

-- A member that is found is one of them.
pub first_below : (ms : List Member) (q : List ℕ) (i : ℕ) → first_named ms q ≡ Some i → i < length ms
first_below [] q i h = absurd cc
first_below (m ∷ ms) q i h = below_one (pointwise nat_eq m.name q) (first_named ms q) (length ms) i h (λ j e. first_below ms q j e)
