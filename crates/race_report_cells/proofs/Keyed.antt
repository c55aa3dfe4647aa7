-- Races by their locations.
use Rattle.std.proofs.Common.{◌≡◌, ℕ, ◌<◌, List, [], ◌∷◌, map, ◌⊎◌, refl, sym, ap, ◌∙◌, inl, inr}
use Rattle.std.specs.List.{AllByRecursion}
use Rattle.std.specs.List.Sorted.{IsStrictlySortedBy}
use Rattle.std.specs.Map.{keys_of}
use Rattle.std.specs.BTreeMap.{insert_entry}
use Rattle.std.specs.Ordering.{nat_cmp, ordering_then, match_ordering}
use Rattle.std.specs.declared.cmp.Ordering.{Ordering}
use Rattle.std.specs.declared.cmp.Ordering.TheVariants.{Less, Equal, Greater}
use Rattle.std.proofs.lemmas.Cmp.{ranked}
use Rattle.std.proofs.lemmas.Map.Keys.{sorted_head, sorted_tail}
use Rattle.block_layout.specs.declared.place.Loc.{Loc}
use Rattle.upc_values.specs.Lists.{Each, Has, Pairwise}
use Rattle.race_report_places.specs.declared.report.Race.{Race}
use Rattle.race_report_places.specs.Report.{IsBelow}
use Rattle.race_report_cells.specs.declared.found.Spot.{Spot}
use Rattle.race_report_cells.specs.layer.Found.{spot_of, spot_cmp, IsKeyedBy, ArePut}

-- orders
then-less : (o p : Ordering) → ordering_then o p ≡ Less → (o ≡ Less) ⊎ ((o ≡ Equal) × (p ≡ Less))
then-less Less p h = inl refl
then-less Equal p h = inr (refl, h)
then-less Greater p h = absurd cc

then-equal : (o p : Ordering) → ordering_then o p ≡ Equal → (o ≡ Equal) × (p ≡ Equal)
then-equal Less p h = absurd cc
then-equal Equal p h = (refl, h)
then-equal Greater p h = absurd cc

is-less : (x y : ℕ) → nat_cmp x y ≡ Less → x < y
is-less x y h = ranked x y Less (sym h)

is-equal : (x y : ℕ) → nat_cmp x y ≡ Equal → x ≡ y
is-equal x y h = ranked x y Equal (sym h)

spot-is : (a b c d e f : ℕ) → a ≡ d → b ≡ e → c ≡ f
    → ◌≡◌ {A = Spot} (record { object = a; thread = b; offset = c }) (record { object = d; thread = e; offset = f })
spot-is a b c d e f p q r = cc

-- spots that compare alike are one
exact : (a b : Spot) → spot_cmp a b ≡ Equal → a ≡ b
exact a b h =
    let more = ordering_then (nat_cmp a.thread b.thread) (nat_cmp a.offset b.offset) in
    let p = then-equal (nat_cmp a.object b.object) more h in
    let q = then-equal (nat_cmp a.thread b.thread) (nat_cmp a.offset b.offset) p.1 in
    spot-is a.object a.thread a.offset b.object b.thread b.offset (is-equal a.object b.object p.0)
    (is-equal a.thread b.thread q.0) (is-equal a.offset b.offset q.1)

-- a location with a lower spot stands before
below : (a b : Loc) → spot_cmp (spot_of a) (spot_of b) ≡ Less → IsBelow a b
below a b h =
    let more = ordering_then (nat_cmp a.thread b.thread) (nat_cmp a.offset b.offset) in
    elim (then-less (nat_cmp a.object b.object) more h) [
      | inl l ↦ inl (is-less a.object b.object l)
      | inr p ↦ elim (then-less (nat_cmp a.thread b.thread) (nat_cmp a.offset b.offset) p.1) [
        | inl l ↦ inr (is-equal a.object b.object p.0, inl (is-less a.thread b.thread l))
        | inr q ↦
            inr (
              is-equal a.object b.object p.0,
              inr (is-equal a.thread b.thread q.0, is-less a.offset b.offset q.1),
            )
      ]
    ]

loc-is : (a b : Loc) → spot_of a ≡ spot_of b → a ≡ b
loc-is a b h = ap (λ (s : Spot). record { object = s.object; thread = s.thread; offset = s.offset }) h

abbrev Entries : Type 0
Entries = List (Spot × Race)

abbrev values : Entries → List Race
values es = map (λ e. e.1) es

module _ (k : Spot) (v : Race) (at : k ≡ spot_of v.loc) where
  -- one more entry, by how its key compares
  abbrev by : Ordering → (Spot × Race) → Entries → Entries
  by o e es = match_ordering o ((k, v) ∷ e ∷ es) ((e.0, v) ∷ es) (e ∷ insert_entry spot_cmp es k v)

  pub keyed-more : (es : Entries) → Each IsKeyedBy es → Each IsKeyedBy (insert_entry spot_cmp es k v)
  keyed-more [] h = (at, tt)
  keyed-more (e ∷ es) h = go (spot_cmp k e.0) refl (keyed-more es h.1)
    where
      go : (o : Ordering) → spot_cmp k e.0 ≡ o → Each IsKeyedBy (insert_entry spot_cmp es k v) → Each IsKeyedBy (by o e es)
      go Less q more = (at, h)
      go Equal q more = (sym (exact k e.0 q) ∙ at, h.1)
      go Greater q more = (h.0, more)

  has-more : (es : Entries) → Has (values (insert_entry spot_cmp es k v)) v
  has-more [] = inl refl
  has-more (e ∷ es) = go (spot_cmp k e.0) (has-more es)
    where
      go : (o : Ordering) → Has (values (insert_entry spot_cmp es k v)) v → Has (values (by o e es)) v
      go Less more = inl refl
      go Equal more = inl refl
      go Greater more = inr more

  kept-more : (es : Entries) → Each IsKeyedBy es → (r : Race) → Has (values es) r → (s : Race) × Has (values (insert_entry spot_cmp es k v)) s × (s.loc ≡ r.loc)
  kept-more [] h r m = absurd m
  kept-more (e ∷ es) h r m = go (spot_cmp k e.0) refl m (λ n. kept-more es h.1 r n)
    where
      go : (o : Ordering) → spot_cmp k e.0 ≡ o → (e.1 ≡ r) ⊎ Has (values es) r
          → (Has (values es) r → (s : Race) × Has (values (insert_entry spot_cmp es k v)) s × (s.loc ≡ r.loc))
          → (s : Race) × Has (values (by o e es)) s × (s.loc ≡ r.loc)
      go Less q n more = (r, inr n, refl)
      go Equal q (inl n) more =
          (v, inl refl, loc-is v.loc e.1.loc (sym at ∙ exact k e.0 q ∙ h.0) ∙ ap (λ (z : Race). z.loc) n)
      go Equal q (inr n) more = (r, inr n, refl)
      go Greater q (inl n) more = (r, inl n, refl)
      go Greater q (inr n) more = let t = more n in (t.0, inr t.1, t.2)

  only-more : (es : Entries) (r : Race) → Has (values (insert_entry spot_cmp es k v)) r → Has (values es) r ⊎ (v ≡ r)
  only-more [] r (inl n) = inr n
  only-more [] r (inr n) = absurd n
  only-more (e ∷ es) r m = go (spot_cmp k e.0) m (λ n. only-more es r n)
    where
      go : (o : Ordering) → Has (values (by o e es)) r
          → (Has (values (insert_entry spot_cmp es k v)) r → Has (values es) r ⊎ (v ≡ r)) → Has (values (e ∷ es)) r ⊎ (v ≡ r)
      go Less (inl n) more = inr n
      go Less (inr n) more = inl n
      go Equal (inl n) more = inr n
      go Equal (inr n) more = inl (inr n)
      go Greater (inl n) more = inl (inl n)
      go Greater (inr n) more = elim (more n) [ inl t ↦ inl (inr t) | inr t ↦ inr t ]

  pub put-more : (es : Entries) → Each IsKeyedBy es → ArePut v (values es) (values (insert_entry spot_cmp es k v))
  put-more es h = record { has = has-more es; kept = kept-more es h; only = only-more es }

-- the locations ascend
above : (e : Spot × Race) (es : Entries) → IsKeyedBy e → Each IsKeyedBy es → AllByRecursion (λ y. spot_cmp e.0 y ≡ Less) (keys_of es) → Each (λ s. IsBelow e.1.loc s.loc) (values es)
above e [] q h l = tt
above e (d ∷ es) q h l =
    (below e.1.loc d.1.loc (sym (ap (λ z. spot_cmp z (spot_of d.1.loc)) q) ∙ sym (ap (λ z. spot_cmp e.0 z) h.0) ∙ l.0), above e es q h.1 l.1)

pub ascends : (es : Entries) → Each IsKeyedBy es → IsStrictlySortedBy spot_cmp (keys_of es) → Pairwise (λ r s. IsBelow r.loc s.loc) (values es)
ascends [] h s = tt
ascends (e ∷ es) h s =
    (above e es h.0 h.1 (sorted_head spot_cmp e.0 (keys_of es) s), ascends es h.1 (sorted_tail spot_cmp e.0 (keys_of es) s))
