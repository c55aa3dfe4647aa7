-- Members of mapped lists, of numbers from one on, and of what a test leaves out.
use Rattle.std.proofs.Common.{◌≡◌, ℕ, zero, suc, ◌+◌, ◌<◌, ◌≤◌, Bool, false, List, [], ◌∷◌, map, inl, inr, Option, Some}
use Rattle.std.proofs.Common.{None, refl, sym, ap, ◌∙◌, subst, arith}
use Rattle.std.specs.List.{list_any, range_with_len, filter_map, cons_option}
use Rattle.std.proofs.lemmas.Bool.{or_parts, cases_eq}
use Rattle.upc_values.specs.Lists.{Has}

module _ {X : Type 0} where
  pub none_of : (test : X → Bool) (xs : List X) (x : X) → list_any test xs ≡ false → Has xs x → test x ≡ false
  none_of test [] x h m = absurd m
  none_of test (y ∷ ys) x h (inl e) = sym (ap test e) ∙ (or_parts (test y) (list_any test ys) h).0
  none_of test (y ∷ ys) x h (inr m) = none_of test ys x (or_parts (test y) (list_any test ys) h).1 m

-- A member of a mapped list comes from a member, and each member's value is one.
pub record Comes {X Y : Type 0} (f : X → Y) (xs : List X) (y : Y) : Type 0 where
  pub from : X
  pub has : Has xs from
  pub is : f from ≡ y

module _ {X Y : Type 0} (f : X → Y) where
  pub map_from : (xs : List X) (y : Y) → Has (map f xs) y → Comes f xs y
  map_from [] y h = absurd h
  map_from (x ∷ xs) y (inl e) = record { from = x; has = inl refl; is = e }
  map_from (x ∷ xs) y (inr h) =
      let c = map_from xs y h in record { from = c.from; has = inr c.has; is = c.is }

  pub map_has : (xs : List X) (x : X) → Has xs x → Has (map f xs) (f x)
  map_has [] x h = absurd h
  map_has (y ∷ ys) x (inl e) = inl (ap f e)
  map_has (y ∷ ys) x (inr h) = inr (map_has ys x h)

-- The numbers from a on.
pub range_below : (a n i : ℕ) → Has (range_with_len a n) i → (a ≤ i) × (i < a + n)
range_below a zero i h = absurd h
range_below a (suc n) i (inl e) = (omega (arith, e), omega (arith, e))
range_below a (suc n) i (inr h) = let b = range_below (a + 1) n i h in (omega (arith, b.0), omega (arith, b.1))

pub range_has : (a n i : ℕ) → a ≤ i → i < a + n → Has (range_with_len a n) i
range_has a zero i h k = absurd (omega arith)
range_has a (suc n) i h k = elim (cases_eq a i) [
  | inl e ↦ inl e
  | inr ne ↦ inr (range_has (a + 1) n i (omega arith) (omega arith))
]

-- What a test that gives values gives of a list.
pub record Picked {X Y : Type 0} (f : X → Option Y) (xs : List X) (y : Y) : Type 0 where
  pub from : X
  pub has : Has xs from
  pub is : f from ≡ Some y

module _ {X Y : Type 0} (f : X → Option Y) where
  picked_on : (x : X) (xs : List X) (y : Y) (o : Option Y) → f x ≡ o → (Has (filter_map f xs) y → Picked f xs y)
      → Has (cons_option o (filter_map f xs)) y → Picked f (x ∷ xs) y
  picked_on x xs y (Some z) e go (inl q) = record { from = x; has = inl refl; is = e ∙ ap Some q }
  picked_on x xs y (Some z) e go (inr m) =
      let p = go m in record { from = p.from; has = inr p.has; is = p.is }
  picked_on x xs y None e go m = let p = go m in record { from = p.from; has = inr p.has; is = p.is }

  pub pick_from : (xs : List X) (y : Y) → Has (filter_map f xs) y → Picked f xs y
  pick_from [] y h = absurd h
  pick_from (x ∷ xs) y h = picked_on x xs y (f x) refl (pick_from xs y) h

  pub pick_has : (xs : List X) (x : X) (y : Y) → Has xs x → f x ≡ Some y → Has (filter_map f xs) y
  pick_has [] x y h e = absurd h
  pick_has (z ∷ xs) x y (inl q) e =
      subst (λ (o : Option Y). Has (cons_option o (filter_map f xs)) y) (sym (ap f q ∙ e)) (inl refl)
  pick_has (z ∷ xs) x y (inr m) e = by (f z) (pick_has xs x y m e)
    where
      by : (o : Option Y) → Has (filter_map f xs) y → Has (cons_option o (filter_map f xs)) y
      by (Some w) h = inr h
      by None h = h

module _ {X Y Z : Type 0} (f : X → Y) (g : Y → Z) where
  pub map_twice : (xs : List X) → map g (map f xs) ≡ map (λ x. g (f x)) xs
  map_twice [] = refl
  map_twice (x ∷ xs) = ap (λ zs. g (f x) ∷ zs) (map_twice xs)
