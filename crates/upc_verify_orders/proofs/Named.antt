-- The walk by names says what it would by operations.
use Rattle.std.proofs.Common.{◌≡◌, ◌+◌, ◌≤◌, cond, Bool, List, [], ◌∷◌, map, refl, sym, ap, subst}
use Rattle.upc_values.specs.declared.order.Op.{Op}
use Rattle.upc_values.specs.Lists.{Each, Pairwise}
use Rattle.upc_values.specs.Operations.{Operation}
use Rattle.upc_values.specs.Orders.{name_of}
use Rattle.upc_verify_orders.specs.layer.Reach.{one_more, behind_last, first_place, MayPrecede}
use Rattle.upc_verify_orders.specs.layer.Reach as operations
use Rattle.upc_verify_orders.specs.code.Tables as names

behind-map : {X Y : Type 0} (f : X → Y) (test : Y → Bool) (xs : List X) → behind_last test (map f xs) ≡ behind_last (λ x. test (f x)) xs
behind-map f test [] = refl
behind-map f test (x ∷ xs) = ap (one_more (test (f x))) (behind-map f test xs)

first-map : {X Y : Type 0} (f : X → Y) (test : Y → Bool) (xs : List X) → first_place test (map f xs) ≡ first_place (λ x. test (f x)) xs
first-map f test [] = refl
first-map f test (x ∷ xs) = ap (λ n. cond (test (f x)) 0 (n + 1)) (first-map f test xs)

reached-named : (s : List Operation) (o : Operation) → names.reached (map name_of s) (name_of o) ≡ operations.reached s o
reached-named s o = behind-map name_of (names.is_until (name_of o)) s

reaches-named : (s : List Operation) (o : Operation) → names.reaches (map name_of s) (name_of o) ≡ operations.reaches s o
reaches-named s o = first-map name_of (names.is_from (name_of o)) s

module _ (s : List Operation) where
  abbrev ByName : Op → Op → Type 0
  ByName a b = names.reached (map name_of s) a ≤ names.reaches (map name_of s) b

  so : (a b : Operation) → ByName (name_of a) (name_of b) → MayPrecede s a b
  so a b h = subst (λ z. z ≤ operations.reaches s b) (reached-named s a) (subst (λ z. names.reached (map name_of s) (name_of a) ≤ z) (reaches-named s b) h)

  back : (a b : Operation) → MayPrecede s a b → ByName (name_of a) (name_of b)
  back a b h = subst (λ z. names.reached (map name_of s) (name_of a) ≤ z) (sym (reaches-named s b)) (subst (λ z. z ≤ operations.reaches s b) (sym (reached-named s a)) h)

  each-so : (a : Operation) (os : List Operation) → Each (ByName (name_of a)) (map name_of os) → Each (MayPrecede s a) os
  each-so a [] h = tt
  each-so a (o ∷ os) h = (so a o h.0, each-so a os h.1)

  each-back : (a : Operation) (os : List Operation) → Each (MayPrecede s a) os → Each (ByName (name_of a)) (map name_of os)
  each-back a [] h = tt
  each-back a (o ∷ os) h = (back a o h.0, each-back a os h.1)

  pairs-so : (os : List Operation) → Pairwise ByName (map name_of os) → Pairwise (MayPrecede s) os
  pairs-so [] h = tt
  pairs-so (o ∷ os) h = (each-so o os h.0, pairs-so os h.1)

  pairs-back : (os : List Operation) → Pairwise (MayPrecede s) os → Pairwise ByName (map name_of os)
  pairs-back [] h = tt
  pairs-back (o ∷ os) h = (each-back o os h.0, pairs-back os h.1)

pub walked-so : (s : List Operation) (strict : List Op) (os : List Operation) (order : List Op) → map name_of s ≡ strict → map name_of os ≡ order
    → (Pairwise (λ x y. names.reached strict x ≤ names.reaches strict y) order → Pairwise (MayPrecede s) os)
    × (Pairwise (MayPrecede s) os → Pairwise (λ x y. names.reached strict x ≤ names.reaches strict y) order)
walked-so s strict os order e f =
    let P : List Op → List Op → Type 0 = λ l o. Pairwise (λ x y. names.reached l x ≤ names.reaches l y) o in (
      λ h. pairs-so s os (subst (λ o. P (map name_of s) o) (sym f) (subst (λ l. P l order) (sym e) h)),
      λ h. subst (λ l. P l order) e (subst (λ o. P (map name_of s) o) f (pairs-back s os h)),
    )
