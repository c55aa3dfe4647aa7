use Rattle.std.proofs.Common.{◌≡◌, ℕ, ◌<◌, ◌≤◌, ◌&&◌, ◌||◌, List, ◌∷◌, map, reverse, take, length, get_or, Option, Some, None, sym, ap, ◌∙◌, subst, arith}
use Rattle.std.proofs.lemmas.Bool.{eq-eqb}
use Rattle.std.proofs.lemmas.List.{length-map}
use Rattle.std.proofs.Math.ListN.{get_or-map}
use Rattle.typed_tree.specs.Scopes.{KnownFunction, was_defined}
use Rattle.upc_checker_scopes.specs.declared.functions.KnownFunction as f
use Rattle.upc_checker_scopes.specs.code.ViewFunctions.{view_function, names_of, IsNoted, AreNoted}
use Rattle.upc_types.specs.layer.Places.{place_below}
use Rattle.upc_types.proofs.PlacesOfNumbers.{IsAt, is_at, up_to, begins, latest_of, get_or-named}
use Rattle.upc_checker_scopes.proofs.functions.Functions.was_defined.Goals as goal

last_at : (items : List f.KnownFunction) (name : ℕ) (o : Option ℕ) → o ≡ place_below (names_of items) name (length (names_of items)) →
    IsAt (names_of items) name o
last_at items name o e =
    let n : length (names_of items) ≤ length (names_of items) = omega arith in
    is_at (names_of items) name (length (names_of items)) o n e

under : (items : List f.KnownFunction) (place : ℕ) → place < length (names_of items) → place < length items
under items place h =
    let xs = map view_function items in
    omega (arith, h, length-map xs (λ (x : KnownFunction). x.name), length-map items view_function)

-- What was defined is seen from the latest place on.
from_last : (items : List f.KnownFunction) (name : ℕ) (o : Option ℕ) → o ≡ place_below (names_of items) name (length (names_of items)) →
    was_defined name (reverse (map view_function items)) ≡ was_defined name (reverse (take (up_to o) (map view_function items)))
from_last items name o e =
    let xs = map view_function items in
    begins (λ (x : KnownFunction). x.name) (was_defined name) name
    (λ x ys h. ap (λ b. (b && x.is_defined) || was_defined name ys) h) xs o
    (e ∙ ap (place_below (names_of items) name) (length-map xs (λ (x : KnownFunction). x.name)))

-- The latest function of a name says whether one of them was defined.
latest_says : (items : List f.KnownFunction) (name place : ℕ) (r : f.KnownFunction) →
    Some place ≡ place_below (names_of items) name (length (names_of items)) → r ≡ get_or items place r → AreNoted items →
    was_defined name (reverse (map view_function items)) ≡ (r.is_defined || r.defined_before)
latest_says items name place r e is noted =
    let xs = map view_function items in
    let older = reverse (take place xs) in
    let x = view_function r in
    let at = last_at items name (Some place) e in
    let u = under items place at.0 in
    let below : place < length xs = omega (arith, u, length-map items view_function) in
    let same : get_or xs place x ≡ x = get_or-map view_function items place r ∙ ap view_function (sym is) in
    let named : x.name ≡ name = ap (λ (y : KnownFunction). y.name) (sym same)
    ∙ sym (get_or-named (λ (y : KnownFunction). y.name) xs place x below) ∙ at.1 in
    let kept = subst (λ z. IsNoted older z) (sym is) (noted place r u) in
    from_last items name (Some place) e ∙ ap (was_defined name) (latest_of xs x place below)
    ∙ ap (λ (y : KnownFunction). was_defined name (y ∷ older)) same
    ∙ ap (λ b. (b && r.is_defined) || was_defined name older) (eq-eqb x.name name named)
    ∙ ap (λ b. r.is_defined || b) (ap (λ n. was_defined n older) (sym named) ∙ sym kept.1)

pub index-known-requires : goal.index-known-requires
index-known-requires c =
    let items = c.args.self.now.list.items in
    let e = sym c.in-Some.is ∙ c.last_place.ensures ∙ ap (λ ns. place_below ns c.args.name (length ns)) c.args.self.now.named in
    omega (arith, under items c.in-Some.place (last_at items c.args.name (Some c.in-Some.place) e).0, c.args.self.now.list.ok)

pub returns-in-None : goal.returns-in-None
returns-in-None c =
    let items = c.args.self.now.list.items in
    let e = sym c.in-None.is ∙ c.last_place.ensures ∙ ap (λ ns. place_below ns c.args.name (length ns)) c.args.self.now.named in
    sym (from_last items c.args.name None e)

pub returns-then-known : goal.returns-then-known
returns-then-known c =
    let items = c.args.self.now.list.items in
    let r = c.index-known.result.now in
    let e = sym c.in-Some.is ∙ c.last_place.ensures ∙ ap (λ ns. place_below ns c.args.name (length ns)) c.args.self.now.named in
    let all = latest_says items c.args.name c.in-Some.place r e c.index-known.ensures c.args.self.now.noted in
    c.if-known.true ∙ sym (all ∙ ap (λ b. b || r.defined_before) c.if-known.true)

pub returns-else-known : goal.returns-else-known
returns-else-known c =
    let items = c.args.self.now.list.items in
    let r = c.index-known.result.now in
    let e = sym c.in-Some.is ∙ c.last_place.ensures ∙ ap (λ ns. place_below ns c.args.name (length ns)) c.args.self.now.named in
    let all = latest_says items c.args.name c.in-Some.place r e c.index-known.ensures c.args.self.now.noted in
    sym (all ∙ ap (λ b. b || r.defined_before) c.if-known.false)
