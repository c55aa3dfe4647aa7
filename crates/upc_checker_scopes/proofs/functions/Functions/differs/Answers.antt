use Rattle.std.proofs.Common.{◌≡◌, ◌<◌, ◌≤◌, Bool, true, false, ◌&&◌, ◌||◌, not, nat_eq, ◌∷◌, map, reverse, take, length, get_or, refl, sym, ap, ◌∙◌, subst, arith}
use Rattle.std.proofs.lemmas.Bool.{eq-eqb}
use Rattle.std.proofs.lemmas.List.{length-map}
use Rattle.std.proofs.Math.ListN.{get_or-map}
use Rattle.typed_tree.specs.Scopes.{KnownFunction, differs, same_signature}
use Rattle.typing_rules.specs.layer.Views.{view_signature}
use Rattle.upc_checker_scopes.specs.code.ViewFunctions.{view_function, IsNoted}
use Rattle.upc_types.specs.layer.Places.{place_below}
use Rattle.upc_types.proofs.PlacesOfNumbers.{IsAt, is_at, up_to, begins, goes_back, latest_of, falls, get_or-named}
use Rattle.upc_checker_scopes.proofs.SameTypes.{differs_through}
use Rattle.upc_checker_scopes.proofs.functions.Functions.differs.Goals as goal

both_true : (a b r : Bool) → a ≡ true → b ≡ false → ((a && not b) || r) ≡ true
both_true true false r h k = refl
both_true false b r h k = absurd cc
both_true true true r h k = absurd cc

passes : (a b r : Bool) → b ≡ true → ((a && not b) || r) ≡ r
passes true true r h = refl
passes false true r h = refl
passes a false r h = absurd cc

pub loop-at-init : goal.loop-at-init
loop-at-init c =
    let names = c.args.self.now.places.names.items in
    let xs = map view_function c.args.self.now.list.items in
    let o = c.last_place-at.result in
    let same : length names ≤ length names = omega arith in
    let e = c.last_place-at.ensures ∙ ap (λ ns. place_below ns c.args.name (length ns)) c.args.self.now.named ∙ ap (place_below (map (λ (x : KnownFunction). x.name) xs) c.args.name) (length-map xs (λ (x : KnownFunction). x.name)) in
    (is_at names c.args.name (length names) o same c.last_place-at.ensures, begins (λ (x : KnownFunction). x.name) (differs c.args.name (view_signature c.args.signature.now)) c.args.name (λ x ys h. ap (λ b. (b && not (same_signature x.signature (view_signature c.args.signature.now))) || differs c.args.name (view_signature c.args.signature.now) ys) h) xs o e)

pub returns-then-not-same_signature : goal.returns-then-not-same_signature
returns-then-not-same_signature c =
    let xs = map view_function c.args.self.now.list.items in
    let place = c.in-Some.place in
    let x = view_function c.index-known.result.now in
    let at = subst (IsAt c.args.self.now.places.names.items c.args.name) c.in-Some.is c.loop-at.invariant.0 in
    let named = c.args.self.now.named in
    let below : place < length xs = omega (arith, at.0, ap length named, length-map xs (λ (y : KnownFunction). y.name)) in
    let is : get_or xs place x ≡ x = get_or-map view_function c.args.self.now.list.items place c.index-known.result.now ∙ ap view_function (sym c.index-known.ensures) in
    let name : x.name ≡ c.args.name = ap (λ (y : KnownFunction). y.name) (sym is) ∙ sym (get_or-named (λ (y : KnownFunction). y.name) xs place x below) ∙ ap (λ ns. get_or ns place 0) (sym named) ∙ at.1 in
    let from : differs c.args.name (view_signature c.args.signature.now) (reverse xs) ≡ differs c.args.name (view_signature c.args.signature.now) (x ∷ reverse (take place xs)) =
    c.loop-at.invariant.1 ∙ ap (λ o. differs c.args.name (view_signature c.args.signature.now) (reverse (take (up_to o) xs))) c.in-Some.is ∙ ap (differs c.args.name (view_signature c.args.signature.now)) (latest_of xs x place below) ∙ ap (λ y. differs c.args.name (view_signature c.args.signature.now) (y ∷ reverse (take place xs))) is in
    let other : same_signature x.signature (view_signature c.args.signature.now) ≡ false = sym c.same_signature.ensures ∙ c.if-not-same_signature.true in
    sym (from ∙ both_true (nat_eq x.name c.args.name) (same_signature x.signature (view_signature c.args.signature.now)) (differs c.args.name (view_signature c.args.signature.now) (reverse (take place xs))) (eq-eqb x.name c.args.name name) other)

not_true : (b d : Bool) → b ≡ not d → b ≡ true → d ≡ false
not_true b true e h = absurd cc
not_true b false e h = refl

pub returns-then-known : goal.returns-then-known
returns-then-known c =
    let name = c.args.name in
    let s = view_signature c.args.signature.now in
    let items = c.args.self.now.list.items in
    let xs = map view_function items in
    let place = c.in-Some.place in
    let r = c.index-known.result.now in
    let x = view_function r in
    let older = reverse (take place xs) in
    let at = subst (IsAt c.args.self.now.places.names.items name) c.in-Some.is c.loop-at.invariant.0 in
    let named = c.args.self.now.named in
    let below : place < length xs = omega (arith, at.0, ap length named, length-map xs (λ (y : KnownFunction). y.name)) in
    let under : place < length items = omega (arith, below, length-map items view_function) in
    let is : get_or xs place x ≡ x = get_or-map view_function items place r ∙ ap view_function (sym c.index-known.ensures) in
    let name_is : x.name ≡ name = ap (λ (y : KnownFunction). y.name) (sym is) ∙ sym (get_or-named (λ (y : KnownFunction). y.name) xs place x below) ∙ ap (λ ns. get_or ns place 0) (sym named) ∙ at.1 in
    let same : same_signature x.signature s ≡ true = sym c.same_signature.ensures ∙ c.if-not-same_signature.false in
    let kept = subst (λ z. IsNoted older z) (sym c.index-known.ensures) (c.args.self.now.noted place r under) in
    let none : differs x.name x.signature older ≡ false = not_true r.agrees (differs x.name x.signature older) kept.0 c.if-known.true in
    let from : differs name s (reverse xs) ≡ differs name s (x ∷ older) =
    c.loop-at.invariant.1 ∙ ap (λ o. differs name s (reverse (take (up_to o) xs))) c.in-Some.is ∙ ap (differs name s) (latest_of xs x place below) ∙ ap (λ y. differs name s (y ∷ older)) is in
    sym (from ∙ passes (nat_eq x.name name) (same_signature x.signature s) (differs name s older) same
    ∙ sym (differs_through name x.signature s older same) ∙ ap (λ n. differs n x.signature older) (sym name_is) ∙ none)

pub loop-at-smaller : goal.loop-at-smaller
loop-at-smaller c =
    let place = c.in-Some.place in
    let at = subst (IsAt c.args.self.now.places.names.items c.args.name) c.in-Some.is c.loop-at.invariant.0 in
    falls c.args.self.now.places.names.items (get_or c.args.self.now.places.names.items place 0) place c.loop-at.at c.place_before-at.result c.in-Some.is c.place_before-at.ensures

pub loop-at-preserved : goal.loop-at-preserved
loop-at-preserved c =
    let names = c.args.self.now.places.names.items in
    let xs = map view_function c.args.self.now.list.items in
    let place = c.in-Some.place in
    let o = c.place_before-at.result in
    let x = view_function c.index-known.result.now in
    let at = subst (IsAt names c.args.name) c.in-Some.is c.loop-at.invariant.0 in
    let named = c.args.self.now.named in
    let below : place < length xs = omega (arith, at.0, ap length named, length-map xs (λ (y : KnownFunction). y.name)) in
    let is : get_or xs place x ≡ x = get_or-map view_function c.args.self.now.list.items place c.index-known.result.now ∙ ap view_function (sym c.index-known.ensures) in
    let e : o ≡ place_below names c.args.name place = c.place_before-at.ensures ∙ ap (λ n. place_below names n place) at.1 in
    let f : o ≡ place_below (map (λ (y : KnownFunction). y.name) xs) c.args.name place = e ∙ ap (λ ns. place_below ns c.args.name place) named in
    let pass : differs c.args.name (view_signature c.args.signature.now) (get_or xs place x ∷ reverse (take place xs)) ≡ differs c.args.name (view_signature c.args.signature.now) (reverse (take place xs)) = (ap (λ (y : KnownFunction). differs c.args.name (view_signature c.args.signature.now) (y ∷ reverse (take place xs))) is ∙ passes (nat_eq x.name c.args.name) (same_signature x.signature (view_signature c.args.signature.now)) (differs c.args.name (view_signature c.args.signature.now) (reverse (take place xs))) (sym c.same_signature.ensures ∙ c.if-not-same_signature.false)) in
    let low : place ≤ length names = omega (arith, at.0) in (
      is_at names c.args.name place o low e,
      c.loop-at.invariant.1 ∙ ap (λ q. differs c.args.name (view_signature c.args.signature.now) (reverse (take (up_to q) xs))) c.in-Some.is ∙ goes_back (λ (y : KnownFunction). y.name) (differs c.args.name (view_signature c.args.signature.now)) c.args.name (λ y ys h. ap (λ b. (b && not (same_signature y.signature (view_signature c.args.signature.now))) || differs c.args.name (view_signature c.args.signature.now) ys) h) xs x place o below pass f,
    )
