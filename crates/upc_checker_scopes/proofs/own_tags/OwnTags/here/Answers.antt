use Rattle.std.proofs.Common.{◌≡◌, ℕ, ◌<◌, ◌≤◌, Bool, true, false, ◌&&◌, nat_eq, if◌then◌else◌, ◌∷◌, map, reverse, take, length, get_or, Option, Some, refl, sym, ap, ◌∙◌, subst, arith}
use Rattle.std.proofs.lemmas.Bool.{eq-eqb, ne_eqb}
use Rattle.std.proofs.lemmas.List.{length-map}
use Rattle.std.proofs.Math.ListN.{get_or-map}
use Rattle.typed_tree.specs.Scopes.{Tag, tag_here}
use Rattle.upc_checker_scopes.specs.code.ViewOwnTags.{view_tag}
use Rattle.upc_types.specs.layer.Places.{place_below}
use Rattle.upc_types.proofs.PlacesOfNumbers.{IsAt, is_at, up_to, begins, goes_back, latest_of, falls, get_or-named}
use Rattle.upc_checker_scopes.proofs.own_tags.OwnTags.here.Goals as goal

both_true : (a b : Bool) (o r : Option ℕ) → a ≡ true → b ≡ true → (if a && b then o else r) ≡ o
both_true true true o r h k = refl
both_true false b o r h k = absurd cc
both_true true false o r h k = absurd cc

passes : (a b : Bool) (o r : Option ℕ) → b ≡ false → (if a && b then o else r) ≡ r
passes true false o r h = refl
passes false false o r h = refl
passes a true o r h = absurd cc

pub loop-at-init : goal.loop-at-init
loop-at-init c =
    let names = c.args.self.now.places.names.items in
    let xs = map view_tag c.args.self.now.list.items in
    let o = c.last_place-at.result in
    let same : length names ≤ length names = omega arith in
    let e = c.last_place-at.ensures ∙ ap (λ ns. place_below ns c.args.name (length ns)) c.args.self.now.named ∙ ap (place_below (map (λ (x : Tag). x.name) xs) c.args.name) (length-map xs (λ (x : Tag). x.name)) in
    (is_at names c.args.name (length names) o same c.last_place-at.ensures, begins (λ (x : Tag). x.name) (tag_here c.args.name c.args.level) c.args.name (λ x ys h. ap (λ b. if b && nat_eq x.level c.args.level then Some x.number else tag_here c.args.name c.args.level ys) h) xs o e)

pub returns-then-tag-level : goal.returns-then-tag-level
returns-then-tag-level c =
    let xs = map view_tag c.args.self.now.list.items in
    let place = c.in-Some.place in
    let x = view_tag c.index-tag.result.now in
    let at = subst (IsAt c.args.self.now.places.names.items c.args.name) c.in-Some.is c.loop-at.invariant.0 in
    let named = c.args.self.now.named in
    let below : place < length xs = omega (arith, at.0, ap length named, length-map xs (λ (y : Tag). y.name)) in
    let is : get_or xs place x ≡ x = get_or-map view_tag c.args.self.now.list.items place c.index-tag.result.now ∙ ap view_tag (sym c.index-tag.ensures) in
    let name : x.name ≡ c.args.name = ap (λ (y : Tag). y.name) (sym is) ∙ sym (get_or-named (λ (y : Tag). y.name) xs place x below) ∙ ap (λ ns. get_or ns place 0) (sym named) ∙ at.1 in
    let from : tag_here c.args.name c.args.level (reverse xs) ≡ tag_here c.args.name c.args.level (x ∷ reverse (take place xs)) =
    c.loop-at.invariant.1 ∙ ap (λ o. tag_here c.args.name c.args.level (reverse (take (up_to o) xs))) c.in-Some.is ∙ ap (tag_here c.args.name c.args.level) (latest_of xs x place below) ∙ ap (λ y. tag_here c.args.name c.args.level (y ∷ reverse (take place xs))) is in
    sym (from ∙ both_true (nat_eq x.name c.args.name) (nat_eq x.level c.args.level) (Some x.number) (tag_here c.args.name c.args.level (reverse (take place xs))) (eq-eqb x.name c.args.name name) (eq-eqb x.level c.args.level c.if-tag-level.true))

pub loop-at-smaller : goal.loop-at-smaller
loop-at-smaller c =
    let place = c.in-Some.place in
    let at = subst (IsAt c.args.self.now.places.names.items c.args.name) c.in-Some.is c.loop-at.invariant.0 in
    falls c.args.self.now.places.names.items (get_or c.args.self.now.places.names.items place 0) place c.loop-at.at c.place_before-at.result c.in-Some.is c.place_before-at.ensures

pub loop-at-preserved : goal.loop-at-preserved
loop-at-preserved c =
    let names = c.args.self.now.places.names.items in
    let xs = map view_tag c.args.self.now.list.items in
    let place = c.in-Some.place in
    let o = c.place_before-at.result in
    let x = view_tag c.index-tag.result.now in
    let at = subst (IsAt names c.args.name) c.in-Some.is c.loop-at.invariant.0 in
    let named = c.args.self.now.named in
    let below : place < length xs = omega (arith, at.0, ap length named, length-map xs (λ (y : Tag). y.name)) in
    let is : get_or xs place x ≡ x = get_or-map view_tag c.args.self.now.list.items place c.index-tag.result.now ∙ ap view_tag (sym c.index-tag.ensures) in
    let e : o ≡ place_below names c.args.name place = c.place_before-at.ensures ∙ ap (λ n. place_below names n place) at.1 in
    let f : o ≡ place_below (map (λ (y : Tag). y.name) xs) c.args.name place = e ∙ ap (λ ns. place_below ns c.args.name place) named in
    let pass : tag_here c.args.name c.args.level (get_or xs place x ∷ reverse (take place xs)) ≡ tag_here c.args.name c.args.level (reverse (take place xs)) = (ap (λ (y : Tag). tag_here c.args.name c.args.level (y ∷ reverse (take place xs))) is ∙ passes (nat_eq x.name c.args.name) (nat_eq x.level c.args.level) (Some x.number) (tag_here c.args.name c.args.level (reverse (take place xs))) (ne_eqb x.level c.args.level c.if-tag-level.false)) in
    let low : place ≤ length names = omega (arith, at.0) in (
      is_at names c.args.name place o low e,
      c.loop-at.invariant.1 ∙ ap (λ q. tag_here c.args.name c.args.level (reverse (take (up_to q) xs))) c.in-Some.is ∙ goes_back (λ (y : Tag). y.name) (tag_here c.args.name c.args.level) c.args.name (λ y ys h. ap (λ b. if b && nat_eq y.level c.args.level then Some y.number else tag_here c.args.name c.args.level ys) h) xs x place o below pass f,
    )
