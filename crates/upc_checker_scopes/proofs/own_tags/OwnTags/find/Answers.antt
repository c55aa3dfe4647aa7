use Rattle.std.proofs.Common.{◌≡◌, ℕ, ◌<◌, ◌≤◌, Bool, true, false, nat_eq, if◌then◌else◌, ◌∷◌, map, reverse, take, length, get_or, Option, Some, refl, sym, ap, ◌∙◌, subst, arith}
use Rattle.std.proofs.lemmas.Bool.{eq-eqb}
use Rattle.std.proofs.lemmas.List.{length-map}
use Rattle.std.proofs.Math.ListN.{get_or-map}
use Rattle.typed_tree.specs.Scopes.{Tag, find_tag}
use Rattle.upc_checker_scopes.specs.code.ViewOwnTags.{view_tag}
use Rattle.upc_types.specs.layer.Places.{place_below}
use Rattle.upc_types.proofs.PlacesOfNumbers.{IsAt, is_at, up_to, begins, latest_of, get_or-named}
use Rattle.upc_checker_scopes.proofs.own_tags.OwnTags.find.Goals as goal

named-one : (b : Bool) (o r : Option ℕ) → b ≡ true → (if b then o else r) ≡ o
named-one true o r h = refl
named-one false o r h = absurd cc

pub returns-in-None : goal.returns-in-None
returns-in-None c =
    let xs = map view_tag c.args.self.now.list.items in
    let o = c.last_place.result in
    let e = c.last_place.ensures ∙ ap (λ ns. place_below ns c.args.name (length ns)) c.args.self.now.named ∙ ap (place_below (map (λ (x : Tag). x.name) xs) c.args.name) (length-map xs (λ (x : Tag). x.name)) in
    let b = begins (λ (x : Tag). x.name) (find_tag c.args.name) c.args.name (λ x ys h. ap (λ b. if b then Some x.number else find_tag c.args.name ys) h) xs o e in
    sym (b ∙ ap (λ q. find_tag c.args.name (reverse (take (up_to q) xs))) c.in-None.is)

pub index-requires : goal.index-requires
index-requires c =
    let names = c.args.self.now.places.names.items in
    let same : length names ≤ length names = omega arith in
    let at = subst (IsAt names c.args.name) c.in-Some.is (is_at names c.args.name (length names) c.last_place.result same c.last_place.ensures) in
    let named = c.args.self.now.named in
    omega (arith, at.0, ap length named, length-map (map view_tag c.args.self.now.list.items) (λ (x : Tag). x.name), length-map c.args.self.now.list.items view_tag, c.args.self.now.list.ok)

pub returns-in-Some : goal.returns-in-Some
returns-in-Some c =
    let names = c.args.self.now.places.names.items in
    let xs = map view_tag c.args.self.now.list.items in
    let place = c.in-Some.place in
    let o = c.last_place.result in
    let x = view_tag c.index.result.now in
    let same : length names ≤ length names = omega arith in
    let at = subst (IsAt names c.args.name) c.in-Some.is (is_at names c.args.name (length names) o same c.last_place.ensures) in
    let named = c.args.self.now.named in
    let below : place < length xs = omega (arith, at.0, ap length named, length-map xs (λ (y : Tag). y.name)) in
    let is : get_or xs place x ≡ x = get_or-map view_tag c.args.self.now.list.items place c.index.result.now ∙ ap view_tag (sym c.index.ensures) in
    let name : x.name ≡ c.args.name = ap (λ (y : Tag). y.name) (sym is) ∙ sym (get_or-named (λ (y : Tag). y.name) xs place x below) ∙ ap (λ ns. get_or ns place 0) (sym named) ∙ at.1 in
    let e = c.last_place.ensures ∙ ap (λ ns. place_below ns c.args.name (length ns)) named ∙ ap (place_below (map (λ (y : Tag). y.name) xs) c.args.name) (length-map xs (λ (y : Tag). y.name)) in
    let b = begins (λ (y : Tag). y.name) (find_tag c.args.name) c.args.name (λ y ys h. ap (λ b. if b then Some y.number else find_tag c.args.name ys) h) xs o e in
    let from = b ∙ ap (λ q. find_tag c.args.name (reverse (take (up_to q) xs))) c.in-Some.is ∙ ap (find_tag c.args.name) (latest_of xs x place below) ∙ ap (λ y. find_tag c.args.name (y ∷ reverse (take place xs))) is in
    sym (from ∙ named-one (nat_eq x.name c.args.name) (Some x.number) (find_tag c.args.name (reverse (take place xs))) (eq-eqb x.name c.args.name name))
