use Rattle.std.proofs.Common.{◌≡◌, [], ◌∷◌, ◌++◌, nat_eq, if◌then◌else◌, length, Some, ap, sym, ◌∙◌, arith}
use Rattle.std.proofs.lemmas.Grind.{common_steps}
use Rattle.upc_types.specs.layer.Places.{place_below}
use Rattle.upc_types.proofs.PlacesOfNumbers.{linked_more, latest_more}
use Rattle.upc_checker_scopes.proofs.places_of_names.note_place.Goals as goal

pub invariant_of-places-2 : goal.invariant_of-places-2
invariant_of-places-2 c =
    let names = c.args.places.now.names.items in
    let links = c.args.places.now.links.items in
    let n : c.len-place.result ≡ length names = grind (arith, common_steps, c.len-place.ensures) in
    let m : c.push.new.self.items ≡ names ++ (c.args.name ∷ []) = grind (arith, common_steps, c.push.ensures.items, c.push.ensures.succeeds, c.in_ok-reserve.ensures.capacity, c.in_ok-reserve.ensures.len, c.in_ok-reserve.ensures.items) in
    let l : c.push-2.new.self.items ≡ links ++ (c.last_place-link.result ∷ []) = grind (arith, common_steps, c.push-2.ensures.items, c.push-2.ensures.succeeds, c.in_ok-reserve-2.ensures.capacity, c.in_ok-reserve-2.ensures.len, c.in_ok-reserve-2.ensures.items) in
    let k : c.push-2.new.self.items ≡ links ++ (place_below names c.args.name (length names) ∷ []) = l ∙ ap (λ o. links ++ (o ∷ [])) c.last_place-link.ensures in
    record {
      even = grind (arith, common_steps, m, l, c.args.places.now.even);
      linked = rw (m, k) (linked_more names links c.args.name c.args.places.now.even c.args.places.now.linked);
      placed = λ q. rw m (c.in_ok-keep.ensures.ok q ∙ ap (λ o. if nat_eq c.args.name q then Some c.len-place.result else o) (c.args.places.now.placed q) ∙
          ap (λ p. if nat_eq c.args.name q then Some p else place_below names q (length names)) n ∙ sym (latest_more names c.args.name q));
    }
