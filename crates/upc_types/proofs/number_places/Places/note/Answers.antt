use Rattle.std.proofs.Common.{◌≡◌, [], ◌∷◌, ◌++◌, nat_eq, if◌then◌else◌, length, Some, ap, sym, ◌∙◌, arith}
use Rattle.std.proofs.lemmas.Grind.{common_steps}
use Rattle.upc_types.specs.layer.Places.{place_below}
use Rattle.upc_types.proofs.PlacesOfNumbers.{linked_more, latest_more}
use Rattle.upc_types.proofs.number_places.Places.note.Goals as goal

pub invariant_of-self-2 : goal.invariant_of-self-2
invariant_of-self-2 c =
    let numbers = c.args.self.now.numbers.items in
    let links = c.args.self.now.links.items in
    let n : c.len-place.result ≡ length numbers = grind (arith, common_steps, c.len-place.ensures) in
    let m : c.push.new.self.items ≡ numbers ++ (c.args.number ∷ []) = grind (arith, common_steps, c.push.ensures.items, c.push.ensures.succeeds, c.in_ok-reserve.ensures.capacity, c.in_ok-reserve.ensures.len, c.in_ok-reserve.ensures.items) in
    let l : c.push-2.new.self.items ≡ links ++ (c.last-link.result ∷ []) = grind (arith, common_steps, c.push-2.ensures.items, c.push-2.ensures.succeeds, c.in_ok-reserve-2.ensures.capacity, c.in_ok-reserve-2.ensures.len, c.in_ok-reserve-2.ensures.items) in
    let k : c.push-2.new.self.items ≡ links ++ (place_below numbers c.args.number (length numbers) ∷ []) = l ∙ ap (λ o. links ++ (o ∷ [])) c.last-link.ensures in
    record {
      even = grind (arith, common_steps, m, l, c.args.self.now.even);
      linked = rw (m, k) (linked_more numbers links c.args.number c.args.self.now.even c.args.self.now.linked);
      placed = λ q. rw m (c.in_ok-keep.ensures.ok q ∙ ap (λ o. if nat_eq c.args.number q then Some c.len-place.result else o) (c.args.self.now.placed q) ∙
          ap (λ p. if nat_eq c.args.number q then Some p else place_below numbers q (length numbers)) n ∙ sym (latest_more numbers c.args.number q));
    }
