use Rattle.std.proofs.Common.{◌≡◌, [], ◌∷◌, ◌++◌, length, nat_eq, if◌then◌else◌, Some, sym, ap, ◌∙◌, subst, arith}
use Rattle.std.proofs.lemmas.Grind.{common_steps}
use Rattle.std.proofs.lemmas.List.{map-append}
use Rattle.std.specs.BTreeMap.{get}
use Rattle.std.specs.Ordering.{nat_cmp}
use Rattle.upc_types.specs.layer.Places.{place_below}
use Rattle.upc_types.proofs.PlacesOfNumbers.{linked_more, latest_more}
use Rattle.typed_tree_opening.specs.code.Apart.{code_of, codes_of, AreApart}
use Rattle.typed_tree_opening.proofs.Coded.{coded, apart_more}
use Rattle.typed_tree_opening.proofs.known_shapes.KnownShapes.add.Goals as goal

pub invariant_of-self-2 : goal.invariant_of-self-2
invariant_of-self-2 c =
    let shapes = c.args.self.now.list.items in
    let codes = codes_of shapes in
    let links = c.args.self.now.links.items in
    let code = code_of c.args.shape in
    let n : c.len-place.result ≡ length shapes = grind (arith, common_steps, c.len-place.ensures) in
    let k : length shapes ≡ length codes = sym (coded shapes) in
    let m : c.push.new.self.items ≡ shapes ++ (c.args.shape ∷ []) = grind (
      arith,
      common_steps,
      c.push.ensures.items,
      c.push.ensures.succeeds,
      c.in_ok-reserve.ensures.capacity,
      c.in_ok-reserve.ensures.len,
      c.in_ok-reserve.ensures.items,
    ) in
    let l : c.push-2.new.self.items ≡ links ++ (c.last-link.result ∷ []) = grind (
      arith,
      common_steps,
      c.push-2.ensures.items,
      c.push-2.ensures.succeeds,
      c.in_ok-reserve-2.ensures.capacity,
      c.in_ok-reserve-2.ensures.len,
      c.in_ok-reserve-2.ensures.items,
    ) in
    let z : codes_of c.push.new.self.items ≡ codes ++ (code ∷ []) = ap codes_of m
    ∙ map-append code_of shapes (c.args.shape ∷ []) in
    let b : c.push-2.new.self.items ≡ links ++ (place_below codes code (length codes) ∷ []) = l
    ∙ ap (λ o. links ++ (o ∷ [])) (c.last-link.ensures ∙ ap (λ n. place_below codes n (length shapes)) c.requires.code
    ∙ ap (place_below codes code) k) in
    record {
      even = grind (arith, common_steps, m, l, c.args.self.now.even);
      linked = rw (z, b) (linked_more codes links code (c.args.self.now.even ∙ k) c.args.self.now.linked);
      placed = λ q. rw z (c.in_ok-keep.ensures.ok q
          ∙ ap (λ n. if nat_eq n q then Some c.len-place.result else get nat_cmp c.args.self.now.latest q) c.requires.code
          ∙ ap (λ o. if nat_eq code q then Some c.len-place.result else o) (c.args.self.now.placed q)
          ∙ ap (λ p. if nat_eq code q then Some p else place_below codes q (length codes)) (n ∙ k)
          ∙ sym (latest_more codes code q));
      apart = subst AreApart (sym m) (apart_more shapes c.args.shape c.args.self.now.apart c.requires.new);
      numbered = grind (arith, common_steps, m, n, c.if-place.false);
    }
