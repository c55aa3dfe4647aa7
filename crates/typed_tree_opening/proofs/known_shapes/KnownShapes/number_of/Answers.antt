use Rattle.std.proofs.Common.{◌≡◌, ◌<◌, ◌≤◌, true, false, length, get_or, sym, ap, ◌∙◌, subst, arith}
use Rattle.typed_tree.specs.layer.Parts.{same_shape}
use Rattle.std.proofs.lemmas.Grind.{common_steps}
use Rattle.std.proofs.lemmas.List.{get_or_default}
use Rattle.block_layout.specs.declared.kind.Shape.{Shape}
use Rattle.upc_types.specs.layer.Places.{place_below}
use Rattle.upc_types.proofs.PlacesOfNumbers.{IsAt, is_at, up_to, falls}
use Rattle.typed_tree_opening.specs.code.Apart.{code_of, codes_of}
use Rattle.typed_tree_opening.proofs.Coded.{coded, other_from, other_more, number_at, none_equal}
use Rattle.typed_tree_opening.proofs.known_shapes.KnownShapes.number_of.Goals as goal

pub loop-at-init : goal.loop-at-init
loop-at-init c =
    let shapes = c.args.self.now.list.items in
    let s = c.args.shape.now in
    let o = c.last-at.result in
    let all : length shapes ≤ length shapes = omega arith in
    let e : o ≡ place_below (codes_of shapes) (code_of s) (length shapes) = c.last-at.ensures
    ∙ ap (λ n. place_below (codes_of shapes) n (length shapes)) c.requires in
    record {
      at = is_at (codes_of shapes) (code_of s) (length shapes) o (omega (arith, coded shapes)) e;
      rest = other_from shapes s (length shapes) o all e;
    }

pub returns-then-same_shape-clause-value : goal.returns-then-same_shape-clause-value
returns-then-same_shape-clause-value c =
    let shapes = c.args.self.now.list.items in
    let s = c.args.shape.now in
    let place = c.in-Some.place in
    let r = c.index.result.now in
    let at = subst (IsAt (codes_of shapes) (code_of s)) c.in-Some.is c.loop-at.invariant.at in
    let below : place < length shapes = omega (arith, at.0, coded shapes) in
    let same : same_shape (get_or shapes place r) s ≡ true =
    ap (λ (x : Shape). same_shape x s) (sym c.index.ensures) ∙ sym c.same_shape.ensures ∙ c.if-same_shape.true in
    number_at shapes s r place c.args.self.now.apart below same

pub loop-at-smaller : goal.loop-at-smaller
loop-at-smaller c =
    let codes = codes_of c.args.self.now.list.items in
    falls codes (get_or codes c.in-Some.place 0) c.in-Some.place c.loop-at.at c.before-at.result c.in-Some.is
    c.before-at.ensures

pub loop-at-preserved : goal.loop-at-preserved
loop-at-preserved c =
    let shapes = c.args.self.now.list.items in
    let codes = codes_of shapes in
    let s = c.args.shape.now in
    let place = c.in-Some.place in
    let r = c.index.result.now in
    let o = c.before-at.result in
    let at = subst (IsAt codes (code_of s)) c.in-Some.is c.loop-at.invariant.at in
    let below : place < length shapes = omega (arith, at.0, coded shapes) in
    let low : place ≤ length codes = omega (arith, at.0) in
    let e : o ≡ place_below codes (code_of s) place =
    c.before-at.ensures ∙ ap (λ n. place_below codes n place) at.1 in
    let other : same_shape r s ≡ false = sym c.same_shape.ensures ∙ c.if-same_shape.false in
    record {
      at = is_at codes (code_of s) place o low e;
      rest = other_more shapes s place o c.loop-at.at below c.in-Some.is e
          (λ d. ap (λ (x : Shape). same_shape x s) (get_or_default shapes place d r below ∙ sym c.index.ensures) ∙ other)
          c.loop-at.invariant.rest;
    }

pub returns-in-None-clause-value : goal.returns-in-None-clause-value
returns-in-None-clause-value c =
    let shapes = c.args.self.now.list.items in
    let n : c.len.result ≡ length shapes = grind (arith, common_steps, c.len.ensures) in
    let u : up_to c.loop-at.at ≡ 0 = ap up_to c.in-None.is in
    n ∙ sym (none_equal shapes c.args.shape.now (λ i d h. c.loop-at.invariant.rest i d (omega (arith, u)) h))
