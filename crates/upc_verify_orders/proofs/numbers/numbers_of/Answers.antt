use Rattle.std.proofs.Common.{◌≡◌, cond, get_or, Option, Some, ℕ, ap, ◌∙◌}
use Rattle.std.proofs.lemmas.List.{get_or_default}
use Rattle.std.specs.Option.{unwrap_or}
use Rattle.upc_values.specs.Operations.{Operation, Place}
use Rattle.upc_values.specs.Consistent.{same_place}
use Rattle.upc_verify_orders.specs.layer.Parts.{place_of}
use Rattle.upc_verify_orders.specs.code.Found.{nothing}
use Rattle.upc_verify_orders.specs.code.Keys.{looked}
use Rattle.upc_verify_orders.proofs.Numbering.{kept-next, numbers-next}
use Rattle.upc_verify_orders.proofs.numbers.numbers_of.Goals as goal

pub loop-i-preserved : goal.loop-i-preserved
loop-i-preserved c =
    let ops = c.args.operations.now in
    let i = c.loop-i.i in
    let lt = c.loop-i-test.true in
    let inv = c.loop-i.invariant in
    let old : Place → Option ℕ = λ p. looked c.loop-i.firsts p in
    let new : Place → Option ℕ = λ p. looked c.number.new.self p in
    let n = c.in_ok-number.number in
    let here : Operation = get_or ops i nothing in
    let place : place_of c.place.result ≡ here.place = c.place.ensures ∙ ap (λ (o : Operation). o.place) (c.index-operations-i.is ∙ get_or_default ops i _ nothing lt) in
    let first : n ≡ unwrap_or (old here.place) i = c.in_ok-number.ensures.first ∙ ap (λ (q : Place). unwrap_or (old q) i) place in
    let kept : (p : Place) → new p ≡ cond (same_place here.place p) (Some n) (old p) =
    λ p. c.in_ok-number.ensures.kept p ∙ ap (λ (q : Place). cond (same_place q p) (Some n) (old p)) place in
    record {
      kept = kept-next ops i lt old new n inv.kept first kept;
      numbers = numbers-next ops i lt old new n inv.kept first c.loop-i.numbers.items c.push.new.self.items inv.numbers c.in_ok-push.ensures.items;
    }
