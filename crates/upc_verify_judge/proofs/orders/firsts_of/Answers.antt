use Rattle.std.proofs.Common.{List, [], ◌∷◌, ◌++◌, map, take, ap, sym, ◌∙◌}
use Rattle.std.proofs.lemmas.List.{map_more}
use Rattle.upc_values.specs.declared.scalar.Scalar.{Scalar}
use Rattle.upc_values.specs.Operations.{Operation}
use Rattle.upc_values.specs.Consistent.{begins, initial_at}
use Rattle.upc_verify_judge.proofs.orders.firsts_of.Goals as goal

pub loop-operation-preserved : goal.loop-operation-preserved
loop-operation-preserved c =
    let w = c.args.world.now in
    let first : Operation → Scalar = λ o. initial_at (begins w.0 w.1) o.place in
    let operations = c.args.operations.now in
    let i = c.loop-operation.operation-index in
    c.in_ok-push.ensures.items
    ∙ ap (λ (xs : List Scalar). xs ++ (c.first_at.result ∷ [])) c.loop-operation.invariant
    ∙ ap (λ (z : Scalar). map first (take i operations) ++ (z ∷ []))
    (c.first_at.ensures ∙ ap (initial_at (begins w.0 w.1)) c.place.ensures ∙ ap first c.operation-item.is)
    ∙ sym (map_more first operations i c.operation-item.result c.loop-operation-test.true)
