use Rattle.std.proofs.Common.{◌≡◌, ◌<◌, length, get_or, ap, ◌∙◌}
use Rattle.std.proofs.lemmas.List.{get_or_default}
use Rattle.upc_values.specs.Operations.{Operation}
use Rattle.upc_values.proofs.Lists.{each-at}
use Rattle.upc_verify_orders.specs.code.Found.{nothing}
use Rattle.upc_verify_orders.proofs.Numbering.{number-at}
use Rattle.upc_verify_orders.proofs.Building.{access-more}
use Rattle.upc_verify_orders.proofs.reads.accesses_at.Goals as goal

pub loop-number-preserved : goal.loop-number-preserved
loop-number-preserved c =
    let ops = c.args.operations.now in
    let at = c.args.at.now in
    let i = c.loop-number.number-index in
    let lt = c.loop-number-test.true in
    let k = get_or at i 0 in
    let within : k < length ops = each-at (λ n. n < length ops) at i 0 c.requires.within lt in
    let w : c.is_write-write.result ≡ (get_or ops k nothing).write =
    c.is_write-write.ensures ∙ ap (λ (o : Operation). o.write) (c.index-operations-number.is ∙ get_or_default ops k _ nothing within) in
    let v : c.value-value.result ≡ (get_or ops k nothing).value =
    c.value-value.ensures ∙ ap (λ (o : Operation). o.value) (c.index-operations-number-in-loop-number.is ∙ get_or_default ops k _ nothing within) in
    access-more ops at i 0 c.loop-number.list.items c.push.new.self.items c.is_write-write.result (get_or c.args.numbers.now k 0) c.value-value.result lt
    c.loop-number.invariant w (number-at ops c.args.numbers.now k 0 within c.requires.numbered) v c.in_ok-push.ensures.items
