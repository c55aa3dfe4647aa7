use Rattle.std.proofs.Common.{◌<◌, ℕ, false, true, length, get_or, set, refl, sym, ◌∙◌, subst}
use Rattle.std.proofs.lemmas.List.{get_or_default}
use Rattle.upc_values.proofs.Lists.{each-at}
use Rattle.upc_verify_orders.proofs.Marking.{marked-twice, marked-more}
use Rattle.upc_verify_orders.proofs.order.marked.Goals as goal

pub returns-then-index : goal.returns-then-index
returns-then-index c =
    let at = c.args.at.now in
    let i = c.loop-number.number-index in
    let marks = c.loop-number.marks.items in
    let inv = c.loop-number.invariant in
    let lt = c.loop-number-test.true in
    let k = get_or at i 0 in
    let within : k < c.args.many = each-at (λ n. n < c.args.many) at i 0 c.requires lt in
    let inside : k < length marks = subst (λ (n : ℕ). k < n) (sym inv.length_is) within in
    marked-twice c.args.many at i 0 marks lt inv
    (get_or_default marks k false c.index.result.now inside ∙ sym c.index.ensures ∙ c.if-index.true)

pub loop-number-preserved : goal.loop-number-preserved
loop-number-preserved c =
    let at = c.args.at.now in
    let i = c.loop-number.number-index in
    let marks = c.loop-number.marks.items in
    let inv = c.loop-number.invariant in
    let lt = c.loop-number-test.true in
    let k = get_or at i 0 in
    let within : k < c.args.many = each-at (λ n. n < c.args.many) at i 0 c.requires lt in
    let inside : k < length marks = subst (λ (n : ℕ). k < n) (sym inv.length_is) within in
    marked-more c.args.many at i 0 marks lt inv (set marks k true) within
    (get_or_default marks k false c.index.result.now inside ∙ sym c.index.ensures ∙ c.if-index.false) refl
