use Rattle.std.proofs.Common.{◌-◌, ◌+◌, ◌/◌, ◌<◌, ◌≤◌, length, subst, sym, ◌∙◌, arith}
use Rattle.std.proofs.lemmas.Bool.{false≢true}
use Rattle.upc_values.specs.Operations.{Operation}
use Rattle.upc_verify_orders.specs.code.Found.{IsBefore}
use Rattle.upc_verify_orders.proofs.Sorted.{sorted-down, so-below, not-above}
use Rattle.upc_verify_orders.proofs.find.count_before.Goals as goal

pub loop-low-preserved-then-is_before : goal.loop-low-preserved-then-is_before
loop-low-preserved-then-is_before c =
    let ops = c.args.operations.now in
    let low = c.loop-low.low in
    let high = c.loop-low.high in
    let v = c.loop-low.invariant in
    let test : low < high = c.loop-low-test.true in
    let end : high ≤ length ops = v.within in
    let m = low + (high - low) / 2 in
    let under : m < high = omega arith in
    let x = c.index-operations-middle.result in
    let P : Operation → Type 0 = λ o. IsBefore o c.args.name in
    record {
      order = omega arith;
      within = v.within;
      less = λ i d lt. so-below P ops (sorted-down ops c.args.name c.requires) m i d x (omega arith) (subst P c.index-operations-middle.is (c.is_before.ensures.0 c.if-is_before.true)) lt;
      more = v.more;
    }

pub loop-low-preserved : goal.loop-low-preserved
loop-low-preserved c =
    let ops = c.args.operations.now in
    let low = c.loop-low.low in
    let high = c.loop-low.high in
    let v = c.loop-low.invariant in
    let test : low < high = c.loop-low-test.true in
    let end : high ≤ length ops = v.within in
    let m = low + (high - low) / 2 in
    let under : m < high = omega arith in
    let x = c.index-operations-middle.result in
    let P : Operation → Type 0 = λ o. IsBefore o c.args.name in
    record {
      order = omega arith;
      within = omega arith;
      less = v.less;
      more = λ i d le lt. not-above P ops (sorted-down ops c.args.name c.requires) m i d x lt
          (λ p. false≢true (sym c.if-is_before.false ∙ c.is_before.ensures.1 (subst P (sym c.index-operations-middle.is) p))) le;
    }
