use Rattle.std.proofs.Common.{◌≡◌, ℕ, [], List, get_or, sym, ◌∙◌, subst, inl, inr, arith}
use Rattle.std.proofs.lemmas.Bool.{cases_lt, false≢true}
use Rattle.std.proofs.lemmas.List.{get_or_default}
use Rattle.upc_values.specs.declared.order.Op.{Op}
use Rattle.upc_verify_orders.specs.code.Orders.{IsOrderFound}
use Rattle.upc_verify_orders.proofs.verdict.first_broken.Goals as goal

pub loop-thread-preserved : goal.loop-thread-preserved
loop-thread-preserved c = λ initial e t lt.
    let thread = c.loop-thread.thread in
    let orders = c.args.orders.now in
    elim (cases_lt t thread) [
      | inl under ↦ c.loop-thread.invariant initial e t under
      | inr over ↦
          let q : t ≡ thread = omega arith in
          let names : c.as_slice-names.result.now ≡ get_or orders thread [] =
          c.as_slice-names.ensures ∙ c.index-orders-thread.is ∙ get_or_default orders thread _ [] (omega arith) in
          subst (λ (k : ℕ). IsOrderFound initial c.args.known.now.operations.items c.args.strict.now k (get_or orders k [])) (sym q)
          (subst (λ (l : List Op). IsOrderFound initial c.args.known.now.operations.items c.args.strict.now thread l) names
          ((c.in_ok-holds.ensures initial e).0 c.if-not-holds.false))
    ]

pub returns-then-not-holds : goal.returns-then-not-holds
returns-then-not-holds c = λ initial e.
    let thread = c.loop-thread.thread in
    let orders = c.args.orders.now in
    let names : c.as_slice-names.result.now ≡ get_or orders thread [] =
    c.as_slice-names.ensures ∙ c.index-orders-thread.is ∙ get_or_default orders thread _ [] (omega arith) in
    record {
      within = omega arith;
      fails = λ f.
          false≢true (sym c.if-not-holds.true
          ∙ (c.in_ok-holds.ensures initial e).1
          (subst (λ (l : List Op). IsOrderFound initial c.args.known.now.operations.items c.args.strict.now thread l) (sym names) f));
      before = λ u lt. c.loop-thread.invariant initial e u lt;
    }
