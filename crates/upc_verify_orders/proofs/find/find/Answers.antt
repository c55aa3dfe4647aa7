use Rattle.std.proofs.Common.{◌≤◌, length, ap, sym, ◌∙◌, arith}
use Rattle.std.proofs.lemmas.Bool.{false≢true}
use Rattle.std.proofs.lemmas.List.{get_or_default}
use Rattle.upc_values.specs.Orders.{name_of}
use Rattle.upc_verify_orders.specs.code.Found.{nothing}
use Rattle.upc_verify_orders.proofs.Taken.{none-named}
use Rattle.upc_verify_orders.proofs.find.find.Goals as goal

pub returns-then-count-operations : goal.returns-then-count-operations
returns-then-count-operations c =
    let count = c.count_before-count.result in
    let h = c.count_before-count.ensures in
    let end : length c.args.operations.now ≤ count = c.if-count-operations.true in
    none-named c.args.operations.now c.args.name count c.requires h.less h.more (λ lt e. absurd (omega arith))

pub returns-then-is_named : goal.returns-then-is_named
returns-then-is_named c =
    let ops = c.args.operations.now in
    let count = c.count_before-count.result in
    let x = c.index-operations-count.result in (
      c.if-count-operations.false,
      sym (ap name_of (c.index-operations-count.is ∙ get_or_default ops count x nothing c.if-count-operations.false))
          ∙ c.is_named.ensures.0 c.if-is_named.true,
    )

pub returns : goal.returns
returns c =
    let ops = c.args.operations.now in
    let count = c.count_before-count.result in
    let h = c.count_before-count.ensures in
    let x = c.index-operations-count.result in
    none-named ops c.args.name count c.requires h.less h.more
    (λ lt e. false≢true (sym c.if-is_named.false ∙ c.is_named.ensures.1 (ap name_of (c.index-operations-count.is ∙ get_or_default ops count x nothing lt) ∙ e)))
