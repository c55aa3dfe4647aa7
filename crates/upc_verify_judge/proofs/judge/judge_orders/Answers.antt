use Rattle.std.proofs.Common.{◌<◌, refl, sym, subst, ◌∙◌}
use Rattle.upc_verify_judge.specs.Verdicts.{Case, orders}
use Rattle.upc_verify_judge.proofs.Judging.{passed, stopped, all-hold, ordered}
use Rattle.upc_verify_judge.proofs.judge.judge_orders.Goals as goal

pub broken_orders-requires-clause-some : goal.broken_orders-requires-clause-some
broken_orders-requires-clause-some c = subst (λ n. 0 < n) (sym c.requires.shape.threads) c.requires.some

pub broken_orders-requires-clause-many : goal.broken_orders-requires-clause-many
broken_orders-requires-clause-many c = c.requires.shape.orders ∙ sym c.requires.shape.threads

pub returns-in-Some : goal.returns-in-Some
returns-in-Some c = λ outcome b.
    let w = c.args.world.now in
    let j = c.args.journal.now in
    let x = c.args.orders.now in
    let r = c.in_ok-broken.broken in (
      orders,
      refl,
      stopped (record { opening = w.0; outcome = outcome; journal = j; orders = x }) orders c.in-Some.thread r c.in-Some.is b
          (ordered w.0 w.1 j x outcome c.requires.history c.requires.shape.threads r c.in_ok-broken.ensures),
    )

pub returns-in-None : goal.returns-in-None
returns-in-None c = λ outcome b.
    let w = c.args.world.now in
    let j = c.args.journal.now in
    let x = c.args.orders.now in
    let r = c.in_ok-broken.broken in
    let case : Case = record { opening = w.0; outcome = outcome; journal = j; orders = x } in
    all-hold case
    (passed case orders r c.in-None.is b
    (ordered w.0 w.1 j x outcome c.requires.history c.requires.shape.threads r c.in_ok-broken.ensures))
