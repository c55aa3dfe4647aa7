use Rattle.std.proofs.Common.{◌∙◌}
use Rattle.replica_space_consistent.proofs.Judging.{are-consistent}
use Rattle.replica_space_walk.proofs.Ending.{order-by-names, consistent-by-names}
use Rattle.replica_space_walk.proofs.orders.replica_orders.Goals as goal

pub returns-clause-orders : goal.returns-clause-orders
returns-clause-orders c = λ t lt.
    let j = c.args.journal.now in
    let w = c.in_ok-copies in
    c.in_ok-threads.ensures.each t lt ∙ order-by-names j.threads t j.events w.field-0.copies w.field-0.rows.items w.ensures lt

pub returns-clause-consistent : goal.returns-clause-consistent
returns-clause-consistent c = λ o e run.
    let j = c.args.journal.now in
    let w = c.in_ok-copies in
    consistent-by-names o j.threads j.events (record { strict = c.in_ok-strict.strict; threads = c.in_ok-threads.threads })
    (are-consistent o j.events run) e c.in_ok-strict.ensures c.in_ok-threads.ensures.many
    (λ t lt. c.in_ok-threads.ensures.each t lt ∙ order-by-names j.threads t j.events w.field-0.copies w.field-0.rows.items w.ensures lt)
