use Rattle.std.proofs.Common.{◌∙◌}
use Rattle.upc_verify_orders.proofs.Tables.{tables-next}
use Rattle.upc_verify_orders.proofs.table.tables_of.Goals as goal

pub loop-thread-preserved : goal.loop-thread-preserved
loop-thread-preserved c =
    tables-next c.args.strict.now c.loop-thread.thread c.loop-thread.tables.items c.push.new.self.items
    c.from_vec.result c.in_ok-push.ensures.items c.loop-thread.invariant (c.from_vec.ensures ∙ c.in_ok-points.ensures)
