use Rattle.order_builder.proofs.Choosing.{threads-more}
use Rattle.order_builder.proofs.order.thread_orders.Goals as goal

pub loop-thread-preserved : goal.loop-thread-preserved
loop-thread-preserved c =
    threads-more c.args.names.now c.loop-thread.thread c.loop-thread.orders.items c.push.new.self.items
    c.in_ok-order_of.field-0 c.in_ok-push.ensures.items c.loop-thread.invariant c.in_ok-order_of.ensures
