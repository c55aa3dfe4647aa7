use Rattle.std.proofs.Common.{◌∙◌, ◌++◌, ap}
use Rattle.run_recorder_text.specs.Lines.{order_lines}
use Rattle.run_recorder_text.specs.code.Rows.{rows}
use Rattle.run_recorder_text.proofs.Wholes.{numbered_step}
use Rattle.run_recorder_text.proofs.writing.orders.Goals as goal

pub loop-t-preserved : goal.loop-t-preserved
loop-t-preserved c =
    numbered_step order_lines c.loop-t.out.items c.order.new.out.items _ c.loop-t.t c.args.orders.now
    c.index-orders-t.result c.loop-t-test.true c.index-orders-t.is
    (c.in_ok-order.ensures ∙ ap (λ xs. c.loop-t.out.items ++ rows (order_lines c.loop-t.t xs)) c.as_slice.ensures)
    c.loop-t.invariant
