use Rattle.run_recorder.proofs.Tables.{tables_more}
use Rattle.run_recorder.proofs.entries.tables.Goals as goal

pub loop-strand-preserved : goal.loop-strand-preserved
loop-strand-preserved c =
    rw c.in_ok-push.ensures.items
    (tables_more c.args.strands.now c.loop-strand.strand-index c.loop-strand.tables.items c.strand-item.result
    c.in_ok-table.table c.loop-strand-test.true c.strand-item.is c.loop-strand.invariant
    c.in_ok-table.ensures)
