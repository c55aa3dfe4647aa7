use Rattle.std.proofs.Common.{sym, ◌∙◌}
use Rattle.private_store.proofs.RowCells.{single_is}
use Rattle.private_store.proofs.row_shapes.single.Goals as goal

pub returns-then-size-shape : goal.returns-then-size-shape
returns-then-size-shape c =
    single_is c.args.shape.now c.next.new.self c.in-Some.cell c.requires (sym c.iter.ensures ∙ c.in-Some.ensures.steps) c.if-cell-eq0.true
    (sym c.size.ensures.value ∙ c.if-size-shape.true)
