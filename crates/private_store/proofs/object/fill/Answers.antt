use Rattle.std.proofs.Common.{subst}
use Rattle.private_store.specs.code.Laid.{IsForm}
use Rattle.private_store.proofs.RowCells.{row_count}
use Rattle.private_store.proofs.object.fill.Goals as goal

pub returns-in_ok-add_row-in-Row-clause-count : goal.returns-in_ok-add_row-in-Row-clause-count
returns-in_ok-add_row-in-Row-clause-count c =
    row_count c.args.shape.now c.in-Row.kind c.size-width.result (subst (λ f. IsForm f c.args.shape.now) c.in-Row.is c.requires) c.size-width.ensures.value
