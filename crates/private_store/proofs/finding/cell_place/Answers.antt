use Rattle.private_store.proofs.Places.{kind_other}
use Rattle.private_store.proofs.finding.cell_place.Goals as goal

pub returns-else-is-clause-value : goal.returns-else-is-clause-value
returns-else-is-clause-value c =
    kind_other c.args.cells.now c.args.byte c.args.kind c.requires c.in-Some.place (c.in-Some.ensures) _ c.is.result c.is.ensures.value c.if-is.false
