use Rattle.std.proofs.Common.{sym, ap, ◌∙◌}
use Rattle.upc_values.specs.layer.Parts.{is_kind}
use Rattle.collectives.proofs.elements.is_cell.Goals as goal

pub returns-in-Some : goal.returns-in-Some
returns-in-Some c = c.is.ensures.value ∙ ap (is_kind c.args.kind) (sym c.in-Some.is ∙ c.kind_of.ensures)

pub returns-in-None : goal.returns-in-None
returns-in-None c = ap (is_kind c.args.kind) (sym c.in-None.is ∙ c.kind_of.ensures)
