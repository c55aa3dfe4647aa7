use Rattle.std.proofs.Common.{Option, Bor, sym, ap, ◌∙◌}
use Rattle.std.specs.Option.{option_copied}
use Rattle.block_layout.specs.declared.kind.Shape.{Shape}
use Rattle.upc_values.specs.Views.{cells_within}
use Rattle.upc_library.proofs.Cursors.{no_cells}
use Rattle.upc_library.proofs.range_cells.RangeCells.of.Goals as goal

pub returns-in-None : goal.returns-in-None
returns-in-None c =
    c.none.ensures ∙ sym (no_cells c.args.byte c.args.bytes)
    ∙ ap (λ (o : Option (Bor Shape)). cells_within (option_copied o) c.args.byte c.args.bytes) (sym c.in-None.is)
