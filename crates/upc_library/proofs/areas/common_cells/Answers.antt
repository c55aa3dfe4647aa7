use Rattle.std.proofs.Common.{sym, ◌∙◌}
use Rattle.std.specs.Option.{option_copied}
use Rattle.upc_library.proofs.Compared.{of_either}
use Rattle.upc_library.proofs.areas.common_cells.Goals as goal

pub returns-in_ok-cells : goal.returns-in_ok-cells
returns-in_ok-cells c =
    let differ = sym c.differ.ensures ∙ c.if-differ.false in
    (differ, of_either _ _ _ _ _ differ c.in_ok-cells.ensures)
