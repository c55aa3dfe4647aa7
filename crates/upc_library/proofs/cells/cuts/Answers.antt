use Rattle.std.proofs.Common.{Option, Bor, sym, ap, ◌∙◌}
use Rattle.std.specs.Option.{option_copied}
use Rattle.block_layout.specs.Cells.{has_cut}
use Rattle.block_layout.specs.declared.kind.Shape.{Shape}
use Rattle.upc_values.specs.Views as views
use Rattle.upc_library.proofs.cells.cuts.Goals as goal

pub returns-in-Some : goal.returns-in-Some
returns-in-Some c =
    c.cuts.ensures ∙ ap (λ p. has_cut c.in-Some.shape.now.cells p) c.place_in.ensures.value
    ∙ ap (λ (o : Option (Bor Shape)). views.cuts (option_copied o) c.args.byte) (sym c.in-Some.is)
