use Rattle.std.proofs.Common.{ℕ, List, Option, Bor, not, sym, ap, ◌∙◌}
use Rattle.std.specs.List.{list_any}
use Rattle.std.specs.Option.{option_copied}
use Rattle.block_layout.specs.declared.kind.Kind.{Kind}
use Rattle.block_layout.specs.declared.kind.Shape.{Shape}
use Rattle.upc_values.specs.Shapes.{is_integer}
use Rattle.upc_values.specs.Views.{cells_within}
use Rattle.upc_library.proofs.Cursors.{no_cells}
use Rattle.upc_library.proofs.cells.cells_hold_pointers.Goals as goal

pub returns-in-None : goal.returns-in-None
returns-in-None c =
    ap (λ (xs : List (ℕ × Kind)). list_any (λ x. not (is_integer x.1)) xs)
    (sym (ap (λ (o : Option (Bor Shape)). cells_within (option_copied o) c.args.byte c.args.bytes) c.in-None.is
    ∙ no_cells c.args.byte c.args.bytes))
