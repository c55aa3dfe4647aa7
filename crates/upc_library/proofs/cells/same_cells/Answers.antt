use Rattle.std.proofs.Common.{Option, Bor, [], true, refl, sym, ap, ◌∙◌}
use Rattle.std.specs.Option.{option_copied}
use Rattle.block_layout.specs.Cells.{same_cells}
use Rattle.block_layout.specs.declared.kind.Shape.{Shape}
use Rattle.upc_values.specs.Views.{cells_within}
use Rattle.upc_library.proofs.Compared.{none_first, none_second}
use Rattle.upc_library.proofs.cells.same_cells.Goals as goal

pub returns-in-Some-None : goal.returns-in-Some-None
returns-in-Some-None c =
    none_second (cells_within (option_copied c.args.a) c.args.first c.args.bytes) _ (option_copied c.args.b) c.args.second
    c.args.bytes (ap option_copied c.in-Some-None.is-1)
    (c.is_bare.ensures ∙ ap (λ (o : Option (Bor Shape)). same_cells (cells_within (option_copied o) c.args.first c.args.bytes) [])
    (sym c.in-Some-None.is-0))

pub returns-in-None-Some : goal.returns-in-None-Some
returns-in-None-Some c =
    none_first (cells_within (option_copied c.args.b) c.args.second c.args.bytes) _ (option_copied c.args.a) c.args.first
    c.args.bytes (ap option_copied c.in-None-Some.is-0)
    (c.is_bare-in-None-Some.ensures ∙ ap (λ (o : Option (Bor Shape)). same_cells (cells_within (option_copied o) c.args.second c.args.bytes) [])
    (sym c.in-None-Some.is-1))

pub returns-in-None-None : goal.returns-in-None-None
returns-in-None-None c =
    none_second (cells_within (option_copied c.args.a) c.args.first c.args.bytes) true (option_copied c.args.b) c.args.second
    c.args.bytes (ap option_copied c.in-None-None.is-1)
    (none_first [] true (option_copied c.args.a) c.args.first c.args.bytes (ap option_copied c.in-None-None.is-0) refl)
