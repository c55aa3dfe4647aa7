use Rattle.std.proofs.Common.{◌≡◌, ◌++◌, ℕ, map}
use Rattle.block_layout.specs.declared.kind.Kind.{Kind}
use Rattle.upc_values.specs.Shapes.{blank_value}
use Rattle.private_store.specs.code.Held.{held_values}
use Rattle.private_store.specs.code.Laid.{row_cells}
use Rattle.private_store.proofs.object.add_row.Given as goal

abbrev pub invariant-loop-at : goal.invariant-loop-at
invariant-loop-at l =
    held_values l.held.items ≡ held_values l.initial.held.items ++ map (λ (c : ℕ × Kind). blank_value c.1) (row_cells l.kind 0 l.at)
