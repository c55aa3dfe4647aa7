use Rattle.std.proofs.Common.{◌≡◌, ◌++◌, ℕ, map, take}
use Rattle.block_layout.specs.declared.kind.Kind.{Kind}
use Rattle.upc_values.specs.Shapes.{blank_value}
use Rattle.private_store.specs.code.Held.{held_values}
use Rattle.private_store.proofs.object.add_blanks.Given as goal

abbrev pub invariant-loop-cell : goal.invariant-loop-cell
invariant-loop-cell l =
    held_values l.held.items ≡ held_values l.initial.held.items ++ map (λ (c : ℕ × Kind). blank_value c.1) (take l.cell-index l.cells)
