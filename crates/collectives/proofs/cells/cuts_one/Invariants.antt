use Rattle.std.proofs.Common.{◌≡◌, ℕ, ◌+◌, nat_lt, ◌&&◌}
use Rattle.std.specs.List.{list_any}
use Rattle.block_layout.specs.declared.kind.Kind.{Kind}
use Rattle.block_layout.specs.Shapes.{kind_size}
use Rattle.collectives.proofs.cells.cuts_one.Given as goal

abbrev pub invariant-loop-cell : goal.invariant-loop-cell
invariant-loop-cell l = record {
  next : (goal.iterator-loop-cell).can_next l.cell-iterator;
  finite : (goal.iterator-loop-cell).is_finite l.cell-iterator;
  rest : list_any (λ (c : ℕ × Kind). nat_lt c.0 l.place && nat_lt l.place (c.0 + kind_size c.1)) l.cell-iterator
      ≡ list_any (λ (c : ℕ × Kind). nat_lt c.0 l.place && nat_lt l.place (c.0 + kind_size c.1)) l.cells;
}
