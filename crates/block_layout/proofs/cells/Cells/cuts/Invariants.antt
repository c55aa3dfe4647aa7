use Rattle.std.proofs.Common.{◌≡◌, ℕ}
use Rattle.block_layout.specs.Cells.{has_cut}
use Rattle.block_layout.specs.Shapes.{CellsWithin}
use Rattle.block_layout.proofs.cells.Cells.cuts.Given as goal

abbrev pub invariant-loop-start : goal.invariant-loop-start
invariant-loop-start l = record {
  next : (goal.iterator-loop-start).can_next l.start-iterator;
  finite : (goal.iterator-loop-start).is_finite l.start-iterator;
  within : (size : ℕ) × CellsWithin l.start-iterator 0 size;
  rest : has_cut l.start-iterator l.place ≡ has_cut l.self l.place;
}
