use Rattle.std.proofs.Common.{◌<◌, sym, subst, arith}
use Rattle.block_layout.specs.Shapes.{CellsWithin}
use Rattle.upc_library.proofs.range_cells.RangeCells.none.Goals as goal

pub invariant_of-result : goal.invariant_of-result
invariant_of-result c = record {
  shape = (omega arith, subst (λ xs. CellsWithin xs 0 1) (sym c.new.ensures) tt);
  inside = omega arith;
  few = omega arith;
}
