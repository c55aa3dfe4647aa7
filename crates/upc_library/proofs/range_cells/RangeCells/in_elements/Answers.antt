use Rattle.std.proofs.Common.{ℕ, ◌<◌, List, sym, ap, ◌∙◌, subst, arith}
use Rattle.block_layout.specs.Shapes.{CellsWithin}
use Rattle.block_layout.specs.declared.kind.Kind.{Kind}
use Rattle.block_layout.specs.declared.kind.Shape.{Shape}
use Rattle.upc_library.specs.code.Ranges.{cells_left}
use Rattle.upc_library.proofs.NextCell.{all_left}
use Rattle.upc_library.proofs.range_cells.RangeCells.in_elements.Goals as goal

pub invariant_of-result : goal.invariant_of-result
invariant_of-result c = record {
  shape = (c.requires.shape.0, subst (λ xs. CellsWithin xs 0 c.args.shape.now.size) (sym c.in_ok-copy.ensures) c.requires.shape.1);
  inside = c.place_in.ensures.inside;
  few = omega arith;
}

pub returns : goal.returns
returns c =
    let s = c.args.shape.now in
    let kept : List (ℕ × Kind) → Shape = λ xs. record { size = s.size; cells = xs } in
    ap (λ xs. cells_left (kept xs) c.place_in.result 0 c.args.bytes) c.in_ok-copy.ensures
    ∙ ap (λ p. cells_left s p 0 c.args.bytes) c.place_in.ensures.value ∙ all_left s c.args.byte c.args.bytes
