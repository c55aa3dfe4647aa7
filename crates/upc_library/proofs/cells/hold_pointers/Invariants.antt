use Rattle.std.proofs.Common.{◌≡◌, ◌+◌, ◌%◌, Some, false, not}
use Rattle.std.specs.List.{list_any}
use Rattle.upc_values.specs.Shapes.{is_integer}
use Rattle.upc_values.specs.Views.{cells_within}
use Rattle.upc_library.specs.code.Cursors.{IsCursor}
use Rattle.upc_library.proofs.cells.hold_pointers.Given as goal

abbrev pub invariant-loop-i : goal.invariant-loop-i
invariant-loop-i l = record {
  place : l.cursor.place ≡ (l.byte + l.i) % l.shape.size;
  cursor : IsCursor l.shape l.cursor.place l.cursor.next l.cursor.left;
  none : list_any (λ x. not (is_integer x.1)) (cells_within (Some l.shape) l.byte l.i) ≡ false;
}
