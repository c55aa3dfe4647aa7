use Rattle.std.proofs.Common.{w64, Some, to_z, of_z}
use Rattle.std.proofs.Math.Facts.{to_z-of_z}
use Rattle.private_store.specs.code.Kept.{IsByte}
use Rattle.private_store.proofs.RowCells.{at_row, between_row}
use Rattle.private_store.proofs.row_shapes.place_in_row.Goals as goal

pub returns-then-byte-width-eq0 : goal.returns-then-byte-width-eq0
returns-then-byte-width-eq0 c x n row size =
    let byte : IsByte (to_z w64 (of_z w64 c.args.offset)) c.size-width.result c.args.size (Some c.in-Some.byte) = c.in-Some.ensures in
    at_row x c.args.kind n row c.args.offset c.size-width.result c.args.size c.in-Some.byte c.size-width.ensures.value size
    (rw (to_z-of_z {w = w64} c.ranges.offset) at byte) c.if-byte-width-eq0.true

pub returns-else-byte-width-eq0 : goal.returns-else-byte-width-eq0
returns-else-byte-width-eq0 c x n row size =
    let byte : IsByte (to_z w64 (of_z w64 c.args.offset)) c.size-width.result c.args.size (Some c.in-Some.byte) = c.in-Some.ensures in
    between_row x c.args.kind n row c.args.offset c.size-width.result c.args.size c.in-Some.byte c.size-width.ensures.value size
    (rw (to_z-of_z {w = w64} c.ranges.offset) at byte) c.if-byte-width-eq0.false
