use Rattle.std.proofs.Common.{w64, Some, to_z, of_z}
use Rattle.std.proofs.Math.Facts.{to_z-of_z}
use Rattle.private_store.specs.code.Kept.{IsByte}
use Rattle.private_store.proofs.RowCells.{row_of_others}
use Rattle.private_store.proofs.row_shapes.code_in_other_row.Goals as goal

pub returns-in-Some : goal.returns-in-Some
returns-in-Some c x own n row size other =
    let byte : IsByte (to_z w64 (of_z w64 c.args.offset)) c.size.result c.args.size (Some c.in-Some.field-0) = c.in-Some.ensures in
    row_of_others x own n row c.args.offset c.args.kind c.size.result c.args.size c.in-Some.field-0 other c.size.ensures.value size
    (rw (to_z-of_z {w = w64} c.ranges.offset) at byte)
