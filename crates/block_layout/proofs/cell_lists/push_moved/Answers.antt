use Rattle.std.proofs.Common.{◌≤◌, slice_index_or, arith}
use Rattle.block_layout.specs.declared.kind.Kind.TheVariants.{Char}
use Rattle.block_layout.proofs.Within.{offset_within}
use Rattle.block_layout.proofs.cell_lists.push_moved.Goals as goal

pub overflow_add-start : goal.overflow_add-start
overflow_add-start c =
    let h : (slice_index_or c.args.part.now c.loop-offset.offset-index (0, Char)).0 ≤ c.args.size = offset_within c.args.part.now 0 c.args.size c.loop-offset.offset-index (0, Char) c.requires.within c.loop-offset-test.true in
    omega arith
