use Rattle.std.proofs.Common.{take}
use Rattle.block_layout.specs.Shapes.{LieUpTo}
use Rattle.block_layout.proofs.ends.end_of_list.Given as goal

abbrev pub invariant-loop-place : goal.invariant-loop-place
invariant-loop-place l = LieUpTo (take l.place-index l.cells) l.from l.end
