use Rattle.std.proofs.Common.{arith}
use Rattle.std.proofs.lemmas.Int.{ints, to_z-of_z}
use Rattle.shared_pointers.proofs.step.place_by_blocks.Goals as goal

pub returns-clause-offset : goal.returns-clause-offset
returns-clause-offset c = grind (arith, ints, to_z-of_z, c.offset_of-offset.ensures.value)
