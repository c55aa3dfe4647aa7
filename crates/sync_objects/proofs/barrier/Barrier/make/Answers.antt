use Rattle.std.proofs.Common.{arith}
use Rattle.std.proofs.lemmas.List.{replicate_more}
use Rattle.std.proofs.lemmas.Grind.{common_steps}
use Rattle.sync_objects.specs.layer.Barrier.{fresh}
use Rattle.sync_objects.proofs.barrier.Barrier.make.Goals as goal

pub loop-preserved : goal.loop-preserved
loop-preserved c = grind (arith, common_steps, replicate_more c.loop.counter fresh)
