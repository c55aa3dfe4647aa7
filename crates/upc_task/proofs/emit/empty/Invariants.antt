use Rattle.std.proofs.Common.{◌≡◌, ◌++◌, length, map}
use Rattle.write_buffer.specs.layer.Buffer.{committed}
use Rattle.upc_task.specs.layer.Kept.{AreFormed, Grew}
use Rattle.upc_task.proofs.emit.empty.Given as goal

abbrev pub invariant-loop-oldest : goal.invariant-loop-oldest
invariant-loop-oldest l = record {
  all : l.world.1 ++ map (committed l.thread) l.buffer ≡ l.fn.world.1 ++ map (committed l.thread) l.fn.buffer;
  formed : AreFormed l.fn.world.0 l.world.1 l.buffer;
  opening : l.world.0 ≡ l.fn.world.0;
  grew : Grew l.thread l.fn.world.1 l.world.1;
}

abbrev pub decreases-loop-oldest : goal.decreases-loop-oldest
decreases-loop-oldest l = length l.buffer
