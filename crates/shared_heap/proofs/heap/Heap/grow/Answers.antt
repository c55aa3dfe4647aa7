use Rattle.shared_heap.proofs.Placed.{grow-next}
use Rattle.shared_heap.proofs.heap.Heap.grow.Goals as goal

pub put-requires : goal.put-requires
put-requires c =
    grow-next c.args.self.now c.args.nblocks c.args.nbytes c.args.home c.args.shape c.in-Some.object c.keeps.ensures c.requires.whole
    c.requires.home c.in-Some.ensures.some
