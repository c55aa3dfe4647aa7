use Rattle.std.proofs.Common.{◌∙◌, take, arith}
use Rattle.upc_text.proofs.Pieces.{StandsAt-next}
use Rattle.upc_text.proofs.whole.read_up_to.Goals as goal

pub loop-chunk-preserved : goal.loop-chunk-preserved
loop-chunk-preserved g c =
    let so_far = c.loop-chunk.invariant in
    let read = c.in_ok-count.ensures in
    let joined = c.in_ok-extend_from_slice.ensures.items in
    record {
      front = StandsAt-next _ _ c.loop-chunk.bytes.items (take c.in_ok-count.count c.read_at.new.buf) _ _ so_far.front (so_far.same c.args.name.now) read.placed (omega arith) joined;
      counts = λ other. omega (arith, so_far.counts other, read.counts other);
      same = λ other. read.same other ∙ so_far.same other;
    }
