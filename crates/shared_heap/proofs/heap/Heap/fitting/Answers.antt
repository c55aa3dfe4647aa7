use Rattle.std.proofs.Common.{◌==◌, ◌*◌, ◌≤◌, not, slice_get, arith}
use Rattle.std.proofs.lemmas.Bool.{and_parts}
use Rattle.upc_values.specs.Formed.{is_whole}
use Rattle.shared_heap.proofs.Placed.{block-below, some-product}
use Rattle.shared_heap.proofs.heap.Heap.fitting.Goals as goal

pub overflow_cast-nbytes : goal.overflow_cast-nbytes
overflow_cast-nbytes c =
    let n = c.args.nblocks in
    let b = c.args.nbytes in
    let p = and_parts (not (n * b == 0)) (is_whole (slice_get c.args.self.now.opening.shapes c.args.shape) b) c.requires in
    let low : b ≤ n * b = block-below n b (some-product n b p.0) in
    let e = c.in_ok-total.ensures.some in
    let same = e.0 in
    let most = e.1 in
    omega arith
