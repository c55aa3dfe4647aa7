use Rattle.std.proofs.Common.{◌≡◌, ap, arith, length, length-append}
use Rattle.shared_heap.proofs.Objects.{many-objects}
use Rattle.shared_heap.proofs.heap.Heap.next_object.Goals as goal

pub overflow_cast-result : goal.overflow_cast-result
overflow_cast-result c =
    let few = many-objects _ c.self.invariant.heap.objects in
    let all = length-append c.self.inside.beginning.declared c.self.inside.made.items in
    let front : length c.declared.result.now ≡ length c.self.inside.beginning.declared = ap length c.declared.ensures in
    let behind = c.len.ensures in
    omega arith
