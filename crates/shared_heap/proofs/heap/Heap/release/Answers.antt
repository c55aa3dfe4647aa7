use Rattle.std.proofs.Common.{◌≡◌, ◌<◌, ◌+◌, Bool, List, length, sym, ap, subst, ◌∙◌}
use Rattle.shared_heap.specs.layer.Heap.{HeapState, without_object}
use Rattle.shared_heap.proofs.Starts.{released-made}
use Rattle.shared_heap.proofs.heap.Heap.release.Goals as goal

pub returns-clause-released : goal.returns-clause-released
returns-clause-released c =
    let i = c.self.inside in
    let n = c.args.pointer.now.object.number in
    let at = c.in-Some.place in
    let state : List Bool → HeapState = λ rs. record { opening = i.beginning; made = i.made.items; released = rs; cells = i.cells } in
    let place : (at < length i.made.items) × (n ≡ length i.beginning.declared + 1 + at) =
    subst (λ h. (at < length h.made) × (n ≡ length h.opening.declared + 1 + at)) (sym c.self.view_is) c.in-Some.ensures.place in
    ap state (sym (released-made (state i.released.items) n at c.self.invariant.heap place.1 place.0))
    ∙ ap (without_object n) c.self.view_is
