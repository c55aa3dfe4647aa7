use Rattle.std.proofs.Common.{rules, ◌≡◌, ◌++◌, ◌+◌, [], ◌∷◌, false, sym, subst}
use Rattle.shared_heap.specs.layer.Heap.{HeapState}
use Rattle.shared_heap.specs.code.Kept.{IsNext, IsKept}
use Rattle.shared_heap.proofs.Placed.{kept-made}
use Rattle.shared_heap.proofs.heap.Heap.put.Goals as goal

pub invariant_of-self-2 : goal.invariant_of-self-2
invariant_of-self-2 c =
    let x = c.args.object in
    let i = c.self.inside in
    let h : HeapState = record { opening = i.beginning; made = i.made.items; released = i.released.items; cells = i.cells } in
    let next : IsNext h x = subst (λ z. IsNext z x) (sym c.self.view_is) c.requires in
    let made : c.push-2.new.self.items ≡ i.made.items ++ x ∷ [] = search rules in
    let flags : c.push.new.self.items ≡ i.released.items ++ false ∷ [] = search rules in
    subst (λ ms. IsKept record { opening = i.beginning; made = ms; released = c.push.new.self.items; cells = i.cells } (i.bytes + x.total))
    (sym made)
    (subst (λ rs. IsKept record { opening = i.beginning; made = i.made.items ++ x ∷ []; released = rs; cells = i.cells } (i.bytes + x.total))
    (sym flags) (kept-made h x i.bytes c.self.invariant next))
