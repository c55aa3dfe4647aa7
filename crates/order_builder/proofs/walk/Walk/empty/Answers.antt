use Rattle.std.proofs.Common.{rules, ◌≡◌, [], ◌∷◌, refl}
use Rattle.order_builder.specs.declared.walk.Walk.{Walk}
use Rattle.order_builder.proofs.Showing.{emptying-more, emptying-all}
use Rattle.order_builder.proofs.walk.Walk.empty.Goals as goal

pub loop-oldest-preserved : goal.loop-oldest-preserved
loop-oldest-preserved c =
    let s = c.loop-oldest.self in
    let k = c.in-Some.oldest in
    let t : Walk =
    record { next = s.next; emitted = c.push.new.self; pending = c.pop_front.new.self; agrees = s.agrees } in
    let is : s.pending.items ≡ k ∷ t.pending.items = search rules in
    λ w h. emptying-more w s t k t.pending.items is refl c.in_ok-push.ensures refl refl (c.loop-oldest.invariant w h)

pub returns : goal.returns
returns c =
    let s = c.loop-oldest.self in
    let t : Walk =
    record { next = s.next; emitted = s.emitted; pending = c.pop_front.new.self; agrees = s.agrees } in
    let before : s.pending.items ≡ [] = search rules in
    let after : t.pending.items ≡ [] = search rules in
    λ w h. emptying-all w s t before refl refl after refl (c.loop-oldest.invariant w h)
