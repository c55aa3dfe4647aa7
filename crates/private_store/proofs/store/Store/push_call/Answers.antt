use Rattle.private_store.specs.declared.frame.Call.{Call}
use Rattle.private_store.specs.Live.{Live}
use Rattle.private_store.proofs.Straight.{standing_called, standing_marked}
use Rattle.private_store.proofs.store.Store.push_call.Goals as goal

pub invariant_of-self-in_err-push-2 : goal.invariant_of-self-in_err-push-2
invariant_of-self-in_err-push-2 c =
    let o = c.self.inside in
    let s : Live = record { objects = o.objects; blocks = o.blocks.items; calls = o.calls.items; next = o.next } in
    let made = c.mark_of-mark.result in
    let is = rw (c.deref.ensures.value, c.deref-2.ensures.value) at c.mark_of-mark.ensures in
    rw (c.in_err-push-2.ensures.items, c.in_ok-push.ensures.items) (standing_marked s o.space o.straight o.base o.marks.items c.self.invariant made is)

pub invariant_of-self-2 : goal.invariant_of-self-2
invariant_of-self-2 c =
    let o = c.self.inside in
    let s : Live = record { objects = o.objects; blocks = o.blocks.items; calls = o.calls.items; next = o.next } in
    let made = c.mark_of-mark.result in
    let is = rw (c.deref.ensures.value, c.deref-2.ensures.value) at c.mark_of-mark.ensures in
    let call : Call = record { controls = c.controls_of.result; blocks = c.len-2.result; objects = c.len-3.result } in
    rw (c.in_ok-push-2.ensures.items, c.in_ok-push.ensures.items) (standing_called s o.space o.straight o.base o.marks.items c.self.invariant call made c.len-self-inside.result is)
