use Rattle.std.proofs.Common.{◌≡◌, ◌-◌, ◌<◌, List, length, get_or, take, Some, vec_len, refl, sym, ap, ◌∙◌, arith, rules}
use Rattle.std.proofs.lemmas.Option.{slice_get-get_or}
use Rattle.private_store.specs.declared.frame.Block.{Block}
use Rattle.private_store.specs.declared.frame.Call.{Call}
use Rattle.private_store.specs.Live.{Live, Thing, youngest, blocks_before}
use Rattle.private_store.proofs.Frames.{returned_is}
use Rattle.private_store.proofs.Straight.{standing_left}
use Rattle.private_store.proofs.store.Store.pop_call.Goals as goal

pub invariant_of-self : goal.invariant_of-self
invariant_of-self c =
    let o = c.self.inside in
    let s : Live = record { objects = o.objects; blocks = o.blocks.items; calls = o.calls.items; next = o.next } in
    standing_left s o.space o.straight o.base o.marks.items c.self.invariant c.back_to-back.new.marks.items c.in-Some.call.objects c.in-Some.call.blocks c.end_objects.result
    c.back_to-back.result c.end_objects.new.objects c.truncate.new.self.items c.pop.new.self.items _ _ _
    c.end_objects.ensures.items c.truncate.ensures.items c.end_objects.ensures.bytes refl (ap length c.deref.ensures.value)
    (ap (λ l. blocks_before (youngest l)) c.deref-in-Some.ensures.value) c.back_to-back.ensures

pub returns-in-Some : goal.returns-in-Some
returns-in-Some c =
    let o = c.self.inside in
    let s : Live = record { objects = o.objects; blocks = o.blocks.items; calls = o.calls.items; next = o.next } in
    let calls = o.calls.items in
    let call = c.in-Some.call in
    let some : 0 < vec_len o.calls = search rules in
    let last : vec_len o.calls - 1 ≡ length calls - 1 = omega (arith, o.calls.ok) in
    let popped : Some call ≡ Some (get_or calls (vec_len o.calls - 1) call) = c.in-Some.ensures.value call some in
    let is_last : Some call ≡ youngest calls = popped ∙ ap (λ k. Some (get_or calls k call)) last ∙ sym (slice_get-get_or calls (length calls - 1) call (omega (arith, o.calls.ok))) in
    let seen : List Thing → List Block → List Call → Live = λ os bs cs. record { objects = os; blocks = bs; calls = cs; next = o.next } in
    rw (← c.self.view_is)
    (ap (λ os. seen os c.truncate.new.self.items c.pop.new.self.items) c.end_objects.ensures.items
    ∙ ap (λ bs. seen (take call.objects o.objects) bs c.pop.new.self.items) c.truncate.ensures.items
    ∙ ap (seen (take call.objects o.objects) (take call.blocks o.blocks.items)) (c.pop.ensures.rest ∙ ap (λ k. take k calls) last)
    ∙ sym (returned_is s call is_last))
