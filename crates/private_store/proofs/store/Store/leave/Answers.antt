use Rattle.std.proofs.Common.{◌≡◌, ◌-◌, ◌<◌, List, length, get_or, take, Some, vec_len, refl, sym, ap, ◌∙◌, arith}
use Rattle.std.proofs.lemmas.Option.{slice_get-get_or}
use Rattle.private_store.specs.declared.frame.Block.{Block}
use Rattle.private_store.specs.Live.{Live, Thing, youngest, blocks_before}
use Rattle.private_store.proofs.Frames.{left_is}
use Rattle.private_store.proofs.Straight.{standing_left}
use Rattle.private_store.proofs.store.Store.leave.Goals as goal

pub invariant_of-self : goal.invariant_of-self
invariant_of-self c =
    let o = c.self.inside in
    let s : Live = record { objects = o.objects; blocks = o.blocks.items; calls = o.calls.items; next = o.next } in
    standing_left s o.space o.straight o.base o.marks.items c.self.invariant c.back_to-back.new.marks.items c.in-Some.block.objects (vec_len o.blocks - 1) c.end_objects.result
    c.back_to-back.result c.end_objects.new.objects c.pop.new.self.items o.calls.items _ _ _
    c.end_objects.ensures.items c.pop.ensures.rest c.end_objects.ensures.bytes refl (ap length c.deref-in-Some.ensures.value)
    (ap (λ l. blocks_before (youngest l)) c.deref-in-Some-2.ensures.value) c.back_to-back.ensures

pub returns-in-Some : goal.returns-in-Some
returns-in-Some c =
    let o = c.self.inside in
    let blocks = o.blocks.items in
    let n = c.blocks_before.result in
    let b = c.in-Some.block in
    let within : n < length blocks = omega arith in
    let last : vec_len o.blocks - 1 ≡ length blocks - 1 = omega arith in
    let popped : Some b ≡ Some (get_or blocks (vec_len o.blocks - 1) b) = c.in-Some.ensures.value b (omega arith) in
    let is_last : Some b ≡ youngest blocks = popped ∙ ap (λ k. Some (get_or blocks k b)) last ∙ sym (slice_get-get_or blocks (length blocks - 1) b (omega arith)) in
    let before : n ≡ blocks_before (youngest o.calls.items) = c.blocks_before.ensures ∙ ap (λ l. blocks_before (youngest l)) c.deref.ensures.value in
    let seen : List Thing → List Block → Live = λ os bs. record { objects = os; blocks = bs; calls = o.calls.items; next = o.next } in
    rw (← c.self.view_is)
    (ap (λ os. seen os c.pop.new.self.items) c.end_objects.ensures.items
    ∙ ap (seen (take b.objects o.objects)) (c.pop.ensures.rest ∙ ap (λ k. take k blocks) last)
    ∙ sym (left_is (seen o.objects blocks) n b before within is_last))
