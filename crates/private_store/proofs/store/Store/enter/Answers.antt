use Rattle.std.proofs.Common.{◌≡◌, ◌+◌, ◌-◌, ◌≤◌, ◌^◌, ◌++◌, [], ◌∷◌, length, refl, arith, rules}
use Rattle.private_store.specs.declared.frame.Block.{Block}
use Rattle.private_store.specs.Live.{Live, bytes_in, blank_things}
use Rattle.private_store.proofs.Straight.{standing_entered, standing_marked}
use Rattle.private_store.proofs.store.Store.enter.Goals as goal

pub invariant_of-self-in-Ok : goal.invariant_of-self-in-Ok
invariant_of-self-in-Ok c =
    let o = c.self.inside in
    let s : Live = record { objects = o.objects; blocks = o.blocks.items; calls = o.calls.items; next = o.next } in
    let made = c.mark_of-mark.result in
    let is = rw (c.deref.ensures.value, c.deref-2.ensures.value) at c.mark_of-mark.ensures in
    let shapes = c.args.shapes.now in
    let b : Block = record { from = c.args.from; first = o.next; objects = c.len.result } in
    let objects : c.add_block.new.objects ≡ o.objects ++ blank_things o.next shapes = c.in-Ok.ensures.objects in
    let blocks : c.add_block.new.blocks.items ≡ o.blocks.items ++ b ∷ [] = c.in-Ok.ensures.blocks in
    let bytes : c.in-Ok.bytes ≡ bytes_in shapes = c.in-Ok.ensures.bytes in
    let within : bytes_in shapes ≤ 1048576 - o.space = search rules in
    let few : o.next + length shapes ≤ 2 ^ 63 = omega arith in
    rw (objects, blocks, bytes, c.in_ok-push.ensures.items) (standing_entered s o.space o.straight o.base o.marks.items c.self.invariant shapes b made c.names_with-names.result few
    (omega (arith, c.self.invariant.kept.room)) refl is c.names_with-names.ensures)

pub invariant_of-self-in-Err : goal.invariant_of-self-in-Err
invariant_of-self-in-Err c =
    let o = c.self.inside in
    let s : Live = record { objects = o.objects; blocks = o.blocks.items; calls = o.calls.items; next = o.next } in
    let made = c.mark_of-mark.result in
    let is = rw (c.deref.ensures.value, c.deref-2.ensures.value) at c.mark_of-mark.ensures in
    rw (c.in-Err.ensures.objects_kept, c.in-Err.ensures.blocks_kept, c.in_ok-push.ensures.items) (standing_marked s o.space o.straight o.base o.marks.items c.self.invariant made is)
