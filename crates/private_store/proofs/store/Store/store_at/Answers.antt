use Rattle.std.proofs.Common.{refl}
use Rattle.private_store.specs.Live.{Live}
use Rattle.private_store.proofs.Straight.{standing_set}
use Rattle.private_store.proofs.Things.{stored_at, unstored_at}
use Rattle.private_store.proofs.store.Store.store_at.Goals as goal

pub invariant_of-self : goal.invariant_of-self
invariant_of-self c =
    let o = c.self.inside in
    let s : Live = record { objects = o.objects; blocks = o.blocks.items; calls = o.calls.items; next = o.next } in
    standing_set s o.space o.straight o.base o.marks.items c.self.invariant c.set.new.self c.args.at c.in-Ok.place c.args.v (rw (← c.self.view_is) at c.requires.there) c.set.ensures

pub returns-in-Err : goal.returns-in-Err
returns-in-Err c d =
    let o = c.self.inside in
    let s : Live = record { objects = o.objects; blocks = o.blocks.items; calls = o.calls.items; next = o.next } in
    rw (← c.self.view_is)
    (unstored_at s c.self.invariant.kept.numbered c.args.at (rw (← c.self.view_is) at c.requires.there) c.args.kind c.in-Err.code c.args.v c.in-Err.ensures d, refl)

pub returns-in-Ok : goal.returns-in-Ok
returns-in-Ok c d =
    let o = c.self.inside in
    let s : Live = record { objects = o.objects; blocks = o.blocks.items; calls = o.calls.items; next = o.next } in
    rw (← c.self.view_is)
    (stored_at s c.self.invariant.kept.numbered c.args.at (rw (← c.self.view_is) at c.requires.there) c.args.kind c.in-Ok.place c.args.v c.set.new.self c.in-Ok.ensures c.set.ensures d)
