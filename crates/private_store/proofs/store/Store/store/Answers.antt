use Rattle.private_store.specs.Live.{Live}
use Rattle.private_store.proofs.Straight.{standing_set}
use Rattle.private_store.proofs.Things.{stored_is}
use Rattle.private_store.proofs.store.Store.store.Goals as goal

pub returns-in-Ok-clause-ok : goal.returns-in-Ok-clause-ok
returns-in-Ok-clause-ok c =
    let o = c.self.inside in
    let s : Live = record { objects = o.objects; blocks = o.blocks.items; calls = o.calls.items; next = o.next } in
    rw (← c.self.view_is) (stored_is c.args.p.now c.args.kind c.args.v s c.in-Ok.spot c.set.new.self c.self.invariant.kept.numbered c.in-Ok.ensures c.set.ensures)

pub invariant_of-self : goal.invariant_of-self
invariant_of-self c =
    let o = c.self.inside in
    let s : Live = record { objects = o.objects; blocks = o.blocks.items; calls = o.calls.items; next = o.next } in
    standing_set s o.space o.straight o.base o.marks.items c.self.invariant c.set.new.self c.in-Ok.spot.0 c.in-Ok.spot.1 c.args.v c.in-Ok.ensures.there c.set.ensures
