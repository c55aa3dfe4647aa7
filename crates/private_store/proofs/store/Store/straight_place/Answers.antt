use Rattle.std.proofs.Common.{arith}
use Rattle.private_store.specs.Live.{Live}
use Rattle.private_store.proofs.Straight.{named_is, place_fits}
use Rattle.private_store.proofs.store.Store.straight_place.Goals as goal

pub overflow_add-result : goal.overflow_add-result
overflow_add-result c =
    let o = c.self.inside in
    let s : Live = record { objects = o.objects; blocks = o.blocks.items; calls = o.calls.items; next = o.next } in
    let fits = place_fits s o.space o.straight o.base o.marks.items c.self.invariant c.args.n c.if-name-self.true in omega arith

pub returns-then-name-self : goal.returns-then-name-self
returns-then-name-self c =
    let o = c.self.inside in
    let s : Live = record { objects = o.objects; blocks = o.blocks.items; calls = o.calls.items; next = o.next } in
    rw (← c.self.view_is) (named_is s o.space o.straight o.base c.args.n o.marks.items c.self.invariant c.if-name-self.true)
