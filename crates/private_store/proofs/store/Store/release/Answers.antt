use Rattle.private_store.specs.Live.{Live}
use Rattle.private_store.proofs.Straight.{recounted_before, standing_recounted}
use Rattle.private_store.proofs.store.Store.release.Goals as goal

pub invariant_of-self : goal.invariant_of-self
invariant_of-self c =
    let o = c.self.inside in
    let s : Live = record { objects = o.objects; blocks = o.blocks.items; calls = o.calls.items; next = o.next } in
    rw c.recount.ensures (standing_recounted s o.space o.straight o.base o.marks.items c.self.invariant _ (recounted_before o.calls.items c.saturating_sub.result))
