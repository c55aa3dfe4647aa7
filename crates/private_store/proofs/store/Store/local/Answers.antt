use Rattle.private_store.specs.Live.{Live}
use Rattle.private_store.proofs.Straight.{named_number}
use Rattle.private_store.proofs.store.Store.local.Goals as goal

pub returns-in-Some : goal.returns-in-Some
returns-in-Some c =
    let o = c.self.inside in
    let s : Live = record { objects = o.objects; blocks = o.blocks.items; calls = o.calls.items; next = o.next } in
    rw (← c.self.view_is) (named_number s c.args.n c.in-Some.at (rw (← c.self.view_is) at c.in-Some.ensures) c.number.result c.number.ensures)
