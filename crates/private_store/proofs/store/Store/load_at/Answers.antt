use Rattle.private_store.specs.Live.{Live}
use Rattle.private_store.proofs.Things.{loaded_at, unloaded_at}
use Rattle.private_store.proofs.store.Store.load_at.Goals as goal

pub returns-in-Err-clause-value : goal.returns-in-Err-clause-value
returns-in-Err-clause-value c =
    let o = c.self.inside in
    let s : Live = record { objects = o.objects; blocks = o.blocks.items; calls = o.calls.items; next = o.next } in
    rw (← c.self.view_is) (unloaded_at s c.self.invariant.kept.numbered c.args.at (rw (← c.self.view_is) at c.requires) c.args.kind c.in-Err.code c.in-Err.ensures)

pub returns-in-Ok-clause-value : goal.returns-in-Ok-clause-value
returns-in-Ok-clause-value c =
    let o = c.self.inside in
    let s : Live = record { objects = o.objects; blocks = o.blocks.items; calls = o.calls.items; next = o.next } in
    rw (← c.self.view_is) (loaded_at s c.self.invariant.kept.numbered c.args.at (rw (← c.self.view_is) at c.requires) c.args.kind c.in-Ok.place c.get.result c.in-Ok.ensures c.get.ensures.value)
