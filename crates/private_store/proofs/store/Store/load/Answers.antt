use Rattle.private_store.specs.Live.{Live}
use Rattle.private_store.proofs.Things.{loaded_is}
use Rattle.private_store.proofs.store.Store.load.Goals as goal

pub returns-in-Ok-clause-value : goal.returns-in-Ok-clause-value
returns-in-Ok-clause-value c =
    let o = c.self.inside in
    let before : Live = record { objects = o.objects; blocks = o.blocks.items; calls = o.calls.items; next = o.next } in
    rw (← c.self.view_is) (loaded_is c.args.p.now c.args.kind before c.in-Ok.spot c.get.result c.in-Ok.ensures c.get.ensures.value)
