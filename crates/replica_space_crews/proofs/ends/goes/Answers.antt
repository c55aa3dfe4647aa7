use Rattle.std.proofs.Common.{rules, ◌≡◌, true, Some, refl}
use Rattle.upc_values.specs.Records.{is_stall, last_item}
use Rattle.stack_machine.specs.declared.wish.Wish.TheVariants.{Act}
use Rattle.upc_rounds_base.proofs.Ending.{stalled-wish}
use Rattle.replica_space_crews.proofs.ends.goes.Goals as goal

pub unreachable-requires : goal.unreachable-requires
unreachable-requires c =
    let h = c.requires in let k = c.args.worker.now.recorder in
    let stalled : is_stall (last_item k.items.items) ≡ true = search rules in
    let w = stalled-wish c.args.run.now.0 h.0 h.1 k h.2.recorded stalled in
    c.in_default.ensures.none refl w.0 w.1

pub would_go-requires-clause-formed : goal.would_go-requires-clause-formed
would_go-requires-clause-formed c =
    let h = c.requires in let r = c.keeps.ensures in
    let wish : c.args.worker.now.recorder.wish ≡ Some (Act c.in-Some.action.now) = search rules in
    c.what_workers_keep.ensures.asks c.args.run.now.0 h.0 h.1 c.args.run.now.1 c.args.worker.now c.in-Some.action.now
    r.«opening» r.run r.formed h.2 wish
