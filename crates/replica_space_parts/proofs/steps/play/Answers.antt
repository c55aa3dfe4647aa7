use Rattle.std.proofs.Common.{rules, ◌≡◌, None, inl}
use Rattle.upc_task.proofs.Options.{none-is}
use Rattle.replica_space_parts.proofs.steps.play.Goals as goal

pub returns-in-Ok : goal.returns-in-Ok
returns-in-Ok g c =
    let opened : c.args.seated.now.worker.recorder.«end» ≡ None =
    none-is c.args.seated.now.worker.recorder.«end» (search rules) in
    record { did = λ q. inl (opened, c.in-Ok.ensures) }
