use Rattle.std.proofs.Common.{None, refl}
use Rattle.upc_task.specs.declared.recorder.Recorder.{Recorder}
use Rattle.upc_task.proofs.Recorders.{recorded-new, few-actions}
use Rattle.upc_task.proofs.recorder.Recorder.begun.Goals as goal

pub returns-clause-recorded : goal.returns-clause-recorded
returns-clause-recorded g c = λ o f has.
    let k : Recorder g.row.B.Denot = record { machine = c.in_ok-machine.machine; thread = c.args.thread; limits = c.args.limits; items = c.new.result; buffer = c.args.buffer; next = 0; answer = None; wish = None; «end» = None } in
    recorded-new o c.args.code.now f k c.new.ensures refl refl refl refl c.in_ok-machine.ensures has c.requires.thread
    (few-actions c.args.limits c.requires.limits)
