use Rattle.std.proofs.Common.{Some, sym, subst}
use Rattle.upc_task.specs.layer.Recorded.{IsRecorded}
use Rattle.upc_task.specs.layer.Kept.{Worker, IsKept}
use Rattle.upc_task.proofs.Recorders.{recorded-buffer, may-buffer}
use Rattle.upc_task.proofs.Workers.{kept-closed}
use Rattle.upc_task.proofs.Buffers.{holds-finished}
use Rattle.upc_task.proofs.worker.Recorder+WriteBuffer.close.Goals as goal

pub finish-requires-clause-may : goal.finish-requires-clause-may
finish-requires-clause-may c = may-buffer c.args.self.now c.empty.new.buffer c.args.«end» c.requires.may

pub returns-clause-kept : goal.returns-clause-kept
returns-clause-kept c = λ p f h.
    let k = c.args.self.now in let e = c.in_ok-empty.ensures in let d = c.finish.ensures in let b = c.empty.new.buffer in
    let o = c.args.world.now.0 in let seen = c.args.world.now.1 in let later = c.empty.new.world.1 in
    let z : Worker = record k { buffer = b; «end» = Some c.args.«end» } in
    subst (IsKept c.empty.new.world.0 p f later) (sym d.is)
    (subst (λ o. IsKept o p f later z) (sym e.opening)
    (kept-closed o p f seen later k b c.args.«end» h c.requires.ready.0 e.grew
    (λ v hv. holds-finished o k.thread k.next seen later k.buffer b v e.all.0 e.all.1 hv)
    e.all.0 (subst (IsRecorded o p f) d.is (d.recorded o p f (recorded-buffer o p f k b h.recorded)))))
