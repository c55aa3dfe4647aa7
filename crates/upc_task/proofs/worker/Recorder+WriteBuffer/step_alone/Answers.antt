use Rattle.std.proofs.Common.{rules, ◌≡◌, ◌+◌, Some, None, sym, subst, refl}
use Rattle.stack_machine.specs.declared.wish.Wish.TheVariants.{Act}
use Rattle.upc_task.specs.layer.Recorded.{IsRecorded}
use Rattle.upc_task.specs.layer.Kept.{Worker, IsKept}
use Rattle.upc_task.proofs.Buffers.{grew-same}
use Rattle.upc_task.proofs.Recorders.{recorded-buffer}
use Rattle.upc_task.proofs.Workers.{kept-asks, kept-did, kept-holds, kept-suits}
use Rattle.upc_task.proofs.worker.Recorder+WriteBuffer.step_alone.Goals as goal

pub returns-clause-kept : goal.returns-clause-kept
returns-clause-kept c = λ b o p f seen valid legal formed h.
    let k = c.args.self.now in let a = c.in-Some-Act.action in let r = c.in-Some.reply in let e = c.in-Some.ensures in
    let d = c.did.ensures in let ps = c.emit_alone.new.buffer in let xs = c.did.new.self.items in
    let z : Worker = record k { items = xs; buffer = ps; next = k.next + 1; answer = Some r; wish = None } in
    let wants : k.wish ≡ Some (Act a) = search rules in
    let asked = kept-asks o p f seen k a legal formed h wants in
    let answer = e.answer o k.thread seen valid legal formed (kept-holds o p f seen k h c.requires.ready.0).formed in
    let same = grew-same k.thread seen seen refl in
    let recorded : IsRecorded o p f z =
    subst (IsRecorded o p f) d.is
    (d.recorded o p f (recorded-buffer o p f k ps h.recorded) (kept-suits o p f seen seen k a r legal formed h wants same answer)) in
    subst (IsKept o p f seen) (sym d.is)
    (kept-did o p f seen seen k xs ps a r h c.requires.ready.0 wants same (λ w hw. e.holds o k.thread seen w asked hw) answer
    (d.items a wants) recorded)
