use Rattle.std.proofs.Common.{rules, ◌≡◌, ◌++◌, None, Some, sym, subst}
use Rattle.stack_machine.specs.layer.Machine.{Answered, listed, told_of}
use Rattle.upc_task.specs.declared.recorder.Recorder.{Recorder}
use Rattle.upc_task.specs.layer.Sources.{Follows}
use Rattle.upc_task.specs.layer.Recorded.{IsRecorded}
use Rattle.upc_task.proofs.Recorders.{recorded-worked}
use Rattle.upc_task.proofs.recorder.Recorder.work.Goals as goal

pub returns-in_ok-wish-clause-recorded : goal.returns-in_ok-wish-clause-recorded
returns-in_ok-wish-clause-recorded g c = λ f o h.
    let k = c.args.self.now in let p = c.args.code.now in let w = c.in_ok-wish.wish in let e = c.in_ok-wish.ensures in
    let t = k.thread in let b = k.limits.budget in let m = c.resume.new.self in
    let z : Recorder g.row.B.Denot = record k { machine = m; answer = None; wish = Some w } in
    let took = c.take-reply.ensures.value in let goes = h.goes in
    subst (λ a. let x : Recorder g.row.B.Denot = record z { answer = a } in IsRecorded o p f x) (sym c.take-reply.ensures.after)
    (recorded-worked o p f k m w h (search rules) c.requires
    (λ given st an. subst (λ r. (told_of w ≡ (f t (given ++ listed r)).«end») × Follows p t b (f t) (given ++ listed r) m) took
    (let an2 = subst (Answered (f t) given) (sym took) an in (e.told t b (f t) given st.means st.stands an2, record { means = st.means; stands = (e.heard t b (f t) given st.means st.stands an2).0 })))
    (e.heard t b (f t) goes.given goes.follows.means goes.follows.stands (subst (Answered (f t) goes.given) (sym took) goes.answered)).1)
