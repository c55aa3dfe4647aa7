use Rattle.std.proofs.Common.{◌≡◌, true, Some, None, sym, subst, ap, ◌∙◌}
use Rattle.upc_values.specs.Formed.{IsWellFormed, AreWellFormed}
use Rattle.stack_machine.specs.declared.wish.Wish.TheVariants.{Act}
use Rattle.memory_history.specs.layer.Turns.{takes_turn}
use Rattle.memory_history.specs.layer.World.{answer_of}
use Rattle.replica_space.specs.Events.{history_in}
use Rattle.replica_space.specs.Runs.{IsReplicaRun}
use Rattle.replica_space.specs.ReplicaSound.{delivered_by}
use Rattle.replica_space_acts.specs.layer.Acts.{Acted, IsAnswer}
use Rattle.replica_space_tasks.specs.layer.Kept.{IsKept, Grew}
use Rattle.replica_space_tasks.proofs.Dues.{acted-is}
use Rattle.replica_space_tasks.proofs.Keeping.{kept-asks, kept-room, kept-turns, step-did, step-stalled, with}
use Rattle.replica_space_tasks.proofs.worker.ReplicaWorker.act.Goals as goal

pub act-requires-clause-asked : goal.act-requires-clause-asked
act-requires-clause-asked c =
    let o = c.args.run.now.0 in let es = c.args.run.now.1 in let mid = c.receive.new.run.1 in let a = c.in-Some.action.now in
    let q = c.in_ok-reserve.ensures in let e = c.in_ok-receive.ensures in let h = c.requires.kept in let s = c.reserve.new.self in
    let hs = kept-room o h.0 h.1 es c.args.self.now.recorder s q.is q.items h.2 in
    subst (λ w. IsWellFormed w (history_in mid) a) (sym e.opening)
    (subst (λ l. IsWellFormed o l a) (sym e.history)
    (kept-asks o h.0 h.1 es (with s) a c.keeps.ensures.run c.keeps.ensures.formed hs c.in-Some.ensures.some))

pub act-requires-clause-turns : goal.act-requires-clause-turns
act-requires-clause-turns c =
    let o = c.args.run.now.0 in let es = c.args.run.now.1 in let a = c.in-Some.action.now in let t = c.thread-thread.result in
    let q = c.in_ok-reserve.ensures in let e = c.in_ok-receive.ensures in let h = c.requires.kept in let s = c.reserve.new.self in
    let hs = kept-room o h.0 h.1 es c.args.self.now.recorder s q.is q.items h.2 in
    subst (λ l. takes_turn l t a ≡ true) (sym e.history)
    (subst (λ z. takes_turn (history_in es) z a ≡ true) (sym c.thread-thread.ensures)
    (kept-turns o h.0 h.1 es (with s) a hs c.in-Some.ensures.some))

pub returns-in-Done-clause-kept : goal.returns-in-Done-clause-kept
returns-in-Done-clause-kept c = λ p f h.
    let o = c.args.run.now.0 in let es = c.args.run.now.1 in let mid = c.receive.new.run in let new = c.act.new.self.1 in
    let a = c.in-Some.action.now in let t = c.thread-thread.result in let n = c.next-index.result in let r = c.in-Done.reply in
    let q = c.in_ok-reserve.ensures in let e = c.in_ok-receive.ensures in let z = c.in_ok-reply.ensures in
    let law = c.keeps-in-Done.ensures in let d = c.did.ensures in let s = c.reserve.new.self in let m = c.did.new.self in
    let hs = kept-room o p f es c.args.self.now.recorder s q.is q.items h in
    let wish : s.wish ≡ Some (Act a) = c.in-Some.ensures.some in
    let opens : c.act.new.self.0 ≡ o = z.opening ∙ e.opening in
    let acted : Acted mid.0 t n a mid.1 (Some r) new =
    subst (λ v. Acted mid.0 t n a mid.1 (answer_of v) new) c.in-Done.is z.acted in
    let answer : IsAnswer mid.0 t a new (Some r) =
    subst (λ v. IsAnswer mid.0 t a new (answer_of v)) c.in-Done.is z.answer in
    subst (λ w. IsKept w p f new (with m)) (sym opens)
    (step-did o p f es mid.1 new s m t n a r hs wish c.thread-thread.ensures c.next-index.ensures e.due
    (subst (λ w. Acted w t n a mid.1 (Some r) new) e.opening acted)
    (subst (λ w. IsAnswer w t a new (Some r)) e.opening answer)
    (subst (λ w. IsReplicaRun w new) opens law.run) (subst (λ w. AreWellFormed w (history_in new)) opens law.formed) d.is
    (d.items a wish) (λ suits. d.recorded o p f hs.recorded suits))

pub returns-in-Done-clause-grew : goal.returns-in-Done-clause-grew
returns-in-Done-clause-grew c =
    let o = c.args.run.now.0 in let es = c.args.run.now.1 in let mid = c.receive.new.run in let new = c.act.new.self.1 in
    let a = c.in-Some.action.now in let t = c.thread-thread.result in let n = c.next-index.result in let r = c.in-Done.reply in
    let e = c.in_ok-receive.ensures in let z = c.in_ok-reply.ensures in let h = c.requires.kept in
    let thread : t ≡ c.args.self.now.recorder.thread =
    c.thread-thread.ensures ∙ ap (λ k. k.thread) c.in_ok-reserve.ensures.is in
    let acted : Acted mid.0 t n a mid.1 (Some r) new =
    subst (λ v. Acted mid.0 t n a mid.1 (answer_of v) new) c.in-Done.is z.acted in
    subst (λ u. Grew u es new) thread
    (acted-is o t n a r es mid.1 new (ap (λ u. delivered_by u es) thread ∙ h.2.none) e.due
    (subst (λ w. Acted w t n a mid.1 (Some r) new) e.opening acted)).grew

pub returns-in-Disabled-clause-kept : goal.returns-in-Disabled-clause-kept
returns-in-Disabled-clause-kept c = λ p f h.
    let o = c.args.run.now.0 in let es = c.args.run.now.1 in let mid = c.receive.new.run in let new = c.act.new.self.1 in
    let a = c.in-Some.action.now in let t = c.thread-thread.result in let n = c.next-index.result in
    let q = c.in_ok-reserve.ensures in let e = c.in_ok-receive.ensures in let z = c.in_ok-reply.ensures in
    let d = c.stall.ensures in let s = c.reserve.new.self in let m = c.stall.new.self in
    let hs = kept-room o p f es c.args.self.now.recorder s q.is q.items h in
    let wish : s.wish ≡ Some (Act a) = c.in-Some.ensures.some in
    let acted : Acted mid.0 t n a mid.1 None new =
    subst (λ v. Acted mid.0 t n a mid.1 (answer_of v) new) c.in-Disabled.is z.acted in
    let answer : IsAnswer mid.0 t a new None =
    subst (λ v. IsAnswer mid.0 t a new (answer_of v)) c.in-Disabled.is z.answer in
    subst (λ w. IsKept w p f new (with m)) (sym (z.opening ∙ e.opening))
    (step-stalled o p f es mid.1 new s m t n a hs wish c.thread-thread.ensures e.due
    (subst (λ w. Acted w t n a mid.1 None new) e.opening acted) answer.0 d.is d.items (d.recorded o p f a hs.recorded wish answer.0))
