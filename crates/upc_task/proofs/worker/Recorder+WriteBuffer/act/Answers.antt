use Rattle.std.proofs.Common.{◌≡◌, ◌+◌, ◌++◌, [], ◌∷◌, Some, None, sym, subst, ap, ◌∙◌}
use Rattle.upc_values.specs.declared.record.Item.TheVariants.{Did}
use Rattle.upc_values.specs.History.{reply, IsLegal}
use Rattle.upc_values.specs.Formed.{AreWellFormed}
use Rattle.upc_values.specs.Outcomes.{Suits}
use Rattle.upc_values.specs.Records.{replies_of}
use Rattle.memory_history.specs.layer.World.{answer_of}
use Rattle.upc_task.specs.layer.Recorded.{IsRecorded, Stalls, Waits}
use Rattle.upc_task.specs.layer.Kept.{Worker, IsKept}
use Rattle.upc_task.specs.code.Emits.{Emitted, IsAnswer}
use Rattle.upc_task.proofs.Recorders.{recorded-turn}
use Rattle.upc_task.proofs.Workers.{kept-asks, kept-did, kept-stalled, kept-suits}
use Rattle.upc_task.proofs.Turns.{kept-turns}
use Rattle.upc_task.proofs.worker.Recorder+WriteBuffer.act.Goals as goal

pub emit-requires-clause-asked : goal.emit-requires-clause-asked
emit-requires-clause-asked c =
    let k = c.args.self.now in let h = c.requires.kept in
    kept-asks c.args.world.now.0 h.0 h.1 c.args.world.now.1 k c.args.copy c.keeps.ensures.legal c.keeps.ensures.formed h.2 c.requires.wants

pub emit-requires-clause-turns : goal.emit-requires-clause-turns
emit-requires-clause-turns c =
    let k = c.args.self.now in let h = c.requires.kept in
    kept-turns c.args.world.now.0 h.0 h.1 c.args.world.now.1 k c.args.copy h.2 c.requires.«open» c.requires.wants

pub returns-in-Done-clause-kept : goal.returns-in-Done-clause-kept
returns-in-Done-clause-kept c = λ p f h.
    let k = c.args.self.now in let a = c.args.copy in let r = c.in-Done.reply in let e = c.in_ok-reply.ensures in
    let d = c.did.ensures in let o = c.args.world.now.0 in let seen = c.args.world.now.1 in let later = c.emit.new.world.1 in
    let ys = c.reserve.new.self in let b = c.emit.new.buffer in let xs = c.did.new.self.items in
    let z : Worker = record k { items = xs; buffer = b; next = k.next + 1; answer = Some r; wish = None } in
    let room : ys.items ≡ k.items.items = c.in_ok-reserve.ensures.items in
    let law = c.keeps-in-Done.ensures in
    let answer : IsAnswer o k.thread later a (Some r) =
    subst (λ s. IsAnswer o k.thread later a (answer_of s)) c.in-Done.is e.answer in
    let suits : Suits (f k.thread) (replies_of k.items.items) r =
    kept-suits o p f seen later k a r (subst (λ w. IsLegal w later) e.opening law.legal)
    (subst (λ w. AreWellFormed w later) e.opening law.formed) h c.requires.wants e.grew answer in
    let recorded : IsRecorded o p f z =
    subst (IsRecorded o p f) d.is
    (d.recorded o p f (recorded-turn o p f k ys b room h.recorded) (subst (λ l. Suits (f k.thread) (replies_of l) r) (sym room) suits)) in
    let is : xs.items ≡ k.items.items ++ Did a r ∷ [] = d.items a c.requires.wants ∙ ap (λ l. l ++ Did a r ∷ []) room in
    subst (IsKept c.emit.new.world.0 p f later) (sym d.is)
    (subst (λ o. IsKept o p f later z) (sym e.opening)
    (kept-did o p f seen later k xs b a r h c.requires.«open» c.requires.wants e.grew
    (λ w hw. subst (λ s. Emitted o k.thread later b k.next a (answer_of s) w) c.in-Done.is (e.holds w hw)) answer is recorded))

pub returns-in-Disabled-clause-kept : goal.returns-in-Disabled-clause-kept
returns-in-Disabled-clause-kept c = λ p f h.
    let k = c.args.self.now in let a = c.args.copy in let e = c.in_ok-reply.ensures in let d = c.stall.ensures in
    let o = c.args.world.now.0 in let seen = c.args.world.now.1 in let later = c.emit.new.world.1 in
    let ys = c.reserve.new.self in let b = c.emit.new.buffer in let xs = c.stall.new.self.items in
    let z : Worker = record k { items = xs; buffer = b } in
    let room : ys.items ≡ k.items.items = c.in_ok-reserve.ensures.items in
    let answer : IsAnswer o k.thread later a None =
    subst (λ s. IsAnswer o k.thread later a (answer_of s)) c.in-Disabled.is e.answer in
    let recorded : IsRecorded o p f z =
    subst (IsRecorded o p f) d.is (d.recorded o p f a (recorded-turn o p f k ys b room h.recorded) c.requires.wants answer.0) in
    subst (IsKept c.emit.new.world.0 p f later) (sym d.is)
    (subst (λ o. IsKept o p f later z) (sym e.opening)
    (kept-stalled o p f seen later k xs b a h c.requires.«open» c.requires.wants e.grew
    (λ w hw. subst (λ s. Emitted o k.thread later b k.next a (answer_of s) w) c.in-Disabled.is (e.holds w hw)) answer
    (subst (λ l. Stalls l xs.items) room d.items) recorded))

pub returns-in-Disabled-clause-waits : goal.returns-in-Disabled-clause-waits
returns-in-Disabled-clause-waits c =
    let k = c.args.self.now in let a = c.args.copy in let e = c.in_ok-reply.ensures in let d = c.stall.ensures in
    let m = c.stall.new.self in let later = c.emit.new.world.1 in
    let answer : IsAnswer c.args.world.now.0 k.thread later a None =
    subst (λ s. IsAnswer c.args.world.now.0 k.thread later a (answer_of s)) c.in-Disabled.is e.answer in
    subst (λ q. Waits q c.emit.new.world.0 later m) (sym d.pause.0) (
      a,
      ap (λ z. z.wish) d.is ∙ c.requires.wants,
      d.last,
      subst (λ t. reply c.emit.new.world.0 later t a ≡ None) (sym (ap (λ z. z.thread) d.is))
          (subst (λ o. reply o later k.thread a ≡ None) (sym e.opening) answer.1),
    )
