use Rattle.std.proofs.Common.{sym, subst, ◌∙◌, arith}
use Rattle.memory_history.specs.code.MeetsAfter.{called, leader_at}
use Rattle.memory_history.specs.code.Acting.{HasLock}
use Rattle.memory_history.proofs.Ending.{done-is, freeing}
use Rattle.memory_history.proofs.parts.Parts.end_call.Goals as goal

pub free-requires : goal.free-requires
free-requires c =
    let j = c.args.number in
    let x = leader_at j c.self.inside.meets in
    let lent =
    subst (λ z. HasLock (called (leader_at j z.meets)) (leader_at j z.meets).reply z) (sym c.self.view_is) c.requires.lent in
    let some = c.if-lock-ne0.true in
    lent c.in-FreesLock.lock
    (freeing (called x) x.reply c.in-FreesLock.lock (sym c.asks.ensures ∙ c.in-FreesLock.is)
    (sym c.reply.ensures ∙ done-is c.reply.result (sym c.is_done-done.ensures ∙ c.if-done.true)) (λ z. omega arith))
