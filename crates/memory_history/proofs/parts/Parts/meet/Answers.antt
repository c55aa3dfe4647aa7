use Rattle.std.proofs.Common.{◌≡◌, ℕ, true, sym, ap, subst, ◌∙◌}
use Rattle.upc_values.specs.Calls.{call_of}
use Rattle.memory_history.specs.code.Calls.{asked_of}
use Rattle.memory_history.specs.code.MeetsAfter.{times, is_leading, leader_at, called, leading, with_leader}
use Rattle.memory_history.specs.code.After.{PartsState}
use Rattle.memory_history.specs.code.Acting.{HasLock, notifies, with_meets, led}
use Rattle.memory_history.proofs.Ending.{lent-led}
use Rattle.memory_history.proofs.parts.Parts.meet.Goals as goal

pub end_call-requires-2-clause-lent : goal.end_call-requires-2-clause-lent
end_call-requires-2-clause-lent c =
    let t = c.args.thread in
    let call = c.args.call in
    let args = c.args.args.now in
    let p = c.args.self.now in
    let r = c.in_ok-reply.reply in
    let m = with_leader t (leading call args (notifies t p) r) p.meets in
    let Lent : ℕ → PartsState → Type 0 = λ j z. HasLock (called (leader_at j z.meets)) (leader_at j z.meets).reply z in
    let number : c.times-number.result ≡ times t p.meets = c.times-number.ensures ∙ ap (λ z. times t z.meets) c.self.view_is in
    let first : is_leading t p.meets ≡ true =
    sym (c.is_leading.ensures ∙ ap (λ z. is_leading t z.meets) c.self.view_is) ∙ c.if-not-is_leading.false in
    let after : c.lead_call.new.self ≡ with_meets m (led (asked_of (call_of call args)) r p) =
    c.in_ok-reply.ensures.led ∙ ap (λ a. with_meets m (led a r p)) c.read_call-asks.ensures in
    subst (λ j. Lent j c.lead_call.new.self) (sym number)
    (subst (Lent (times t p.meets)) (sym after) (lent-led t call args (notifies t p) r p first c.requires.asked))
