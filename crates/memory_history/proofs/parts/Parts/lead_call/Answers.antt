use Rattle.std.proofs.Common.{◌≡◌, ap, ◌∙◌}
use Rattle.memory_history.specs.code.MeetsAfter.{MeetsState, leading, with_leader}
use Rattle.memory_history.specs.code.After.{PartsState}
use Rattle.memory_history.specs.code.Acting.{notifies, with_meets, led}
use Rattle.memory_history.specs.code.Calling.{begun_call, settled}
use Rattle.memory_history.proofs.Ending.{led-meets, settled-begun}
use Rattle.memory_history.proofs.parts.Parts.lead_call.Goals as goal

pub returns-in-Ok-clause-led : goal.returns-in-Ok-clause-led
returns-in-Ok-clause-led c =
    let t = c.args.thread in
    let call = c.args.call in
    let args = c.args.args.now in
    let a = c.args.asks.now in
    let r = c.in-Ok.reply in
    let i = c.self.inside in
    let p : PartsState = record { heap = i.heap; locks = i.locks; barrier = i.barrier; meets = i.meets } in
    let v : PartsState =
    record { heap = c.self-2.inside.heap; locks = c.self-2.inside.locks; barrier = c.self-2.inside.barrier; meets = c.self-2.inside.meets } in
    let n : c.notifies-notifies.result ≡ notifies t p = c.notifies-notifies.ensures in
    let begun : MeetsState = begun_call call args (notifies t p) p.meets in
    let first : c.begin.new.self ≡ begun = c.in_ok-begin.ensures.begun ∙ ap (λ z. begun_call call args z p.meets) n in
    let after : v ≡ with_meets begun (led a r p) =
    c.self-2.view_is ∙ c.in-Ok.ensures.led ∙ ap (λ z. led a r (with_meets z p)) first ∙ led-meets a r begun p in
    let last : c.lead-in-Ok.new.self ≡ with_leader t (leading call args (notifies t p) r) p.meets =
    c.lead-in-Ok.ensures ∙ ap (λ (z : PartsState). settled t r z.meets) after ∙ settled-begun t call args (notifies t p) r p.meets in
    ap (λ m. with_meets m v) last ∙ ap (with_meets (with_leader t (leading call args (notifies t p) r) p.meets)) after
    ∙ ap (λ z. with_meets (with_leader t (leading call args (notifies t z) r) z.meets) (led a r z)) c.self.view_is
