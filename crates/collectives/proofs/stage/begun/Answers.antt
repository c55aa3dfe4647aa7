use Rattle.std.proofs.Common.{ℕ, ap, ◌∙◌}
use Rattle.collectives.proofs.Following.{refuses_along}
use Rattle.collectives.proofs.Following.{refuses_both}
use Rattle.collectives.specs.code.Calls.{call_in}
use Rattle.collectives.specs.layer.Walks.{exit_by}
use Rattle.collectives.specs.layer.Walks.{from_work}
use Rattle.upc_values.specs.Calls as calls
use Rattle.upc_values.specs.Expansion.{Expansion}
use Rattle.upc_values.specs.Expansion.{bind}
use Rattle.upc_values.specs.Expansions as said
use Rattle.collectives.proofs.stage.begun.Goals as goal

pub returns-in-Ok-clause-made : goal.returns-in-Ok-clause-made
returns-in-Ok-clause-made c =
    let t = c.args.thread.now in
    let asked = c.args.asked.now in
    let b = c.bits-bits.result in
    c.left.ensures t.threads t.shapes.now t.number
    ∙ ap (λ (y : Expansion (Unit {0})). bind y (λ u. exit_by b)) c.in-Ok.ensures.made
    ∙ ap (λ (x : calls.Call). bind (said.work t.threads t.shapes.now t.number x) (λ u. exit_by b)) c.call.ensures.same
    ∙ ap (λ (n : ℕ). bind (said.work t.threads t.shapes.now t.number asked) (λ u. exit_by n)) (c.bits-bits.ensures t.threads t.shapes.now t.number)

pub returns-in-Err-clause-refused : goal.returns-in-Err-clause-refused
returns-in-Err-clause-refused c =
    let t = c.args.thread.now in
    refuses_along (from_work t.threads t.shapes.now t.number (call_in c.call.result)) _ c.in-Err.e
    (ap (from_work t.threads t.shapes.now t.number) c.call.ensures.same)
    (refuses_both (said.work t.threads t.shapes.now t.number (call_in c.call.result))
    (λ w. said.exit (said.flags_of t.threads t.shapes.now t.number (call_in c.call.result))) c.in-Err.e c.in-Err.ensures.refused)
