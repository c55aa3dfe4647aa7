use Rattle.std.proofs.Common.{◌≡◌, List, sym, ap, ◌∙◌, subst}
use Rattle.block_layout.specs.declared.kind.Shape.{Shape}
use Rattle.collectives.proofs.Following.{refuses_along}
use Rattle.collectives.proofs.Limits.{done_by-kept}
use Rattle.collectives.proofs.Limits.{done_by}
use Rattle.collectives.proofs.Limits.{met_by}
use Rattle.collectives.specs.code.Calls.{kept}
use Rattle.collectives.specs.layer.Walks.{rest}
use Rattle.collectives.specs.layer.Wishes.{RefusesSo}
use Rattle.std.proofs.lemmas.Result.{IfErr-weaker}
use Rattle.std.proofs.lemmas.Result.{IfOk-weaker}
use Rattle.upc_values.specs.Calls.{call_of}
use Rattle.upc_values.specs.Expansions as said
use Rattle.upc_values.specs.declared.refused.Refused.TheVariants.{Memory}
use Rattle.upc_values.specs.declared.refused.Refused.{Refused}
use Rattle.collectives.proofs.collective.Collective.make.Goals as goal

pub returns-in-Ok-clause-made : goal.returns-in-Ok-clause-made
returns-in-Ok-clause-made c =
    let me = c.args.me in
    let n = c.args.threads in
    let call = c.args.call in
    let args = c.args.args.now in
    let asked = c.in-Ok.asked in
    IfOk-weaker c.begun.result
    (λ w. (shapes : List Shape) → rest shapes w ≡ met_by n shapes me call args asked)
    (λ w. (shapes : List Shape) → rest shapes w ≡ said.collective n shapes me call args)
    (λ w h. λ shapes.
    h shapes ∙ c.in-Ok.ensures.passed n shapes me (met_by n shapes me call args asked)
    ∙ ap (done_by n shapes me call args) c.in-Ok.ensures.call
    ∙ done_by-kept n shapes me call args (call_of call args))
    c.begun.ensures.made

pub returns-in-Ok-clause-refused : goal.returns-in-Ok-clause-refused
returns-in-Ok-clause-refused c =
    let n = c.args.threads in
    let me = c.args.me in
    let call = c.args.call in
    let args = c.args.args.now in
    IfErr-weaker c.begun.result (λ e. e ≡ Memory)
    (λ e. (shapes : List Shape) → RefusesSo e (said.collective n shapes me call args))
    (λ e h. λ shapes. subst (λ (x : Refused). RefusesSo x (said.collective n shapes me call args)) (sym h) tt)
    c.begun.ensures.memory

pub returns-in-Err-clause-refused : goal.returns-in-Err-clause-refused
returns-in-Err-clause-refused c = λ shapes.
    let n = c.args.threads in
    let me = c.args.me in
    let call = c.args.call in
    let args = c.args.args.now in
    refuses_along _ _ c.in-Err.e (done_by-kept n shapes me call args (call_of call args))
    (c.in-Err.ensures.refused n shapes me (met_by n shapes me call args (kept (call_of call args))))
