use Rattle.std.proofs.Common.{sym, ap, ◌∙◌}
use Rattle.collectives.proofs.Following.{after_bind}
use Rattle.collectives.proofs.Following.{refuses_along}
use Rattle.collectives.proofs.Following.{refuses_both}
use Rattle.collectives.proofs.Following.{unfinished}
use Rattle.collectives.specs.layer.Walks.{exit_by}
use Rattle.collectives.specs.layer.Walks.{work_rest}
use Rattle.upc_values.specs.Expansion.{Expansion}
use Rattle.upc_values.specs.Expansion.{after_reply}
use Rattle.upc_values.specs.Expansion.{bind}
use Rattle.collectives.proofs.stage.worked.Goals as goal

pub returns-in-Ok-clause-rest : goal.returns-in-Ok-clause-rest
returns-in-Ok-clause-rest c =
    let t = c.args.thread.now in
    let w = c.args.work in
    let g : Unit {0} → Expansion (Unit {0}) = λ u. exit_by c.args.bits in
    c.left.ensures t.threads t.shapes.now t.number
    ∙ ap (λ (y : Expansion (Unit {0})). bind y g) c.in-Ok.ensures.rest
    ∙ sym (after_bind (work_rest t.threads t.shapes.now t.number w) g c.args.reply.now (unfinished t.threads t.shapes.now t.number w))

pub returns-in-Err-clause-refused : goal.returns-in-Err-clause-refused
returns-in-Err-clause-refused c =
    let t = c.args.thread.now in
    let w = c.args.work in
    let g : Unit {0} → Expansion (Unit {0}) = λ u. exit_by c.args.bits in
    let x = work_rest t.threads t.shapes.now t.number w in
    refuses_along _ _ c.in-Err.e (sym (after_bind x g c.args.reply.now (unfinished t.threads t.shapes.now t.number w)))
    (refuses_both (after_reply x c.args.reply.now) g c.in-Err.e c.in-Err.ensures.refused)
