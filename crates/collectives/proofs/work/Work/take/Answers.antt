use Rattle.std.proofs.Common.{◌≡◌, sym, subst}
use Rattle.std.specs.Prelude.{IfOk, IfErr}
use Rattle.collectives.specs.declared.work.Work.{Work}
use Rattle.collectives.specs.layer.Walks.{work_left}
use Rattle.collectives.specs.layer.Walks.{work_rest}
use Rattle.collectives.specs.layer.Wishes.{RefusesSo}
use Rattle.upc_values.specs.Expansion.{after_reply}
use Rattle.collectives.proofs.work.Work.take.Goals as goal

pub returns-in-CellRead-clause-rest : goal.returns-in-CellRead-clause-rest
returns-in-CellRead-clause-rest c =
    let t = c.args.thread.now in
    subst (λ (w : Work). IfOk c.written.result (λ o. work_left t.threads t.shapes.now t.number o ≡ after_reply (work_rest t.threads t.shapes.now t.number w) c.args.reply.now))
    (sym c.in-CellRead.is) c.written.ensures.rest

pub returns-in-CellRead-clause-refused : goal.returns-in-CellRead-clause-refused
returns-in-CellRead-clause-refused c =
    let t = c.args.thread.now in
    subst (λ (w : Work). IfErr c.written.result (λ e. RefusesSo e (after_reply (work_rest t.threads t.shapes.now t.number w) c.args.reply.now)))
    (sym c.in-CellRead.is) c.written.ensures.refused
