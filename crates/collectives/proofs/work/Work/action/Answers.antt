use Rattle.std.proofs.Common.{sym, subst}
use Rattle.collectives.specs.declared.work.Work.{Work}
use Rattle.collectives.specs.layer.Walks.{work_rest}
use Rattle.collectives.specs.layer.Wishes.{IsAsked}
use Rattle.collectives.proofs.work.Work.action.Goals as goal

pub returns-in-Copies : goal.returns-in-Copies
returns-in-Copies c = λ threads shapes me.
    subst (λ (w : Work). IsAsked (work_rest threads shapes me w) c.read.result) (sym c.in-Copies.is) (c.read.ensures shapes)

pub returns-in-CellRead : goal.returns-in-CellRead
returns-in-CellRead c = λ threads shapes me.
    subst (λ (w : Work). IsAsked (work_rest threads shapes me w) c.write.result) (sym c.in-CellRead.is) (c.write.ensures shapes)

pub returns-in-Numbers : goal.returns-in-Numbers
returns-in-Numbers c = λ threads shapes me.
    subst (λ (w : Work). IsAsked (work_rest threads shapes me w) c.action.result) (sym c.in-Numbers.is) (c.action.ensures threads shapes me)
