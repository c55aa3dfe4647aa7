use Rattle.std.proofs.Common.{sym, subst}
use Rattle.collectives.proofs.Following.{asked_bind}
use Rattle.collectives.specs.declared.stage.Stage.{Stage}
use Rattle.collectives.specs.layer.Walks.{exit_by}
use Rattle.collectives.specs.layer.Walks.{stage_rest}
use Rattle.collectives.specs.layer.Walks.{work_rest}
use Rattle.collectives.specs.layer.Wishes.{IsAsked}
use Rattle.collectives.proofs.stage.Stage.wish.Goals as goal

pub returns-in-Works : goal.returns-in-Works
returns-in-Works c = λ threads shapes me.
    subst (λ (x : Stage). IsAsked (stage_rest threads shapes me x) c.action.result) (sym c.in-Works.is)
    (asked_bind (work_rest threads shapes me c.in-Works.work) (λ u. exit_by c.in-Works.field-0) c.action.result (c.action.ensures threads shapes me))
