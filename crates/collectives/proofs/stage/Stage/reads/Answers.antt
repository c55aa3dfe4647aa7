use Rattle.std.proofs.Common.{◌≡◌, sym, ◌∙◌, subst}
use Rattle.collectives.proofs.Following.{kind_bind}
use Rattle.collectives.proofs.Following.{unfinished}
use Rattle.collectives.specs.declared.stage.Stage.{Stage}
use Rattle.collectives.specs.layer.Walks.{exit_by}
use Rattle.collectives.specs.layer.Walks.{stage_rest}
use Rattle.collectives.specs.layer.Walks.{work_rest}
use Rattle.collectives.specs.layer.Wishes.{kind_read}
use Rattle.collectives.proofs.stage.Stage.reads.Goals as goal

pub returns-in-Works : goal.returns-in-Works
returns-in-Works c = λ threads shapes me.
    let w = c.in-Works.work in
    subst (λ (x : Stage). c.reads.result ≡ kind_read (stage_rest threads shapes me x)) (sym c.in-Works.is)
    (c.reads.ensures threads shapes me ∙ kind_bind (work_rest threads shapes me w) (λ u. exit_by c.in-Works.field-0) (unfinished threads shapes me w))
