use Rattle.std.proofs.Common.{Option, sym, ap, ◌∙◌}
use Rattle.collectives.specs.declared.work.Work.{Work}
use Rattle.collectives.specs.layer.Walks.{exit_by}
use Rattle.collectives.specs.layer.Walks.{work_left}
use Rattle.upc_values.specs.Expansion.{bind}
use Rattle.collectives.proofs.stage.left.Goals as goal

pub returns-in-None : goal.returns-in-None
returns-in-None c = λ threads shapes me.
    c.exit.ensures threads shapes me
    ∙ ap (λ (o : Option Work). bind (work_left threads shapes me o) (λ u. exit_by c.args.bits)) (sym c.in-None.is)
