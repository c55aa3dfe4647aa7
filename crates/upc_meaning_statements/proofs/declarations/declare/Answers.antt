use Rattle.upc_meaning_settings.specs.layer.Settings.{running_seen}
use Rattle.upc_meaning_work.specs.layer.ViewItems.{view_standing}
use Rattle.upc_meaning_work.proofs.Declaring.{declare_end}
use Rattle.upc_meaning_work.specs.layer.Evaluations.{seen}
use Rattle.upc_meaning_statements.proofs.declarations.declare.Goals as goal

pub returns-in-None : goal.returns-in-None
returns-in-None c =
    let s = seen c.args.evaluation.now in
    declare_end (running_seen c.args.setting) (view_standing c.args.standing) s s c.args.objects.now
    c.in-None.ensures.cases
