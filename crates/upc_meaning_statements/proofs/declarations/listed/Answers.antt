use Rattle.typed_tree.specs.ViewStatements.{view_object}
use Rattle.upc_meaning_settings.specs.layer.Settings.{running_seen}
use Rattle.upc_meaning_work.specs.layer.ViewItems.{view_standing}
use Rattle.upc_meaning_work.proofs.Declaring.{listed_end}
use Rattle.upc_meaning_work.specs.layer.Evaluations.{seen}
use Rattle.upc_meaning_statements.proofs.declarations.listed.Goals as goal

pub returns-in-None : goal.returns-in-None
returns-in-None c =
    let s = seen c.args.evaluation.now in
    listed_end (running_seen c.args.setting) (view_standing c.args.standing) s s (view_object c.args.object.now)
    c.args.index c.args.values.now c.in-None.ensures.cases
