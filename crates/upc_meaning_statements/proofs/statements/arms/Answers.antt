use Rattle.std.proofs.Common.{ap}
use Rattle.typed_tree.specs.ViewStatements.{view_last}
use Rattle.upc_meaning_settings.specs.layer.Settings.{running_seen}
use Rattle.upc_meaning_work.specs.layer.ViewItems.{view_standing}
use Rattle.upc_meaning_work.proofs.Stating.{arms_end}
use Rattle.upc_meaning_work.specs.layer.Evaluations.{seen}
use Rattle.upc_meaning_statements.proofs.statements.arms.Goals as goal

pub returns-in-None-last : goal.returns-in-None-last
returns-in-None-last c =
    arms_end (running_seen c.args.setting) (view_standing c.args.standing) (seen c.args.evaluation.now)
    (seen c.leave_so.new.self) c.args.arms.now (view_last c.args.last.now) c.in-None.ensures.cases
    (ap view_last c.in-None-last.is) c.leave_so.ensures
