use Rattle.upc_meaning_state.specs.layer.Came.{state_seen}
use Rattle.upc_meaning_settings.specs.layer.Settings.{running_seen}
use Rattle.upc_meaning_work.specs.layer.ViewItems.{view_standing}
use Rattle.upc_meaning_work.proofs.Stating.{fence_goes}
use Rattle.upc_meaning_work.specs.layer.Evaluations.{seen}
use Rattle.upc_meaning_statements.proofs.statements.fence.Goals as goal

pub returns-in-Gives : goal.returns-in-Gives
returns-in-Gives c =
    fence_goes (running_seen c.args.setting) (view_standing c.args.standing) (seen c.args.evaluation.now)
    (seen c.leave_so.new.self) c.args.place (state_seen c.fence.new.self) (rw c.in-Gives.is at c.in_ok-end.ensures)
    c.leave_so.ensures
