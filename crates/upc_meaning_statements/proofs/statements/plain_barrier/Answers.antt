use Rattle.upc_meaning_state.specs.layer.Came.{state_seen}
use Rattle.upc_meaning_settings.specs.layer.Settings.{running_seen}
use Rattle.upc_meaning_work.specs.layer.ViewItems.{view_standing}
use Rattle.upc_meaning_work.proofs.Stating.{synchronise_none}
use Rattle.upc_meaning_work.specs.layer.Evaluations.{seen}
use Rattle.upc_meaning_statements.proofs.statements.plain_barrier.Goals as goal

pub returns-in-Gives : goal.returns-in-Gives
returns-in-Gives c =
    synchronise_none (running_seen c.args.setting) (view_standing c.args.standing) (seen c.args.evaluation.now)
    (seen c.leave_so.new.self) c.args.place c.args.how (state_seen c.synchronise.new.self)
    (rw c.in-Gives.is at c.in_ok-end.ensures) c.leave_so.ensures
