use Rattle.std.proofs.Common.{refl}
use Rattle.upc_meaning_state.specs.layer.Came.{state_seen}
use Rattle.upc_meaning_settings.specs.layer.Settings.{running_seen}
use Rattle.upc_meaning_work.proofs.Courses.{end_goes, end_stops}
use Rattle.upc_meaning_work.specs.layer.Evaluations.{seen}
use Rattle.upc_meaning.proofs.threads.end_main.Goals as goal

pub returns-in-Ends : goal.returns-in-Ends
returns-in-Ends c =
    let s = seen c.args.evaluation.now in
    end_stops (running_seen c.args.setting) s s c.args.place c.in-Ends.end (state_seen c.pass.new.self)
    (rw c.in-Ends.is at c.in_ok-end.ensures)

pub returns-in-Gives : goal.returns-in-Gives
returns-in-Gives c =
    end_goes (running_seen c.args.setting) (seen c.args.evaluation.now) _ c.args.place (state_seen c.pass.new.self)
    (rw c.in-Gives.is at c.in_ok-end.ensures) refl
