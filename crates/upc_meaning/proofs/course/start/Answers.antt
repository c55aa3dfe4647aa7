use Rattle.std.proofs.Common.{ap}
use Rattle.upc_meaning_state.specs.layer.Came.{state_seen}
use Rattle.upc_meaning_settings.specs.layer.Settings.{running_seen}
use Rattle.upc_meaning_work.specs.layer.Courses.{view_main}
use Rattle.upc_meaning_work.specs.layer.Seen.{with_state}
use Rattle.upc_meaning_work.proofs.Courses.{starts_over, starts_so}
use Rattle.upc_meaning.proofs.course.start.Goals as goal

pub returns-in-Ends : goal.returns-in-Ends
returns-in-Ends c =
    let ρ = running_seen c.args.setting in
    starts_over ρ (view_main c.args.main) (state_seen c.args.evaluation.now.progress) c.main_place.result c.in-Ends.end
    (state_seen c.pass.new.self) (c.main_place.ensures ρ) (rw c.in-Ends.is at c.in_ok-end.ensures)

pub call_main-requires-clause-fresh : goal.call_main-requires-clause-fresh
call_main-requires-clause-fresh c = ap (with_state (state_seen c.pass.new.self)) c.requires.fresh

pub returns-in-Gives : goal.returns-in-Gives
returns-in-Gives c =
    let ρ = running_seen c.args.setting in
    rw (starts_so ρ (view_main c.args.main) (state_seen c.args.evaluation.now.progress) c.main_place.result
    (state_seen c.pass.new.self) (c.main_place.ensures ρ) (rw c.in-Gives.is at c.in_ok-end.ensures)) c.call_main.ensures
