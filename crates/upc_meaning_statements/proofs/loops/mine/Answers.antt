use Rattle.upc_meaning_state.specs.layer.Came.{state_seen}
use Rattle.upc_meaning_settings.specs.layer.Settings.{running_seen}
use Rattle.upc_meaning_work.proofs.Turning.{mine_goes, mine_ends}
use Rattle.upc_meaning_work.specs.layer.Evaluations.{seen}
use Rattle.upc_meaning_statements.proofs.loops.mine.Goals as goal

pub returns-in-Ends : goal.returns-in-Ends
returns-in-Ends c =
    let s = seen c.args.evaluation.now in
    mine_ends (running_seen c.args.setting) s s c.args.place c.pop_value-v.result (seen c.pop_value-v.new.self)
    c.in-Ends.end (state_seen c.pop_value-v.new.self.progress) c.pop_value-v.ensures.value c.pop_value-v.ensures.rest
    c.in-Ends.ensures

pub returns-in_ok-push_value-in-Gives : goal.returns-in_ok-push_value-in-Gives
returns-in_ok-push_value-in-Gives c =
    mine_goes (running_seen c.args.setting) (seen c.args.evaluation.now) (seen c.push_value.new.self) c.args.place
    c.pop_value-v.result c.in-Gives.w (seen c.pop_value-v.new.self) c.pop_value-v.ensures.value
    c.pop_value-v.ensures.rest c.in-Gives.ensures c.in_ok-push_value-in-Gives.ensures
