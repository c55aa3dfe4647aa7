use Rattle.std.proofs.Common.{refl}
use Rattle.upc_types.specs.View.{view}
use Rattle.upc_meaning_state.specs.layer.Came.{state_seen}
use Rattle.upc_meaning_settings.specs.layer.Settings.{running_seen}
use Rattle.upc_meaning_work.proofs.Declaring.{keep_goes, keep_ends}
use Rattle.upc_meaning_work.specs.layer.Evaluations.{seen}
use Rattle.upc_meaning_statements.proofs.declarations.keep.Goals as goal

pub returns-in-Ends : goal.returns-in-Ends
returns-in-Ends c =
    let s = seen c.args.evaluation.now in
    keep_ends (running_seen c.args.setting) s s c.args.strict c.args.place (view c.args.t.now) c.pop_value-v.result
    c.pop_value-p.result (seen c.pop_value-v.new.self) (seen c.pop_value-p.new.self) c.in-Ends.end
    (state_seen c.put.new.self) c.pop_value-v.ensures.value c.pop_value-v.ensures.rest c.pop_value-p.ensures.value
    c.pop_value-p.ensures.rest (rw c.in-Ends.is at c.in_ok-end.ensures)

pub returns-in-Gives : goal.returns-in-Gives
returns-in-Gives c =
    keep_goes (running_seen c.args.setting) (seen c.args.evaluation.now) _ c.args.strict c.args.place (view
    c.args.t.now) c.pop_value-v.result c.pop_value-p.result (seen c.pop_value-v.new.self) (seen c.pop_value-p.new.self)
    (state_seen c.put.new.self) c.pop_value-v.ensures.value c.pop_value-v.ensures.rest c.pop_value-p.ensures.value
    c.pop_value-p.ensures.rest (rw c.in-Gives.is at c.in_ok-end.ensures) refl
