use Rattle.std.proofs.Common.{rules, ◌∙◌}
use Rattle.std.proofs.lemmas.Int.{to_z-of_z}
use mir.Syntax.{w32}
use mir.Val.{SFits, of_z, to_z}
use Rattle.upc_meaning_state.specs.layer.Came.{state_seen}
use Rattle.upc_meaning_settings.specs.layer.Settings.{running_seen}
use Rattle.upc_meaning_work.proofs.Stating.{mark_goes, mark_ends}
use Rattle.upc_meaning_work.specs.layer.Evaluations.{seen}
use Rattle.upc_meaning_statements.proofs.statements.mark.Goals as goal

pub returns-in-Ends : goal.returns-in-Ends
returns-in-Ends c =
    let s = seen c.args.evaluation.now in
    let fits : SFits w32 c.int_of.result = search rules in
    mark_ends (running_seen c.args.setting) s s c.args.place c.args.how c.pop_value-v.result
    (seen c.pop_value-v.new.self) (to_z w32 (of_z w32 c.int_of.result)) c.in-Ends.end (state_seen
    c.synchronise.new.self)
    c.pop_value-v.ensures.value c.pop_value-v.ensures.rest (to_z-of_z w32 c.int_of.result fits ∙ c.int_of.ensures)
    (rw c.in-Ends.is at c.in_ok-end.ensures)

pub returns-in-Gives : goal.returns-in-Gives
returns-in-Gives c =
    let fits : SFits w32 c.int_of.result = search rules in
    mark_goes (running_seen c.args.setting) (seen c.args.evaluation.now) (seen c.leave_so.new.self) c.args.place
    c.args.how c.pop_value-v.result (seen c.pop_value-v.new.self) (to_z w32 (of_z w32 c.int_of.result))
    (state_seen c.synchronise.new.self) c.pop_value-v.ensures.value c.pop_value-v.ensures.rest
    (to_z-of_z w32 c.int_of.result fits ∙ c.int_of.ensures) (rw c.in-Gives.is at c.in_ok-end.ensures)
    c.leave_so.ensures
