use Rattle.std.proofs.Common.{◌≢◌, ◌-◌, refl, arith}
use Rattle.typed_tree.specs.ViewStatements.{view_function}
use Rattle.upc_meaning_state.specs.layer.Came.{state_seen}
use Rattle.upc_meaning_settings.specs.layer.Settings.{running_seen}
use Rattle.upc_meaning_work.proofs.Enters.{call_begins, call_of_none, function_at, no_function}
use Rattle.upc_meaning_work.specs.layer.Evaluations.{seen}
use Rattle.upc_meaning_expressions.proofs.functions.enter.Goals as goal

pub returns-in_ok-push_return-in-None : goal.returns-in_ok-push_return-in-None
returns-in_ok-push_return-in-None c =
    let s = c.args.evaluation.now in
    let some : s.free ≢ 0 = grind (arith, c.if-evaluation-eq0.false) in
    let past = c.in-None.ensures.lookup in
    call_of_none (running_seen c.args.setting) (seen s) (seen c.push_return.new.evaluation) c.args.number
    c.args.args.now c.args.place (s.free - 1) (state_seen c.tick.new.self) (state_seen c.begin_call.new.self) some refl
    (rw c.in-Gives.is at c.in_ok-end.ensures) (rw c.in-Gives-2.is at c.in_ok-end-in-Gives.ensures)
    (no_function c.args.setting.functions.now c.args.number past.3) c.in_ok-push_return-in-None.ensures

pub returns-in_ok-push_return-in-Some : goal.returns-in_ok-push_return-in-Some
returns-in_ok-push_return-in-Some c =
    let s = c.args.evaluation.now in
    let some : s.free ≢ 0 = grind (arith, c.if-evaluation-eq0.false) in
    let found = c.in-Some.ensures.lookup in
    rw (call_begins (running_seen c.args.setting) (seen s) (seen c.push_return-in-Some.new.evaluation) c.args.number
    c.args.args.now c.args.place (s.free - 1) (view_function c.in-Some.function.now) c.blank_of.result
    (state_seen c.tick.new.self) (state_seen c.begin_call.new.self) some refl
    (rw c.in-Gives.is at c.in_ok-end.ensures) (rw c.in-Gives-2.is at c.in_ok-end-in-Gives.ensures)
    (function_at c.args.setting.functions.now c.args.number c.in-Some.function.now found.3.0 found.1)
    c.blank_of.ensures c.in_ok-push_return-in-Some.ensures) c.function_body.ensures
