use Rattle.std.proofs.Common.{◌≢◌, ◌-◌, refl, ap, ◌∙◌, arith}
use Rattle.typed_tree.specs.ViewStatements.{view_statement_kind}
use Rattle.upc_meaning_state.specs.layer.Came.{state_seen}
use Rattle.upc_meaning_settings.specs.layer.Settings.{running_seen}
use Rattle.upc_meaning_work.specs.layer.Seen.{with_test}
use Rattle.upc_meaning_work.specs.layer.Left.{test_in}
use Rattle.upc_meaning_work.specs.layer.ViewItems.{view_standing}
use Rattle.upc_meaning_work.proofs.Turning.{turn_goes}
use Rattle.upc_meaning_work.specs.layer.Evaluations.{seen}
use Rattle.upc_meaning_statements.proofs.loops.turn.Goals as goal

pub returns-in_ok-push_test-in-Gives : goal.returns-in_ok-push_test-in-Gives
returns-in_ok-push_test-in-Gives c =
    let κ = view_standing c.args.standing in
    let kind = view_statement_kind c.args.kind.now in
    let some : c.args.turns ≢ 0 = grind (arith, c.if-turns-eq0.false) in
    turn_goes (running_seen c.args.setting) κ (seen c.args.evaluation.now) (seen c.push_test.new.evaluation) kind
    c.args.turns (c.args.turns - 1) (state_seen c.tick.new.self) (rw c.in-Gives.is at c.in_ok-end.ensures) some refl
    (c.in_ok-push_test-in-Gives.ensures ∙ ap (with_test κ (test_in kind)) c.in_ok-push_one-in-Gives.ensures)
