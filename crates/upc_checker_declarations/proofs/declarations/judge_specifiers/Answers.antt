use Rattle.std.proofs.Common.{sym, ap, ◌∙◌, subst}
use Rattle.std.proofs.lemmas.Result.{err_from_is_err_and}
use Rattle.typing_rules.specs.Nodes.{Specifies}
use Rattle.typing_rules.specs.Rules.{lowest}
use Rattle.typed_tree.specs.Scopes.{State}
use Rattle.upc_checker_scopes.specs.layer.Ends.{Comes}
use Rattle.upc_checker_types.specs.Specifiers as pure
use Rattle.upc_checker_scopes.specs.layer.Views.{view_setting, state_with}
use Rattle.upc_checker_types.specs.layer.ViewShapes.{view_specified}
use Rattle.upc_checker_scopes.specs.Walk.{judge, facts_in}
use Rattle.upc_checker_scopes.proofs.Walks.{judge_goes, judge_stops}
use Rattle.upc_checker_declarations.proofs.declarations.judge_specifiers.Goals as goal

pub returns-in_err-judged : goal.returns-in_err-judged
returns-in_err-judged c = λ tags.
    let ξ = view_setting c.args.setting in
    let s = state_with tags c.args.known.now in
    let φ = facts_in ξ s in
    let x = Specifies (pure.specifiers_form c.args.file (view_specified c.args.found.now)) in
    let rule = c.specifies.ensures φ ∙ ap (λ b. lowest φ (Specifies b)) c.specifiers_form.ensures in
    let p = err_from_is_err_and c.from_residual.result c.from_residual.ensures.1 in
    rw (p.1, p.2) (judge_stops ξ c.args.at x s c.specifies.result c.in_err-judged.field-0.0 rule c.in_err-judged.ensures.err)

pub returns : goal.returns
returns c = λ tags.
    let ξ = view_setting c.args.setting in
    let s = state_with tags c.args.known.now in
    let φ = facts_in ξ s in
    let x = Specifies (pure.specifiers_form c.args.file (view_specified c.args.found.now)) in
    let rule = c.specifies.ensures φ ∙ ap (λ b. lowest φ (Specifies b)) c.specifiers_form.ensures in
    subst (λ (u : State). Comes (judge ξ c.args.at x s) u (tt {0})) (sym (c.note_end.ensures tags)) (judge_goes ξ c.args.at x s c.specifies.result rule c.in_ok-judged.ensures.ok)
