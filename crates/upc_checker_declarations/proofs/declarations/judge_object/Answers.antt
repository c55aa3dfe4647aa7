use Rattle.std.proofs.Common.{sym, ap, ◌∙◌, subst}
use Rattle.std.proofs.lemmas.Result.{err_from_is_err_and}
use Rattle.typing_rules.specs.Nodes.{DeclaresObject}
use Rattle.typing_rules.specs.Rules.{lowest}
use Rattle.typed_tree.specs.Scopes.{State, is_file}
use Rattle.typed_tree.specs.layer.ViewEnv.{view_env}
use Rattle.typing_rules.specs.layer.Views.{view_formed}
use Rattle.upc_checker_scopes.specs.Known as pure
use Rattle.upc_checker_scopes.specs.layer.Ends.{Comes}
use Rattle.upc_checker_scopes.specs.layer.Views.{view_setting, state_with}
use Rattle.upc_checker_scopes.specs.Walk.{judge, facts_in}
use Rattle.upc_checker_scopes.proofs.Walks.{judge_goes, judge_stops}
use Rattle.upc_checker_declarations.proofs.declarations.judge_object.Goals as goal

pub returns-in_err-judged : goal.returns-in_err-judged
returns-in_err-judged c = λ tags.
    let ξ = view_setting c.args.setting in
    let Γ = view_env c.args.env.now in
    let s = state_with tags c.args.known.now in
    let f = view_formed c.args.f.now in
    let x = DeclaresObject (pure.object_again ξ Γ c.args.name) (is_file Γ) f in
    let φ = facts_in ξ s in
    let rule = c.declares_object.ensures c.args.setting.threads ∙ ap (λ b. lowest φ (DeclaresObject b c.is_file.result f)) c.object_again-again.ensures ∙ ap (λ b. lowest φ (DeclaresObject (pure.object_again ξ Γ c.args.name) b f)) c.is_file.ensures in
    let p = err_from_is_err_and c.from_residual.result c.from_residual.ensures.1 in
    rw (p.1, p.2) (judge_stops ξ c.args.at x s c.declares_object.result c.in_err-judged.field-0.0 rule c.in_err-judged.ensures.err)

pub returns : goal.returns
returns c = λ tags.
    let ξ = view_setting c.args.setting in
    let Γ = view_env c.args.env.now in
    let s = state_with tags c.args.known.now in
    let f = view_formed c.args.f.now in
    let x = DeclaresObject (pure.object_again ξ Γ c.args.name) (is_file Γ) f in
    let φ = facts_in ξ s in
    let rule = c.declares_object.ensures c.args.setting.threads ∙ ap (λ b. lowest φ (DeclaresObject b c.is_file.result f)) c.object_again-again.ensures ∙ ap (λ b. lowest φ (DeclaresObject (pure.object_again ξ Γ c.args.name) b f)) c.is_file.ensures in
    subst (λ (u : State). Comes (judge ξ c.args.at x s) u (tt {0})) (sym (c.in_ok-note_more.ensures.ok tags)) (judge_goes ξ c.args.at x s c.declares_object.result rule c.in_ok-judged.ensures.ok)
