use Rattle.std.proofs.Common.{◌≡◌, List, Ok, Err, map, sym, ap, ◌∙◌, subst, Result}
use Rattle.std.proofs.lemmas.Result.{err_from_is_err_and}
use Rattle.upc_text.specs.declared.faults.Stop.{Stop}
use Rattle.upc_tree.specs.layer.View as views
use Rattle.upc_types.specs.View.{view}
use Rattle.typing_rules.specs.Faults.{first_fault}
use Rattle.typed_tree.specs.Scopes.{Env, Within, inside}
use Rattle.typed_tree.specs.layer.ViewEnv.{view_env, with_outer}
use Rattle.upc_checker_types.specs.Members.{Declared}
use Rattle.upc_checker_expressions.specs.Expressions.{walk_parameters}
use Rattle.upc_checker_scopes.specs.layer.Ends.{Stops, Comes}
use Rattle.upc_checker_scopes.specs.layer.Views.{view_setting, state_of}
use Rattle.upc_checker.proofs.Outer.{outer_of, parameters_outer, outer_again}
use Rattle.upc_checker.proofs.functions.own_parameters.Goals as goal

pub returns-in_err-types : goal.returns-in_err-types
returns-in_err-types c =
    let ξ = view_setting c.args.setting in
    let s = state_of c.args.tags.now c.args.known.now in
    let w = λ (Γ : Env). walk_parameters ξ Γ (views.view_parameters c.args.parameters.now) s in
    let e = c.in_err-types.field-0.0 in
    let p = err_from_is_err_and c.from_residual-in_err-types.result c.from_residual-in_err-types.ensures.1 in
    rw (p.1, p.2) (subst (λ (Γ : Env). Stops (first_fault (w Γ).seen) e) c.in_ok-scope.ensures c.in_err-types.ensures)

pub returns : goal.returns
returns c =
    let ξ = view_setting c.args.setting in
    let Γ = view_env c.args.env.now in
    let s = state_of c.args.tags.now c.args.known.now in
    let ps = views.view_parameters c.args.parameters.now in
    let w = λ (Γ : Env). walk_parameters ξ Γ ps s in
    let t = state_of c.walk_parameters.new.tags c.walk_parameters.new.known in
    let ts = map view c.in_ok-types.types.items in
    let Δ = view_env c.walk_parameters.new.scope in
    let with = λ (Θ : Env). let d : Declared = record { types = ts; scope = Θ } in d in
    let h = subst (λ (Γ : Env). Comes (w Γ) t (with Δ)) c.in_ok-scope.ensures c.in_ok-types.ensures in
    let kept : outer_of Δ ≡ Within Γ = ap (λ (x : Declared). outer_of x.scope) (sym h.value) ∙ parameters_outer ξ (inside Γ) ps s in
    let same = sym (outer_again Γ Δ kept) ∙ sym (c.alone.ensures (Within Γ)) in
    record { fine = h.fine; state = h.state; value = h.value ∙ ap with same }
