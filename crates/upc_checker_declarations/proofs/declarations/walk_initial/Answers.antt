use Rattle.std.proofs.Common.{Bool, List, map, Result, Ok, Err, ap, ◌∙◌, subst}
use Rattle.std.proofs.lemmas.Result.{err_from_is_err_and}
use Rattle.upc_text.specs.declared.faults.Stop.{Stop}
use Rattle.upc_tree.specs.declared.expression.NextExpr.{NextExpr}
use Rattle.upc_tree.specs.Declaration.{ListInitial}
use Rattle.upc_tree.specs.layer.Lists.{next_exprs_of}
use Rattle.upc_tree.specs.layer.View.{view, view_next_expr}
use Rattle.upc_types.specs.View as types
use Rattle.typed_tree.specs.declared.tree.Initial.{Initial as RustInitial}
use Rattle.typed_tree.specs.declared.tree.Initial.TheVariants as i
use Rattle.typing_rules.specs.Faults.{first_fault}
use Rattle.typing_rules.specs.Nodes as n
use Rattle.typing_rules.specs.Nodes.{view_attr}
use Rattle.typing_rules.specs.Rules.{lowest}
use Rattle.typed_tree.specs.Scopes.{is_file}
use Rattle.typed_tree.specs.Tree.{Initial, InitialValue, InitialList, exprs_of}
use Rattle.typed_tree.specs.layer.ViewEnv.{view_env}
use Rattle.typed_tree.specs.ViewStatements.{view_initial}
use Rattle.typed_tree.specs.ViewTree.{view_expr}
use Rattle.upc_checker_declarations.specs.Declarations as pure
use Rattle.upc_checker_scopes.specs.layer.Ends.{Stops, Comes}
use Rattle.upc_checker_scopes.specs.layer.Views.{view_setting, state_of}
use Rattle.upc_checker_scopes.specs.Walk.{judge, facts_in}
use Rattle.upc_checker_scopes.proofs.Walks.{goes, stops, gives, judge_goes, judge_stops}
use Rattle.upc_checker_declarations.proofs.declarations.walk_initial.Goals as goal

pub returns-in_err-a-in-Value : goal.returns-in_err-a-in-Value
returns-in_err-a-in-Value c =
    let ξ = view_setting c.args.setting in
    let Γ = view_env c.args.env.now in
    let s = state_of c.args.tags.now c.args.known.now in
    let t = types.view c.args.t.now in
    let w = pure.walk_initial_value ξ Γ (is_file Γ) (n.Into t) (view c.in-Value.value.value) in
    let e = c.in_err-a-in-Value.field-0.0 in
    let p = err_from_is_err_and c.from_residual.result c.from_residual.ensures.1 in
    rw (c.in-Value.is, p.1, p.2) (stops (λ (x : Initial). x) w _ s s e (rw c.deref.ensures at c.in_err-a-in-Value.ensures))

pub returns-in_err-judged-in-Value : goal.returns-in_err-judged-in-Value
returns-in_err-judged-in-Value c =
    let ξ = view_setting c.args.setting in
    let Γ = view_env c.args.env.now in
    let s = state_of c.args.tags.now c.args.known.now in
    let t = types.view c.args.t.now in
    let w = pure.walk_initial_value ξ Γ (is_file Γ) (n.Into t) (view c.in-Value.value.value) in
    let v = state_of c.walk_initial_value.new.tags c.walk_initial_value.new.known in
    let a = view_expr c.in_ok-a-in-Value.a.value in
    let φ = facts_in ξ v in
    let node = λ (b : Bool). n.InitialValue b c.args.object t (view_attr c.in_ok-a-in-Value.a.value.attr) in
    let rule = (rw c.deref-in-Value.ensures at (c.initial_value.ensures φ)) ∙ ap (λ b. lowest φ (node b)) c.is_file.ensures in
    let e = c.in_err-judged-in-Value.field-0.0 in
    let id = λ (x : Initial). x in
    let p = err_from_is_err_and c.from_residual-in_err-judged-in-Value.result c.from_residual-in_err-judged-in-Value.ensures.1 in
    rw (c.in-Value.is, p.1, p.2)
    (goes id w _ s v v a (Err e) (rw c.deref.ensures at c.in_ok-a-in-Value.ensures)
    (stops id (judge ξ c.args.place (node (is_file Γ))) _ v v e (judge_stops ξ c.args.place (node (is_file Γ)) v c.initial_value.result e rule c.in_err-judged-in-Value.ensures.err)))

pub returns-in_err-values-in-List : goal.returns-in_err-values-in-List
returns-in_err-values-in-List c =
    let ξ = view_setting c.args.setting in
    let Γ = view_env c.args.env.now in
    let s = state_of c.args.tags.now c.args.known.now in
    let t = types.view c.args.t.now in
    let w = λ (xs : List NextExpr). pure.walk_initial ξ Γ c.args.place c.args.object t (ListInitial c.in-List.equal c.in-List.open (view c.in-List.first.value) (next_exprs_of (map view_next_expr xs)) c.in-List.close) s in
    let e = c.in_err-values-in-List.field-0.0 in
    let h = subst (λ (xs : List NextExpr). Stops (first_fault (w xs).seen) e) c.as_slice-more.ensures.value (rw c.deref-in-List.ensures at (c.in_err-values-in-List.ensures c.in-List.equal c.in-List.open c.in-List.close)) in
    let p = err_from_is_err_and c.from_residual-in_err-values-in-List.result c.from_residual-in_err-values-in-List.ensures.1 in
    rw (c.in-List.is, p.1, p.2) h

pub returns-in_ok-judged-in-Value : goal.returns-in_ok-judged-in-Value
returns-in_ok-judged-in-Value c =
    let ξ = view_setting c.args.setting in
    let Γ = view_env c.args.env.now in
    let s = state_of c.args.tags.now c.args.known.now in
    let t = types.view c.args.t.now in
    let w = pure.walk_initial_value ξ Γ (is_file Γ) (n.Into t) (view c.in-Value.value.value) in
    let v = state_of c.walk_initial_value.new.tags c.walk_initial_value.new.known in
    let a = view_expr c.in_ok-a-in-Value.a.value in
    let φ = facts_in ξ v in
    let node = λ (b : Bool). n.InitialValue b c.args.object t (view_attr c.in_ok-a-in-Value.a.value.attr) in
    let rule = (rw c.deref-in-Value.ensures at (c.initial_value.ensures φ)) ∙ ap (λ b. lowest φ (node b)) c.is_file.ensures in
    let made : Result RustInitial Stop = Ok (i.Value c.in_ok-a-in-Value.a) in
    rw c.in-Value.is
    (goes view_initial w _ s v v a made (rw c.deref.ensures at c.in_ok-a-in-Value.ensures)
    (goes view_initial (judge ξ c.args.place (node (is_file Γ))) _ v v v (tt {0}) made (judge_goes ξ c.args.place (node (is_file Γ)) v c.initial_value.result rule c.in_ok-judged-in-Value.ensures.ok)
    (gives v (InitialValue a))))

pub returns-in_ok-values-in-List : goal.returns-in_ok-values-in-List
returns-in_ok-values-in-List c =
    let ξ = view_setting c.args.setting in
    let Γ = view_env c.args.env.now in
    let s = state_of c.args.tags.now c.args.known.now in
    let t = types.view c.args.t.now in
    let w = λ (xs : List NextExpr). pure.walk_initial ξ Γ c.args.place c.args.object t (ListInitial c.in-List.equal c.in-List.open (view c.in-List.first.value) (next_exprs_of (map view_next_expr xs)) c.in-List.close) s in
    let v = state_of c.walk_initial_list.new.tags c.walk_initial_list.new.known in
    let x = InitialList (exprs_of (map view_expr c.in_ok-values-in-List.values.items)) in
    let h = subst (λ (xs : List NextExpr). Comes (w xs) v x) c.as_slice-more.ensures.value (rw c.deref-in-List.ensures at (c.in_ok-values-in-List.ensures c.in-List.equal c.in-List.open c.in-List.close)) in
    rw c.in-List.is h
