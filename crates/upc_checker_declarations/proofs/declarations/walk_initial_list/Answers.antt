use Rattle.std.proofs.Common.{Bool, refl, List, map, Result, Ok, Err, sym, ap, ◌∙◌, subst, Vec, Global}
use Rattle.std.proofs.lemmas.Result.{err_from_is_err_and}
use Rattle.upc_text.specs.declared.faults.Stop.{Stop}
use Rattle.upc_tree.specs.layer.Lists.{next_exprs_of}
use Rattle.upc_tree.specs.layer.View.{view, view_next_expr}
use Rattle.upc_types.specs.Types.{base_of}
use Rattle.upc_types.specs.View as types
use Rattle.typed_tree.specs.declared.tree.Expr.{Expr as RustExpr}
use Rattle.typing_rules.specs.Faults.{first_fault}
use Rattle.typing_rules.specs.Nodes.{Attr, Use}
use Rattle.typing_rules.specs.Nodes as n
use Rattle.typing_rules.specs.Rules.{lowest}
use Rattle.typed_tree.specs.Scopes.{is_file}
use Rattle.typed_tree.specs.Tree.{Initial, InitialList, AndExpr, exprs_of, attrs_of}
use Rattle.typing_rules.specs.Values.{base_target}
use Rattle.typed_tree.specs.layer.ViewEnv.{view_env}
use Rattle.typed_tree.specs.ViewTree.{view_expr}
use Rattle.typed_tree.specs.ViewTree.{attr_seen}
use Rattle.upc_checker_declarations.specs.Declarations as pure
use Rattle.upc_checker_scopes.specs.layer.Ends.{Stops, Comes}
use Rattle.upc_checker_scopes.specs.layer.Views.{view_setting, state_of}
use Rattle.upc_checker_scopes.specs.Walk.{judge, facts_in}
use Rattle.upc_checker_scopes.proofs.Walks.{goes, stops, judge_goes, judge_stops}
use Rattle.upc_checker_declarations.proofs.Exprs.{attrs_seen}
use Rattle.upc_checker_declarations.proofs.declarations.walk_initial_list.Goals as goal

pub returns-in_err-x : goal.returns-in_err-x
returns-in_err-x c = λ equal left right.
    let ξ = view_setting c.args.setting in
    let Γ = view_env c.args.env.now in
    let s = state_of c.args.tags.now c.args.known.now in
    let how = pure.element_use (base_target (base_of (types.view c.args.t.now))) in
    let w = λ (u : Use). pure.walk_initial_value ξ Γ (is_file Γ) u (view c.args.first.now) in
    let e = c.in_err-x.field-0.0 in
    let h = subst (λ (u : Use). Stops (first_fault (w u s).seen) e) c.element_use-how.ensures c.in_err-x.ensures in
    let p = err_from_is_err_and c.from_residual.result c.from_residual.ensures.1 in
    rw (p.1, p.2) (stops (λ (x : Initial). x) (w how) _ s s e h)

pub returns-in_err-xs : goal.returns-in_err-xs
returns-in_err-xs c = λ equal left right.
    let ξ = view_setting c.args.setting in
    let Γ = view_env c.args.env.now in
    let s = state_of c.args.tags.now c.args.known.now in
    let t = state_of c.walk_initial_value.new.tags c.walk_initial_value.new.known in
    let how = pure.element_use (base_target (base_of (types.view c.args.t.now))) in
    let w = λ (u : Use). pure.walk_initial_value ξ Γ (is_file Γ) u (view c.args.first.now) in
    let ws = λ (u : Use). pure.walk_initial_values ξ Γ (is_file Γ) u (next_exprs_of (map view_next_expr c.args.more.now)) in
    let x = view_expr c.in_ok-x.x.value in
    let e = c.in_err-xs.field-0.0 in
    let id = λ (x : Initial). x in
    let h = subst (λ (u : Use). Comes (w u s) t x) c.element_use-how.ensures c.in_ok-x.ensures in
    let hs = subst (λ (u : Use). Stops (first_fault (ws u t).seen) e) c.element_use-how.ensures c.in_err-xs.ensures in
    let p = err_from_is_err_and c.from_residual-in_err-xs.result c.from_residual-in_err-xs.ensures.1 in
    rw (p.1, p.2) (goes id (w how) _ s t t x (Err e) h (stops id (ws how) _ t t e hs))

pub returns-in_err-judged : goal.returns-in_err-judged
returns-in_err-judged c = λ equal left right.
    let ξ = view_setting c.args.setting in
    let Γ = view_env c.args.env.now in
    let s = state_of c.args.tags.now c.args.known.now in
    let t = state_of c.walk_initial_value.new.tags c.walk_initial_value.new.known in
    let v = state_of c.walk_initial_values.new.tags c.walk_initial_values.new.known in
    let how = pure.element_use (base_target (base_of (types.view c.args.t.now))) in
    let w = λ (u : Use). pure.walk_initial_value ξ Γ (is_file Γ) u (view c.args.first.now) in
    let ws = λ (u : Use). pure.walk_initial_values ξ Γ (is_file Γ) u (next_exprs_of (map view_next_expr c.args.more.now)) in
    let x = view_expr c.in_ok-x.x.value in
    let xs = exprs_of (map view_expr c.in_ok-xs.xs.items) in
    let id = λ (x : Initial). x in
    let h = subst (λ (u : Use). Comes (w u s) t x) c.element_use-how.ensures c.in_ok-x.ensures in
    let hs = subst (λ (u : Use). Comes (ws u t) v xs) c.element_use-how.ensures c.in_ok-xs.ensures in
    let node = λ (b : Bool) (l : List Attr). n.InitialList b c.args.object (types.view c.args.t.now) l in
    let seen = ap (map attr_seen) c.as_slice.ensures.value ∙ attrs_seen c.in_ok-all.all.items ∙ ap (λ es. attrs_of (exprs_of es)) c.in_ok-all.ensures in
    let φ = facts_in ξ v in
    let rule = c.initial_list.ensures φ ∙ ap (λ b. lowest φ (node b (map attr_seen c.as_slice.result.now))) c.is_file.ensures ∙ ap (λ l. lowest φ (node (is_file Γ) l)) seen in
    let y = node (is_file Γ) (attrs_of (AndExpr x xs)) in
    let e = c.in_err-judged.field-0.0 in
    let p = err_from_is_err_and c.from_residual-in_err-judged.result c.from_residual-in_err-judged.ensures.1 in
    rw (p.1, p.2)
    (goes id (w how) _ s t v x (Err e) h (goes id (ws how) _ t v v xs (Err e) hs
    (stops id (judge ξ c.args.place y) _ v v e (judge_stops ξ c.args.place y v c.initial_list.result e rule c.in_err-judged.ensures.err))))

pub returns : goal.returns
returns c = λ equal left right.
    let ξ = view_setting c.args.setting in
    let Γ = view_env c.args.env.now in
    let s = state_of c.args.tags.now c.args.known.now in
    let t = state_of c.walk_initial_value.new.tags c.walk_initial_value.new.known in
    let v = state_of c.walk_initial_values.new.tags c.walk_initial_values.new.known in
    let how = pure.element_use (base_target (base_of (types.view c.args.t.now))) in
    let w = λ (u : Use). pure.walk_initial_value ξ Γ (is_file Γ) u (view c.args.first.now) in
    let ws = λ (u : Use). pure.walk_initial_values ξ Γ (is_file Γ) u (next_exprs_of (map view_next_expr c.args.more.now)) in
    let x = view_expr c.in_ok-x.x.value in
    let xs = exprs_of (map view_expr c.in_ok-xs.xs.items) in
    let h = subst (λ (u : Use). Comes (w u s) t x) c.element_use-how.ensures c.in_ok-x.ensures in
    let hs = subst (λ (u : Use). Comes (ws u t) v xs) c.element_use-how.ensures c.in_ok-xs.ensures in
    let node = λ (b : Bool) (l : List Attr). n.InitialList b c.args.object (types.view c.args.t.now) l in
    let seen = ap (map attr_seen) c.as_slice.ensures.value ∙ attrs_seen c.in_ok-all.all.items ∙ ap (λ es. attrs_of (exprs_of es)) c.in_ok-all.ensures in
    let φ = facts_in ξ v in
    let rule = c.initial_list.ensures φ ∙ ap (λ b. lowest φ (node b (map attr_seen c.as_slice.result.now))) c.is_file.ensures ∙ ap (λ l. lowest φ (node (is_file Γ) l)) seen in
    let y = node (is_file Γ) (attrs_of (AndExpr x xs)) in
    let seen_as = λ (all : Vec RustExpr Global). InitialList (exprs_of (map view_expr all.items)) in
    let made : Result (Vec RustExpr Global) Stop = Ok c.in_ok-all.all in
    goes seen_as (w how) _ s t v x made h (goes seen_as (ws how) _ t v v xs made hs
    (goes seen_as (judge ξ c.args.place y) _ v v v (tt {0}) made (judge_goes ξ c.args.place y v c.initial_list.result rule c.in_ok-judged.ensures.ok)
    (record { fine = refl; state = refl; value = ap (λ es. InitialList (exprs_of es)) (sym c.in_ok-all.ensures) })))
