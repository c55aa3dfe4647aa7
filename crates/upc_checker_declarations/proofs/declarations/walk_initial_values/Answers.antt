use Rattle.std.proofs.Common.{◌+◌, List, map, drop, subst, arith, Vec, Global}
use Rattle.std.proofs.lemmas.List.{drop_all}
use Rattle.std.proofs.lemmas.Result.{err_from_is_err_and}
use Rattle.upc_tree.specs.declared.expression.NextExpr.{NextExpr}
use Rattle.upc_tree.specs.layer.Lists.{next_exprs_of}
use Rattle.upc_tree.specs.layer.View.{view, view_next_expr}
use Rattle.typed_tree.specs.declared.tree.Expr.{Expr as RustExpr}
use Rattle.typed_tree.specs.Scopes.{is_file}
use Rattle.typed_tree.specs.Tree.{Expr, Exprs, NoExprs, AndExpr, exprs_of}
use Rattle.typed_tree.specs.layer.ViewEnv.{view_env}
use Rattle.typed_tree.specs.ViewTree.{view_expr}
use Rattle.typing_rules.specs.layer.Views.{view_use}
use Rattle.upc_checker_declarations.specs.Declarations as pure
use Rattle.upc_checker_scopes.specs.layer.Views.{view_setting, state_of}
use Rattle.upc_checker_scopes.proofs.Turns.{IsLeft, behind, pushed_behind, list_begins, list_goes, list_stops, list_done}
use Rattle.upc_checker_declarations.proofs.Exprs.{exprs_behind}
use Rattle.upc_checker_declarations.proofs.declarations.walk_initial_values.Goals as goal
use Rattle.upc_values.proofs.Membership.{left_from}

pub loop-part-init : goal.loop-part-init
loop-part-init c =
    let Γ = view_env c.args.env.now in
    let w = pure.walk_initial_values (view_setting c.args.setting) Γ (is_file Γ) (view_use c.args.how) (next_exprs_of (map view_next_expr c.args.values.now)) in
    rw c.new-all.ensures.items (list_begins w (state_of c.args.tags.now c.args.known.now))

pub returns-in_err-x : goal.returns-in_err-x
returns-in_err-x c =
    let ξ = view_setting c.args.setting in
    let Γ = view_env c.args.env.now in
    let how = view_use c.args.how in
    let w = λ (xs : List NextExpr). pure.walk_initial_values ξ Γ (is_file Γ) how (next_exprs_of (map view_next_expr xs)) in
    let whole = w c.args.values.now (state_of c.args.tags.now c.args.known.now) in
    let s = state_of c.loop-part.tags c.loop-part.known in
    let f = behind AndExpr (map view_expr c.loop-part.all.items) in
    let next = left_from c.args.values.now c.loop-part.part-index c.part-item.result (omega (arith, c.loop-part-test.true)) c.part-item.is in
    let h = subst (λ (xs : List NextExpr). IsLeft whole f (w xs) s) next c.loop-part.invariant in
    let one = pure.walk_initial_value ξ Γ (is_file Γ) how (view c.part-item.result.value.value) in
    let p = err_from_is_err_and c.from_residual.result c.from_residual.ensures.1 in
    rw (p.1, p.2) (list_stops (λ (xs : Exprs). xs) whole f one _ s s c.in_err-x.field-0.0 h (rw c.deref.ensures at c.in_err-x.ensures))

pub loop-part-preserved : goal.loop-part-preserved
loop-part-preserved c =
    let ξ = view_setting c.args.setting in
    let Γ = view_env c.args.env.now in
    let how = view_use c.args.how in
    let w = λ (xs : List NextExpr). pure.walk_initial_values ξ Γ (is_file Γ) how (next_exprs_of (map view_next_expr xs)) in
    let whole = w c.args.values.now (state_of c.args.tags.now c.args.known.now) in
    let s = state_of c.loop-part.tags c.loop-part.known in
    let t = state_of c.walk_initial_value.new.tags c.walk_initial_value.new.known in
    let all = c.loop-part.all.items in
    let f = behind AndExpr (map view_expr all) in
    let next = left_from c.args.values.now c.loop-part.part-index c.part-item.result (omega (arith, c.loop-part-test.true)) c.part-item.is in
    let h = subst (λ (xs : List NextExpr). IsLeft whole f (w xs) s) next c.loop-part.invariant in
    let one = pure.walk_initial_value ξ Γ (is_file Γ) how (view c.part-item.result.value.value) in
    let rest = λ (y : Expr). w (drop (c.loop-part.part-index + 1) c.args.values.now) in
    list_goes whole f (behind AndExpr (map view_expr c.push.new.self.items)) AndExpr one rest s t (view_expr c.in_ok-x.x.value) h (rw c.deref.ensures at c.in_ok-x.ensures)
    (λ ys. pushed_behind view_expr AndExpr all c.push.new.self.items c.in_ok-x.x.value ys (rw c.into_inner.ensures at c.in_ok-push.ensures.items))

pub returns : goal.returns
returns c =
    let ξ = view_setting c.args.setting in
    let Γ = view_env c.args.env.now in
    let w = λ (xs : List NextExpr). pure.walk_initial_values ξ Γ (is_file Γ) (view_use c.args.how) (next_exprs_of (map view_next_expr xs)) in
    let whole = w c.args.values.now (state_of c.args.tags.now c.args.known.now) in
    let s = state_of c.loop-part.tags c.loop-part.known in
    let f = behind AndExpr (map view_expr c.loop-part.all.items) in
    let none = drop_all c.loop-part.part-index c.args.values.now (omega (arith, c.loop-part-test.false)) in
    let h = subst (λ (xs : List NextExpr). IsLeft whole f (w xs) s) none c.loop-part.invariant in
    list_done (λ (xs : Vec RustExpr Global). exprs_of (map view_expr xs.items)) whole f NoExprs s c.loop-part.all h (exprs_behind c.loop-part.all.items)
