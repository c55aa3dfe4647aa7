use Rattle.std.proofs.Common.{Ok, Err}
use Rattle.std.proofs.lemmas.Result.{err_from_is_err_and}
use Rattle.upc_tree.specs.layer.View.{view}
use Rattle.typed_tree.specs.Scopes.{is_file}
use Rattle.typed_tree.specs.Tree.{Expr}
use Rattle.typed_tree.specs.layer.ViewEnv.{view_env}
use Rattle.typed_tree.specs.ViewTree.{view_expr}
use Rattle.typing_rules.specs.layer.Views.{view_use}
use Rattle.upc_checker_declarations.specs.Declarations.{initial_constant}
use Rattle.upc_checker_expressions.specs.Expressions.{walk}
use Rattle.upc_checker_scopes.specs.layer.Views.{view_setting, state_of}
use Rattle.upc_checker_scopes.proofs.Walks.{goes, stops, gives}
use Rattle.upc_checker_scopes.specs.layer.Ends.{boxed}
use Rattle.upc_checker_declarations.proofs.declarations.walk_initial_value.Goals as goal

pub returns-in_err-a : goal.returns-in_err-a
returns-in_err-a c =
    let ξ = view_setting c.args.setting in
    let Γ = view_env c.args.env.now in
    let s = state_of c.args.tags.now c.args.known.now in
    let id = λ (x : Expr). x in
    let p = err_from_is_err_and c.from_residual.result c.from_residual.ensures.1 in
    rw (p.1, p.2) (stops id (walk ξ Γ (view_use c.args.how) (view c.args.value.now)) _ s s c.in_err-a.field-0.0 c.in_err-a.ensures)

pub returns-in_err-initial_constant : goal.returns-in_err-initial_constant
returns-in_err-initial_constant c =
    let ξ = view_setting c.args.setting in
    let Γ = view_env c.args.env.now in
    let s = state_of c.args.tags.now c.args.known.now in
    let t = state_of c.walk.new.tags c.walk.new.known in
    let id = λ (x : Expr). x in
    let a = view_expr c.in_ok-a.a.value in
    let e = c.in_err-initial_constant.field-0.0 in
    let p = err_from_is_err_and c.from_residual-in_err-initial_constant.result c.from_residual-in_err-initial_constant.ensures.1 in
    rw (p.1, p.2)
    (goes id (walk ξ Γ (view_use c.args.how) (view c.args.value.now)) _ s t t a (Err e) c.in_ok-a.ensures
    (stops id (initial_constant ξ (is_file Γ) a) _ t t e (rw c.deref.ensures at (c.in_err-initial_constant.ensures t))))

pub returns : goal.returns
returns c =
    let ξ = view_setting c.args.setting in
    let Γ = view_env c.args.env.now in
    let s = state_of c.args.tags.now c.args.known.now in
    let t = state_of c.walk.new.tags c.walk.new.known in
    let a = view_expr c.in_ok-a.a.value in
    goes (boxed view_expr) (walk ξ Γ (view_use c.args.how) (view c.args.value.now)) _ s t t a (Ok c.in_ok-a.a) c.in_ok-a.ensures
    (goes (boxed view_expr) (initial_constant ξ (is_file Γ) a) _ t t t (tt {0}) (Ok c.in_ok-a.a) (rw c.deref.ensures at (c.in_ok-initial_constant.ensures t)) (gives t a))
