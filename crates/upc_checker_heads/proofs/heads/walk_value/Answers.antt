use Rattle.std.proofs.Common.{Option, Some, Ok}
use Rattle.std.proofs.lemmas.Result.{err_from_is_err_and}
use Rattle.upc_tree.specs.layer.View.{view}
use Rattle.typing_rules.specs.Nodes as n
use Rattle.typed_tree.specs.Tree as k
use Rattle.typed_tree.specs.layer.ViewEnv.{view_env}
use Rattle.typed_tree.specs.ViewStatements.{view_value}
use Rattle.typed_tree.specs.ViewTree.{view_expr}
use Rattle.upc_checker_expressions.specs.Expressions.{walk}
use Rattle.upc_checker_scopes.specs.layer.Views.{view_setting, state_of}
use Rattle.upc_checker_scopes.proofs.Walks.{goes, stops, gives}
use Rattle.upc_checker_heads.proofs.heads.walk_value.Goals as goal

pub returns-in_err-a-in-Some : goal.returns-in_err-a-in-Some
returns-in_err-a-in-Some c =
    let ξ = view_setting c.args.setting in
    let Γ = view_env c.args.env.now in
    let s = state_of c.args.tags.now c.args.known.now in
    let e = c.in_err-a-in-Some.field-0.0 in
    let p = err_from_is_err_and c.from_residual.result c.from_residual.ensures.1 in
    let id = λ (x : Option k.Expr). x in
    rw (c.in-Some.is, p.1, p.2)
    (stops id (walk ξ Γ n.Plain (view c.in-Some.value.value)) _ s s e (rw c.deref.ensures at c.in_err-a-in-Some.ensures))

pub returns-in_ok-a-in-Some : goal.returns-in_ok-a-in-Some
returns-in_ok-a-in-Some c =
    let ξ = view_setting c.args.setting in
    let Γ = view_env c.args.env.now in
    let s = state_of c.args.tags.now c.args.known.now in
    rw (c.in-Some.is) (goes (view_value) (walk ξ Γ n.Plain (view c.in-Some.value.value)) _ s (state_of c.walk.new.tags c.walk.new.known) (state_of c.walk.new.tags c.walk.new.known) (view_expr c.in_ok-a-in-Some.a.value) (Ok (Some c.in_ok-a-in-Some.a)) (rw c.deref.ensures at c.in_ok-a-in-Some.ensures)
    (gives (state_of c.walk.new.tags c.walk.new.known) (Some (view_expr c.in_ok-a-in-Some.a.value))))
