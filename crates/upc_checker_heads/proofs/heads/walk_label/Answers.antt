use Rattle.std.proofs.lemmas.Result.{err_from_is_err_and}
use Rattle.upc_tree.specs.layer.View.{view}
use Rattle.typing_rules.specs.declared.attribute.Constant.{Constant}
use Rattle.typing_rules.specs.Nodes as n
use Rattle.typed_tree.specs.Tree as k
use Rattle.typed_tree.specs.layer.ViewEnv.{view_env}
use Rattle.typed_tree.specs.ViewTree.{view_expr}
use Rattle.upc_checker_expressions.specs.Expressions.{constantly, walk}
use Rattle.upc_checker_scopes.specs.layer.Views.{view_setting, state_of}
use Rattle.upc_checker_scopes.proofs.Walks.{goes, stops}
use Rattle.upc_checker_heads.proofs.heads.walk_label.Goals as goal

pub returns-in_err-a : goal.returns-in_err-a
returns-in_err-a c =
    let ξ = view_setting c.args.setting in
    let w = walk ξ (view_env c.args.env.now) n.Plain (view c.args.value.now) in
    let s = state_of c.args.tags.now c.args.known.now in
    let p = err_from_is_err_and c.from_residual.result c.from_residual.ensures.1 in
    rw (p.1, p.2) (stops (λ (l : Constant). l) w (λ (a : k.Expr). constantly ξ a) s s c.in_err-a.field-0.0 c.in_err-a.ensures)

pub returns : goal.returns
returns c =
    let ξ = view_setting c.args.setting in
    let w = walk ξ (view_env c.args.env.now) n.Plain (view c.args.value.now) in
    let s = state_of c.args.tags.now c.args.known.now in
    let t = state_of c.walk.new.tags c.walk.new.known in
    goes (λ (l : Constant). l) w (λ (a : k.Expr). constantly ξ a) s t t (view_expr c.in_ok-a.a.value) c.constantly.result c.in_ok-a.ensures (rw c.deref.ensures at (c.constantly.ensures t))
