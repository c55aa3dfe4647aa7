use Rattle.std.proofs.lemmas.Result.{err_from_is_err_and}
use Rattle.upc_tree.specs.layer.ViewStatement as trees
use Rattle.typed_tree.specs.Tree as k
use Rattle.typed_tree.specs.layer.ViewEnv.{view_env}
use Rattle.typed_tree.specs.ViewStatements.{view_statement, view_value}
use Rattle.typing_rules.specs.layer.Views.{view_around}
use Rattle.upc_checker_statements.specs.Statements as pure
use Rattle.upc_checker_scopes.specs.layer.Ends.{boxed}
use Rattle.upc_checker_scopes.specs.layer.Views.{view_setting, state_of}
use Rattle.upc_checker_scopes.proofs.Walks.{goes, stops}
use Rattle.upc_checker_statements.proofs.statements.walk_return.Goals as goal

pub returns-in_err-a : goal.returns-in_err-a
returns-in_err-a c = λ semicolon.
    let ξ = view_setting c.args.here.setting in
    let Γ = view_env c.args.env.now in
    let s = state_of c.args.tags.now c.args.known.now in
    let e = c.in_err-a.field-0.0 in
    let p = err_from_is_err_and c.from_residual.result c.from_residual.ensures.1 in
    let id = λ (x : k.Statement). x in
    rw (p.1, p.2)
    (stops id (pure.walk_returned ξ Γ (view_around c.args.here.around) (trees.view_value c.args.value.now)) _ s s e c.in_err-a.ensures)

pub returns : goal.returns
returns c = λ semicolon.
    let ξ = view_setting c.args.here.setting in
    let Γ = view_env c.args.env.now in
    let s = state_of c.args.tags.now c.args.known.now in
    let t = (state_of c.walk_returned.new.tags c.walk_returned.new.known) in
    goes (boxed view_statement) (pure.walk_returned ξ Γ (view_around c.args.here.around) (trees.view_value c.args.value.now)) _ s t t (view_value c.in_ok-a.a) c.returns.result c.in_ok-a.ensures (c.returns.ensures ξ t)
