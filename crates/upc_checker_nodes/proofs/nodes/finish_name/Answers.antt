use Rattle.std.proofs.Common.{ap, ◌∙◌, subst, Ok, Err}
use Rattle.std.proofs.lemmas.Result.{err_from_is_err_and}
use Rattle.typing_rules.specs.Attributes.{Facts}
use Rattle.typing_rules.specs.Nodes as n
use Rattle.typing_rules.specs.Nodes.{view_attr}
use Rattle.typing_rules.specs.Meanings.{Meaning}
use Rattle.typing_rules.specs.layer.Views.{view_use}
use Rattle.typed_tree.specs.Scopes.{meaning}
use Rattle.typed_tree.specs.Tree as k
use Rattle.typed_tree.specs.layer.ViewEnv.{view_env}
use Rattle.upc_checker_nodes.specs.Called as calls
use Rattle.upc_checker_scopes.specs.layer.Finishes.{Judges}
use Rattle.upc_checker_scopes.specs.layer.Views.{view_setting}
use Rattle.upc_checker_nodes.proofs.Finished.{unbuilt, built}
use Rattle.upc_checker_nodes.proofs.nodes.finish_name.Goals as goal

pub returns-in_err-attr : goal.returns-in_err-attr
returns-in_err-attr c =
    λ φ.
    let ξ = view_setting c.args.setting in
    let at = c.args.name.span.place in
    let how = view_use c.args.how in
    let m = meaning ξ (view_env c.args.env.now) c.args.name.number in
    let x : n.Node = n.Name how m in
    let kind = calls.name_kind ξ m c.args.name.number in
    let e = c.in_err-attr.field-0.0 in
    let p = err_from_is_err_and c.from_residual.result c.from_residual.ensures.1 in
    unbuilt φ at x kind c.from_residual.result e p.0 p.1 p.2 (subst (λ (y : Meaning). Judges φ at (n.Name how y) (Err e)) c.meaning-means.ensures (c.in_err-attr.ensures φ))

pub returns : goal.returns
returns c =
    λ φ.
    let ξ = view_setting c.args.setting in
    let at = c.args.name.span.place in
    let how = view_use c.args.how in
    let m = meaning ξ (view_env c.args.env.now) c.args.name.number in
    let x : n.Node = n.Name how m in
    let kind = calls.name_kind ξ m c.args.name.number in
    let a = c.in_ok-attr.attr in
    built φ at x kind a c.in_ok-named.field-0 (subst (λ (y : Meaning). Judges φ at (n.Name how y) (Ok a)) c.meaning-means.ensures (c.in_ok-attr.ensures φ))
    (c.in_ok-named.ensures ∙ ap (λ (y : Meaning). k.Is at (view_attr a) (calls.name_kind ξ y c.args.name.number)) c.meaning-means.ensures)
