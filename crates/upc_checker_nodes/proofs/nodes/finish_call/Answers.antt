use Rattle.std.proofs.Common.{List, map, ap, ◌∙◌, subst, Ok, Err}
use Rattle.std.proofs.lemmas.Result.{err_from_is_err_and}
use Rattle.upc_tree.specs.layer.View.{view}
use Rattle.typing_rules.specs.Attributes.{Facts}
use Rattle.typing_rules.specs.Nodes as n
use Rattle.typing_rules.specs.Nodes.{view_attr}
use Rattle.typed_tree.specs.declared.tree.Expr.{Expr}
use Rattle.typed_tree.specs.Tree as k
use Rattle.typed_tree.specs.Tree.{exprs_of, attrs_of}
use Rattle.typed_tree.specs.ViewTree.{view_expr}
use Rattle.typing_rules.specs.layer.Views.{view_meaning, view_use}
use Rattle.upc_checker_nodes.specs.Called as calls
use Rattle.upc_checker_nodes.specs.Parts as parts
use Rattle.upc_checker_scopes.specs.layer.Finishes.{Judges}
use Rattle.upc_checker_scopes.specs.layer.Views.{facts_of, view_setting}
use Rattle.upc_checker_nodes.proofs.Finished.{unbuilt, built}
use Rattle.upc_checker_nodes.proofs.nodes.finish_call.Goals as goal

pub returns-in_err-attr : goal.returns-in_err-attr
returns-in_err-attr c =
    let φ : Facts = facts_of c.args.setting c.args.known.now in
    let H = view_use c.args.how in
    let M = view_meaning c.args.means in
    let R = calls.runs (view_setting c.args.setting) (view c.args.callee.now) in
    let node = λ (xs : List Expr). n.Call H M R (parts.format_in (exprs_of (map view_expr xs))) (attrs_of (exprs_of (map view_expr xs))) in
    let all = exprs_of (map view_expr c.args.args.items) in
    let kind = k.Call (calls.target_by (view_setting c.args.setting) M (calls.called_name (view c.args.callee.now))) all in
    let e = c.in_err-attr.field-0.0 in
    let p = err_from_is_err_and c.from_residual.result c.from_residual.ensures.1 in
    unbuilt φ c.args.at (node c.args.args.items) kind c.from_residual.result e p.0 p.1 p.2
    (subst (λ (xs : List Expr). Judges φ c.args.at (node xs) (Err e)) c.as_slice.ensures.value c.in_err-attr.ensures)

pub returns : goal.returns
returns c =
    let φ : Facts = facts_of c.args.setting c.args.known.now in
    let H = view_use c.args.how in
    let M = view_meaning c.args.means in
    let R = calls.runs (view_setting c.args.setting) (view c.args.callee.now) in
    let node = λ (xs : List Expr). n.Call H M R (parts.format_in (exprs_of (map view_expr xs))) (attrs_of (exprs_of (map view_expr xs))) in
    let all = exprs_of (map view_expr c.args.args.items) in
    let kind = k.Call (calls.target_by (view_setting c.args.setting) M (calls.called_name (view c.args.callee.now))) all in
    let a = c.in_ok-attr.attr in
    built φ c.args.at (node c.args.args.items) kind a c.in_ok-call.field-0 (subst (λ (xs : List Expr). Judges φ c.args.at (node xs) (Ok a)) c.as_slice.ensures.value c.in_ok-attr.ensures)
    (c.in_ok-call.ensures ∙ ap (λ t. k.Is c.args.at (view_attr a) (k.Call t all)) c.target_of-target.ensures)
