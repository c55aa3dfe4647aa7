use Rattle.std.proofs.Common.{List, map, ap, ◌∙◌, subst, Ok, Err}
use Rattle.std.proofs.lemmas.Result.{err_from_is_err_and}
use Rattle.typing_rules.specs.Nodes as n
use Rattle.typing_rules.specs.Nodes.{view_attr}
use Rattle.typed_tree.specs.declared.tree.Expr.{Expr}
use Rattle.typed_tree.specs.Tree as k
use Rattle.typed_tree.specs.Tree.{exprs_of}
use Rattle.typed_tree.specs.ViewTree.{view_expr}
use Rattle.upc_checker_nodes.specs.Parts as parts
use Rattle.upc_checker_scopes.specs.layer.Finishes.{Judges}
use Rattle.upc_checker_nodes.proofs.Finished.{unbuilt, built}
use Rattle.upc_checker_nodes.proofs.nodes.finish_comma.Goals as goal

pub returns-in_err-attr : goal.returns-in_err-attr
returns-in_err-attr c =
    λ φ.
    let first = c.args.first.value in
    let node = λ (e : Expr) (xs : List Expr). n.Comma (parts.last_of (view_expr e) (exprs_of (map view_expr xs))) in
    let xs = c.args.more.items in
    let kind = k.Comma (k.AndExpr (view_expr first) (exprs_of (map view_expr xs))) in
    let e = c.in_err-attr.field-0.0 in
    let p = err_from_is_err_and c.from_residual.result c.from_residual.ensures.1 in
    unbuilt φ first.place (node first xs) kind c.from_residual.result e p.0 p.1 p.2
    (subst (λ (y : Expr). Judges φ y.place (node y xs) (Err e)) c.deref-2.ensures
    (subst (λ (ys : List Expr). Judges φ c.deref-2.result.now.place (node c.deref-2.result.now ys) (Err e)) c.as_slice.ensures.value (c.in_err-attr.ensures φ)))

pub returns : goal.returns
returns c =
    λ φ.
    let first = c.args.first.value in
    let node = λ (e : Expr) (xs : List Expr). n.Comma (parts.last_of (view_expr e) (exprs_of (map view_expr xs))) in
    let xs = c.args.more.items in
    let kind = k.Comma (k.AndExpr (view_expr first) (exprs_of (map view_expr xs))) in
    let a = c.in_ok-attr.attr in
    built φ first.place (node first xs) kind a c.in_ok-comma.field-0
    (subst (λ (y : Expr). Judges φ y.place (node y xs) (Ok a)) c.deref-2.ensures
    (subst (λ (ys : List Expr). Judges φ c.deref-2.result.now.place (node c.deref-2.result.now ys) (Ok a)) c.as_slice.ensures.value (c.in_ok-attr.ensures φ)))
    ((rw c.deref.ensures at c.in_ok-comma.ensures) ∙ ap (λ l. k.Is first.place (view_attr a) (k.Comma (exprs_of l))) c.in_ok-parts.ensures)
