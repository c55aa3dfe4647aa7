use Rattle.std.proofs.Common.{subst, Ok, Err}
use Rattle.std.proofs.lemmas.Result.{err_from_is_err_and}
use Rattle.typing_rules.specs.Attributes.{Facts}
use Rattle.typing_rules.specs.Nodes as n
use Rattle.typing_rules.specs.Nodes.{view_attr}
use Rattle.typed_tree.specs.declared.tree.Expr.{Expr}
use Rattle.typed_tree.specs.Tree as k
use Rattle.typed_tree.specs.ViewTree.{view_expr}
use Rattle.upc_checker_scopes.specs.layer.Finishes.{Judges, Finishes}
use Rattle.upc_checker_scopes.specs.layer.Views.{facts_of}
use Rattle.upc_checker_nodes.proofs.Finished.{unbuilt, built}
use Rattle.upc_checker_nodes.proofs.nodes.finish_size_of.Goals as goal

pub returns-in_err-attr : goal.returns-in_err-attr
returns-in_err-attr c =
    let φ : Facts = facts_of c.args.setting c.args.known.now in
    let op = c.size_operator-op.result in
    let a = c.args.a.value in
    let x : n.Node = n.SizeOf op (view_attr a.attr) in
    let kind = k.SizeOf op (view_expr a) in
    let e = c.in_err-attr.field-0.0 in
    let p = err_from_is_err_and c.from_residual.result c.from_residual.ensures.1 in
    let r = c.from_residual.result in
    subst (λ o. Finishes φ c.args.at (n.SizeOf o (view_attr a.attr)) (k.SizeOf o (view_expr a)) r) c.size_operator-op.ensures
    (unbuilt φ c.args.at x kind r e p.0 p.1 p.2 (subst (λ (b : Expr). Judges φ c.args.at (n.SizeOf op (view_attr b.attr)) (Err e)) c.deref.ensures c.in_err-attr.ensures))

pub returns : goal.returns
returns c =
    let φ : Facts = facts_of c.args.setting c.args.known.now in
    let op = c.size_operator-op.result in
    let a = c.args.a.value in
    let x : n.Node = n.SizeOf op (view_attr a.attr) in
    let kind = k.SizeOf op (view_expr a) in
    let t = c.in_ok-attr.attr in
    let r = c.in_ok-size_of.field-0 in
    subst (λ o. Finishes φ c.args.at (n.SizeOf o (view_attr a.attr)) (k.SizeOf o (view_expr a)) (Ok r)) c.size_operator-op.ensures
    (built φ c.args.at x kind t r (subst (λ (b : Expr). Judges φ c.args.at (n.SizeOf op (view_attr b.attr)) (Ok t)) c.deref.ensures c.in_ok-attr.ensures) c.in_ok-size_of.ensures)
