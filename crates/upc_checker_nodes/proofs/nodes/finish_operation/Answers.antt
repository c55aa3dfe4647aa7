use Rattle.std.proofs.lemmas.Result.{err_from_is_err_and}
use Rattle.typing_rules.specs.Attributes.{Facts}
use Rattle.typing_rules.specs.Nodes as n
use Rattle.typing_rules.specs.Nodes.{view_attr}
use Rattle.upc_checker_scopes.specs.layer.Views.{facts_of}
use Rattle.typed_tree.specs.Tree as k
use Rattle.typed_tree.specs.ViewTree.{view_expr}
use Rattle.upc_checker_nodes.proofs.Finished.{unbuilt, built}
use Rattle.upc_checker_nodes.proofs.nodes.finish_operation.Goals as goal

pub returns-in_err-attr : goal.returns-in_err-attr
returns-in_err-attr c =
    let φ : Facts = facts_of c.args.setting c.args.known.now in
    let x : n.Node = n.Binary c.args.op (view_attr c.args.a.value.attr) (view_attr c.args.b.value.attr) in
    let kind = k.Binary c.args.op (view_expr c.args.a.value) (view_expr c.args.b.value) in
    let p = err_from_is_err_and c.from_residual.result c.from_residual.ensures.1 in
    unbuilt φ c.args.a.value.place x kind c.from_residual.result c.in_err-attr.field-0.0 p.0 p.1 p.2 (rw (c.deref-2.ensures, c.deref-3.ensures) at (c.in_err-attr.ensures))

pub returns : goal.returns
returns c =
    let φ : Facts = facts_of c.args.setting c.args.known.now in
    let x : n.Node = n.Binary c.args.op (view_attr c.args.a.value.attr) (view_attr c.args.b.value.attr) in
    let kind = k.Binary c.args.op (view_expr c.args.a.value) (view_expr c.args.b.value) in
    built φ c.args.a.value.place x kind c.in_ok-attr.attr c.in_ok-binary.field-0 (rw (c.deref-2.ensures, c.deref-3.ensures) at (c.in_ok-attr.ensures)) (rw c.deref.ensures at c.in_ok-binary.ensures)
