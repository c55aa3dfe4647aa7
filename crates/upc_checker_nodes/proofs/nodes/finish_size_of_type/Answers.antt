use Rattle.std.proofs.Common.{ap, ◌∙◌, subst, Ok}
use Rattle.std.proofs.lemmas.Result.{err_from_is_err_and}
use Rattle.typing_rules.specs.Attributes.{Facts}
use Rattle.typing_rules.specs.Nodes as n
use Rattle.typing_rules.specs.Nodes.{view_attr}
use Rattle.typing_rules.specs.layer.Views.{view_formed}
use Rattle.typed_tree.specs.Tree as k
use Rattle.upc_checker_scopes.specs.layer.Finishes.{Finishes}
use Rattle.upc_checker_scopes.specs.layer.Views.{facts_of}
use Rattle.upc_checker_nodes.proofs.Finished.{unbuilt, built}
use Rattle.upc_checker_nodes.proofs.nodes.finish_size_of_type.Goals as goal

pub returns-in_err-attr : goal.returns-in_err-attr
returns-in_err-attr c =
    let φ : Facts = facts_of c.args.setting c.args.known.now in
    let op = c.size_operator-op.result in
    let t = view_formed c.args.t in
    let x : n.Node = n.SizeOfType op t in
    let kind = k.SizeOfType op t.ctype in
    let p = err_from_is_err_and c.from_residual.result c.from_residual.ensures.1 in
    let r = c.from_residual.result in
    subst (λ o. Finishes φ c.args.at (n.SizeOfType o t) (k.SizeOfType o t.ctype) r) c.size_operator-op.ensures
    (unbuilt φ c.args.at x kind r c.in_err-attr.field-0.0 p.0 p.1 p.2 c.in_err-attr.ensures)

pub returns : goal.returns
returns c =
    let φ : Facts = facts_of c.args.setting c.args.known.now in
    let op = c.size_operator-op.result in
    let t = view_formed c.args.t in
    let x : n.Node = n.SizeOfType op t in
    let kind = k.SizeOfType op t.ctype in
    let a = c.in_ok-attr.attr in
    let r = c.in_ok-size_of_type.field-0 in
    subst (λ o. Finishes φ c.args.at (n.SizeOfType o t) (k.SizeOfType o t.ctype) (Ok r)) c.size_operator-op.ensures
    (built φ c.args.at x kind a r c.in_ok-attr.ensures (c.in_ok-size_of_type.ensures ∙ ap (λ u. k.Is c.args.at (view_attr a) (k.SizeOfType op u)) c.in_ok-operand.ensures))
