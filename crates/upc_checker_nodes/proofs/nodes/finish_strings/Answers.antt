use Rattle.std.proofs.Common.{◌∷◌, ap, ◌∙◌, subst}
use Rattle.std.proofs.lemmas.Result.{err_from_is_err_and}
use Rattle.typing_rules.specs.Attributes.{Facts}
use Rattle.typing_rules.specs.Nodes as n
use Rattle.typing_rules.specs.Nodes.{view_attr}
use Rattle.typing_rules.specs.layer.Views.{view_use}
use Rattle.typed_tree.specs.Tree as k
use Rattle.upc_checker_nodes.specs.Parts as parts
use Rattle.upc_checker_scopes.specs.layer.Finishes.{Refuses}
use Rattle.upc_checker_nodes.proofs.Finished.{judges, unbuilt, built}
use Rattle.upc_checker_nodes.proofs.nodes.finish_strings.Goals as goal

pub returns-in_err-judged : goal.returns-in_err-judged
returns-in_err-judged c =
    λ φ.
    let at = c.args.first.now.span.place in
    let x : n.Node = n.Strings (view_use c.args.how) in
    let kind = k.Format (parts.joined (c.args.first.now ∷ c.args.more.now)) in
    let e = c.in_err-judged.field-0.0 in
    let p = err_from_is_err_and c.from_residual.result c.from_residual.ensures.1 in
    unbuilt φ at x kind c.from_residual.result e p.0 p.1 p.2 (subst (λ o. Refuses o at e) (c.strings.ensures φ) c.in_err-judged.ensures.err)

pub returns : goal.returns
returns c =
    λ φ.
    let at = c.args.first.now.span.place in
    let x : n.Node = n.Strings (view_use c.args.how) in
    let kind = k.Format (parts.joined (c.args.first.now ∷ c.args.more.now)) in
    let a = c.strings-2.result in
    built φ at x kind a c.in_ok-format.field-0 (judges φ at x c.strings.result a (c.strings.ensures φ) c.in_ok-judged.ensures.ok (c.strings-2.ensures φ (view_use c.args.how)))
    (c.in_ok-format.ensures ∙ ap (λ t. k.Is at (view_attr a) (k.Format t)) c.in_ok-text.ensures)
