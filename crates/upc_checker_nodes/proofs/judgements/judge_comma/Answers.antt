use Rattle.std.proofs.Common.{map, ap, ◌∙◌}
use Rattle.std.proofs.lemmas.Result.{err_from_is_err_and}
use Rattle.typing_rules.specs.Attributes.{attr}
use Rattle.typing_rules.specs.Nodes as n
use Rattle.typing_rules.specs.Rules.{lowest}
use Rattle.typed_tree.specs.Tree.{exprs_of}
use Rattle.typed_tree.specs.ViewTree.{view_expr}
use Rattle.upc_checker_nodes.specs.Parts as parts
use Rattle.upc_checker_nodes.proofs.Finished.{refuses, judges}
use Rattle.upc_checker_nodes.proofs.judgements.judge_comma.Goals as goal

pub returns-in_err-judged : goal.returns-in_err-judged
returns-in_err-judged c =
    λ φ.
    let xs = exprs_of (map view_expr c.args.more.now) in
    let first = c.args.first.now in
    let x : n.Node = n.Comma (parts.last_of (view_expr first) xs) in
    let p = err_from_is_err_and c.from_residual.result c.from_residual.ensures.1 in
    refuses φ first.place x c.comma.result c.from_residual.result c.in_err-judged.field-0.0 p.0 p.1 p.2 (c.comma.ensures φ ∙ ap (λ a. lowest φ (n.Comma a)) c.last_of-last.ensures) c.in_err-judged.ensures.err

pub returns : goal.returns
returns c =
    λ φ.
    let xs = exprs_of (map view_expr c.args.more.now) in
    let first = c.args.first.now in
    let x : n.Node = n.Comma (parts.last_of (view_expr first) xs) in
    judges φ first.place x c.comma.result c.in_ok-attr.attr (c.comma.ensures φ ∙ ap (λ a. lowest φ (n.Comma a)) c.last_of-last.ensures) c.in_ok-judged.ensures.ok
    (c.in_ok-attr.ensures.comma φ ∙ ap (λ a. attr φ (n.Comma a)) c.last_of-last.ensures)
