use Rattle.std.proofs.lemmas.Result.{err_from_is_err_and}
use Rattle.typing_rules.specs.Attributes.{Facts}
use Rattle.typing_rules.specs.Nodes as n
use Rattle.typing_rules.specs.Nodes.{view_attr}
use Rattle.typing_rules.specs.layer.Views.{view_use, view_meaning}
use Rattle.upc_checker_nodes.proofs.Finished.{refuses, judges}
use Rattle.upc_checker_nodes.proofs.judgements.judge_name.Goals as goal

pub returns-in_err-judged : goal.returns-in_err-judged
returns-in_err-judged c =
    λ φ.
    let x : n.Node = n.Name (view_use c.args.how) (view_meaning c.args.means) in
    let p = err_from_is_err_and c.from_residual.result c.from_residual.ensures.1 in
    refuses φ c.args.at x c.name.result c.from_residual.result c.in_err-judged.field-0.0 p.0 p.1 p.2 (c.name.ensures φ) c.in_err-judged.ensures.err

pub returns : goal.returns
returns c =
    λ φ.
    let x : n.Node = n.Name (view_use c.args.how) (view_meaning c.args.means) in
    judges φ c.args.at x c.name.result c.in_ok-attr.attr (c.name.ensures φ) c.in_ok-judged.ensures.ok (c.in_ok-attr.ensures φ (view_use c.args.how))
