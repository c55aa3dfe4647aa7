use Rattle.std.proofs.Common.{map, ap, ◌∙◌}
use Rattle.std.proofs.lemmas.Result.{err_from_is_err_and}
use Rattle.upc_tree.specs.layer.View.{view}
use Rattle.typing_rules.specs.Attributes.{Facts}
use Rattle.typing_rules.specs.Nodes as n
use Rattle.typing_rules.specs.Nodes.{view_attr}
use Rattle.typing_rules.specs.Rules.{lowest}
use Rattle.typed_tree.specs.Tree.{exprs_of, attrs_of}
use Rattle.typed_tree.specs.ViewTree.{view_expr, attr_seen}
use Rattle.typing_rules.specs.layer.Views.{view_meaning, view_use, view_text}
use Rattle.upc_checker_nodes.specs.Called as calls
use Rattle.upc_checker_nodes.specs.Parts as parts
use Rattle.upc_checker_scopes.specs.layer.Views.{facts_of, view_setting}
use Rattle.upc_checker_nodes.proofs.Finished.{refuses, judges, seen_attrs}
use Rattle.upc_checker_nodes.proofs.judgements.judge_call.Goals as goal

pub returns-in_err-judged : goal.returns-in_err-judged
returns-in_err-judged c =
    let φ : Facts = facts_of c.args.setting c.args.known.now in
    let H = view_use c.args.how in
    let M = view_meaning c.args.means in
    let R = calls.runs (view_setting c.args.setting) (view c.args.callee.now) in
    let xs = c.args.args.now in
    let format = parts.format_in (exprs_of (map view_expr xs)) in
    let all = attrs_of (exprs_of (map view_expr xs)) in
    let rule =
    c.call-rule.ensures c.args.setting.threads ∙ ap (λ r. lowest φ (n.Call H M r (view_text c.format_in.result) (map attr_seen xs))) c.runs-runs.ensures
    ∙ ap (λ f. lowest φ (n.Call H M R f (map attr_seen xs))) c.format_in.ensures ∙ ap (λ ys. lowest φ (n.Call H M R format ys)) (seen_attrs xs) in
    let x : n.Node = n.Call H M R format all in
    let p = err_from_is_err_and c.from_residual.result c.from_residual.ensures.1 in
    refuses φ c.args.at x c.call-rule.result c.from_residual.result c.in_err-judged.field-0.0 p.0 p.1 p.2 rule c.in_err-judged.ensures.err

pub returns : goal.returns
returns c =
    let φ : Facts = facts_of c.args.setting c.args.known.now in
    let H = view_use c.args.how in
    let M = view_meaning c.args.means in
    let R = calls.runs (view_setting c.args.setting) (view c.args.callee.now) in
    let xs = c.args.args.now in
    let format = parts.format_in (exprs_of (map view_expr xs)) in
    let all = attrs_of (exprs_of (map view_expr xs)) in
    let rule =
    c.call-rule.ensures c.args.setting.threads ∙ ap (λ r. lowest φ (n.Call H M r (view_text c.format_in.result) (map attr_seen xs))) c.runs-runs.ensures
    ∙ ap (λ f. lowest φ (n.Call H M R f (map attr_seen xs))) c.format_in.ensures ∙ ap (λ ys. lowest φ (n.Call H M R format ys)) (seen_attrs xs) in
    let x : n.Node = n.Call H M R format all in
    judges φ c.args.at x c.call-rule.result c.in_ok-attr.attr rule c.in_ok-judged.ensures.ok (c.in_ok-attr.ensures φ R format all)
