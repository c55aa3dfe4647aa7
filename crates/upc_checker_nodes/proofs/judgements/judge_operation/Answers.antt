use Rattle.std.proofs.Common.{sym, ◌∙◌}
use Rattle.std.proofs.lemmas.Result.{err_from_is_err_and}
use Rattle.typing_rules.specs.Attributes.{Facts}
use Rattle.typing_rules.specs.Nodes as n
use Rattle.typing_rules.specs.Nodes.{view_attr}
use Rattle.upc_checker_scopes.specs.layer.Views.{facts_of}
use Rattle.upc_checker_nodes.proofs.Finished.{refuses, judges, moves_sized}
use Rattle.upc_checker_nodes.proofs.judgements.judge_operation.Goals as goal

pub returns-in_err-judged : goal.returns-in_err-judged
returns-in_err-judged c =
    let φ : Facts = facts_of c.args.setting c.args.known.now in
    let x : n.Node = n.Binary c.args.op (view_attr c.args.a.now.attr) (view_attr c.args.b.now.attr) in
    let p = err_from_is_err_and c.from_residual.result c.from_residual.ensures.1 in
    refuses φ c.args.a.now.place x c.binary.result c.from_residual.result c.in_err-judged.field-0.0 p.0 p.1 p.2 (c.binary.ensures c.args.setting.threads) c.in_err-judged.ensures.err

pub returns : goal.returns
returns c =
    let φ : Facts = facts_of c.args.setting c.args.known.now in
    let x : n.Node = n.Binary c.args.op (view_attr c.args.a.now.attr) (view_attr c.args.b.now.attr) in
    judges φ c.args.a.now.place x c.binary.result c.in_ok-attr.attr (c.binary.ensures c.args.setting.threads) c.in_ok-judged.ensures.ok (c.in_ok-attr.ensures)

pub binary-requires-2-clause-sized : goal.binary-requires-2-clause-sized
binary-requires-2-clause-sized c =
    let φ : Facts = facts_of c.args.setting c.args.known.now in
    moves_sized φ c.args.op (view_attr c.args.a.now.attr) (view_attr c.args.b.now.attr) (sym (c.binary.ensures c.args.setting.threads) ∙ c.in_ok-judged.ensures.ok)
