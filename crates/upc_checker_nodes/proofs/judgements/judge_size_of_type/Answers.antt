use Rattle.std.proofs.Common.{sym, ◌∙◌}
use Rattle.std.proofs.lemmas.Result.{err_from_is_err_and}
use Rattle.typing_rules.specs.Attributes.{Facts}
use Rattle.typing_rules.specs.Nodes as n
use Rattle.typing_rules.specs.layer.Views.{view_formed}
use Rattle.upc_checker_scopes.specs.layer.Views.{facts_of}
use Rattle.upc_checker_nodes.proofs.Finished.{refuses, judges, type_sized}
use Rattle.upc_checker_nodes.proofs.judgements.judge_size_of_type.Goals as goal

pub returns-in_err-judged : goal.returns-in_err-judged
returns-in_err-judged c =
    let φ : Facts = facts_of c.args.setting c.args.known.now in
    let x : n.Node = n.SizeOfType c.args.op (view_formed c.args.t.now) in
    let p = err_from_is_err_and c.from_residual.result c.from_residual.ensures.1 in
    refuses φ c.args.at x c.size_of_type.result c.from_residual.result c.in_err-judged.field-0.0 p.0 p.1 p.2 (c.size_of_type.ensures c.args.setting.threads) c.in_err-judged.ensures.err

pub returns : goal.returns
returns c =
    let φ : Facts = facts_of c.args.setting c.args.known.now in
    let x : n.Node = n.SizeOfType c.args.op (view_formed c.args.t.now) in
    judges φ c.args.at x c.size_of_type.result c.size_of_type-attr.result (c.size_of_type.ensures c.args.setting.threads) c.in_ok-judged.ensures.ok (c.size_of_type-attr.ensures)

pub size_of_type-attr-requires-clause-sized : goal.size_of_type-attr-requires-clause-sized
size_of_type-attr-requires-clause-sized c =
    let φ : Facts = facts_of c.args.setting c.args.known.now in
    type_sized φ c.args.op (view_formed c.args.t.now) (sym (c.size_of_type.ensures c.args.setting.threads) ∙ c.in_ok-judged.ensures.ok)
