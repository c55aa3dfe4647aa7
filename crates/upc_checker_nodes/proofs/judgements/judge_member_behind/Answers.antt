use Rattle.std.proofs.Common.{sym, ◌∙◌}
use Rattle.std.proofs.lemmas.Result.{err_from_is_err_and}
use Rattle.typing_rules.specs.Attributes.{Facts, base, target_index}
use Rattle.typing_rules.specs.Values.{base_target}
use Rattle.typing_rules.specs.Nodes as n
use Rattle.typing_rules.specs.Nodes.{view_attr}
use Rattle.upc_checker_scopes.specs.layer.Views.{facts_of}
use Rattle.upc_checker_nodes.proofs.Finished.{refuses_member}
use Rattle.upc_checker_nodes.proofs.judgements.judge_member_behind.Goals as goal

pub returns-in_err-judged : goal.returns-in_err-judged
returns-in_err-judged c =
    let φ : Facts = facts_of c.args.setting c.args.known.now in
    let x : n.Node = n.MemberBehind (view_attr c.args.a.now.attr) c.args.name.now in
    let index = target_index φ.structs (base_target (base (view_attr c.args.a.now.attr))) c.args.name.now in
    let p = err_from_is_err_and c.from_residual.result c.from_residual.ensures.1 in
    refuses_member φ c.args.a.now.place x index c.member_behind.result c.from_residual.result c.in_err-judged.field-0.0 p.0 p.1 p.2 (c.member_behind.ensures c.args.setting.threads) c.in_err-judged.ensures.err

pub returns : goal.returns
returns c =
    (sym (c.member_behind.ensures c.args.setting.threads) ∙ c.in_ok-judged.ensures.ok, c.in_ok-member.ensures.attr c.args.setting.threads, c.in_ok-member.ensures.index)
