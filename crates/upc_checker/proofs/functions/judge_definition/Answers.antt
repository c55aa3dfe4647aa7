use Rattle.std.proofs.Common.{◌≡◌, ◌+◌, length, sym, ap, ◌∙◌, subst, arith}
use Rattle.std.proofs.lemmas.Grind.{common_steps}
use Rattle.std.proofs.lemmas.List.{length-map}
use Rattle.upc_types.specs.View.{view}
use Rattle.typed_tree.specs.Scopes.{State}
use Rattle.upc_checker_scopes.specs.Counts.{ended, with_more}
use Rattle.upc_checker_scopes.specs.layer.Ends.{Comes}
use Rattle.std.proofs.lemmas.Result.{err_from_is_err_and}
use Rattle.typing_rules.specs.Nodes.{Defines}
use Rattle.typing_rules.specs.layer.Views.{view_signature}
use Rattle.upc_checker_scopes.specs.layer.Views.{view_setting, state_with}
use Rattle.upc_checker_scopes.specs.Walk.{judge, facts_in}
use Rattle.upc_checker_scopes.proofs.Walks.{judge_goes, judge_stops}
use Rattle.upc_checker.proofs.functions.judge_definition.Goals as goal

pub returns-in_err-judged : goal.returns-in_err-judged
returns-in_err-judged c = λ tags.
    let ξ = view_setting c.args.setting in
    let s = state_with tags c.args.known.now in
    let x = Defines c.args.was.again c.args.was.differs c.args.forms (view_signature c.args.signature.now) in
    let rule = c.defines.ensures (facts_in ξ s) in
    let p = err_from_is_err_and c.from_residual.result c.from_residual.ensures.1 in
    rw (p.1, p.2) (judge_stops ξ c.args.at x s c.defines.result c.in_err-judged.field-0.0 rule c.in_err-judged.ensures.err)

pub returns : goal.returns
returns c = λ tags.
    let ξ = view_setting c.args.setting in
    let s = state_with tags c.args.known.now in
    let sig = view_signature c.args.signature.now in
    let x = Defines c.args.was.again c.args.was.differs c.args.forms sig in
    let rule = c.defines.ensures (facts_in ξ s) in
    let few = length-map c.args.signature.now.parameters.items view in
    let count : c.in_ok-more.more ≡ 1 + length sig.parameters = grind (arith, common_steps, few, c.len.ensures, c.args.signature.now.parameters.ok, c.try_from.ensures, c.in_ok-parameters.ensures.cases, c.map_err.ensures.cases, c.checked_add.ensures, c.in_ok-more.ensures.value) in
    let after = c.note_end.ensures tags ∙ ap (ended 65535 c.args.at) (c.in_ok-note_more.ensures.ok tags ∙ ap (λ n. with_more n s) count) in
    subst (λ (u : State). Comes (judge ξ c.args.at x s) u (tt {0})) (sym after) (judge_goes ξ c.args.at x s c.defines.result rule c.in_ok-judged.ensures.ok)
