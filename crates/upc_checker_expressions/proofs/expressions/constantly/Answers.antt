use Rattle.std.proofs.Common.{Ok, refl}
use Rattle.typing_rules.specs.declared.attribute.Constant.{Constant}
use Rattle.typing_rules.specs.Nodes as n
use Rattle.typing_rules.specs.Nodes.{view_attr}
use Rattle.typed_tree.specs.ViewTree.{view_expr}
use Rattle.upc_checker_scopes.specs.Walk.{facts_in}
use Rattle.upc_checker_expressions.specs.Expressions.{constantly}
use Rattle.upc_checker_scopes.specs.layer.Views.{view_setting}
use Rattle.upc_checker_scopes.proofs.Walks.{judge_goes, judge_stops}
use Rattle.upc_checker_scopes.proofs.Steps.{next, stopped, given, of_form}
use Rattle.upc_checker_expressions.proofs.expressions.constantly.Goals as goal

pub returns-in_err-judged : goal.returns-in_err-judged
returns-in_err-judged c = λ s.
    let ξ = view_setting c.args.setting in
    let a = c.args.a.now in
    let x = n.Constantly (view_attr a.attr) in
    of_form (constantly ξ) (λ (v : Constant). v) (view_expr a) (view_expr a) s s c.from_residual.result refl
    (stopped _ _ s _ c.from_residual.ensures.1 (judge_stops ξ a.place x s c.constantly.result _ (c.constantly.ensures (facts_in ξ s)) c.in_err-judged.ensures.err))

pub returns : goal.returns
returns c = λ s.
    let ξ = view_setting c.args.setting in
    let a = c.args.a.now in
    let x = n.Constantly (view_attr a.attr) in
    of_form (constantly ξ) (λ (v : Constant). v) (view_expr a) (view_expr a) s s (Ok a.attr.constant) refl
    (next _ _ (judge_goes ξ a.place x s c.constantly.result (c.constantly.ensures (facts_in ξ s)) c.in_ok-judged.ensures.ok) (given refl))
