use Rattle.std.proofs.Common.{sym, ap, ◌∙◌}
use Rattle.upc_tree.specs.Expression as t
use Rattle.upc_tree.specs.layer.View.{view}
use Rattle.typed_tree.specs.layer.ViewEnv.{view_env}
use Rattle.typed_tree.specs.ViewTree.{view_expr}
use Rattle.typing_rules.specs.layer.Views.{view_use}
use Rattle.upc_checker_scopes.specs.layer.Ends.{boxed}
use Rattle.upc_checker_scopes.specs.Walk.{facts_in}
use Rattle.upc_checker_expressions.specs.Expressions.{walk}
use Rattle.upc_checker_scopes.specs.layer.Views.{view_setting}
use Rattle.upc_checker_scopes.proofs.Steps.{of_form, ends}
use Rattle.upc_checker_expressions.proofs.expressions.walk_leaf.Goals as goal

pub returns-in-Name : goal.returns-in-Name
returns-in-Name c = λ s.
    let ξ = view_setting c.args.setting in
    of_form (walk ξ (view_env c.args.env.now) (view_use c.args.how)) (boxed view_expr) (view c.args.e.now) (t.Named c.in-Name.name) s s c.finish_name.result (ap view c.in-Name.is)
    (ends ξ _ _ _ s (c.finish_name.ensures (facts_in ξ s)))

pub returns-in-Number : goal.returns-in-Number
returns-in-Number c = λ s.
    let ξ = view_setting c.args.setting in
    of_form (walk ξ (view_env c.args.env.now) (view_use c.args.how)) (boxed view_expr) (view c.args.e.now) (t.Number c.in-Number.value c.in-Number.kind c.in-Number.span) s s c.finish_number.result (ap view c.in-Number.is)
    (ends ξ _ _ _ s (c.finish_number.ensures (facts_in ξ s)))

pub returns-in-Character : goal.returns-in-Character
returns-in-Character c = λ s.
    let ξ = view_setting c.args.setting in
    of_form (walk ξ (view_env c.args.env.now) (view_use c.args.how)) (boxed view_expr) (view c.args.e.now) (t.Character c.in-Character.value c.in-Character.span) s s c.finish_character.result (ap view c.in-Character.is)
    (ends ξ _ _ _ s (c.finish_character.ensures (facts_in ξ s)))

pub returns-in-Strings : goal.returns-in-Strings
returns-in-Strings c = λ s.
    let ξ = view_setting c.args.setting in
    let all = ap view c.in-Strings.is ∙ ap (t.Strings c.in-Strings.first) (sym c.as_slice.ensures.value) in
    of_form (walk ξ (view_env c.args.env.now) (view_use c.args.how)) (boxed view_expr) (view c.args.e.now) (t.Strings c.in-Strings.first c.as_slice.result.now) s s c.finish_strings.result all
    (ends ξ _ _ _ s (c.finish_strings.ensures (facts_in ξ s)))

pub returns-in-Constant : goal.returns-in-Constant
returns-in-Constant c = λ s.
    let ξ = view_setting c.args.setting in
    of_form (walk ξ (view_env c.args.env.now) (view_use c.args.how)) (boxed view_expr) (view c.args.e.now) (t.Constant c.in-Constant.word c.in-Constant.span) s s c.finish_constant.result (ap view c.in-Constant.is)
    (ends ξ _ _ _ s (c.finish_constant.ensures (facts_in ξ s)))
