use Rattle.std.proofs.Common.{ℕ, ◌+◌, ◌<◌, ◌≤◌, List, [], ◌∷◌, ◌++◌, map, length, drop, Vec, Global, Ok, Err, refl, sym, ap, ◌∙◌, subst, arith, false}
use Rattle.std.proofs.lemmas.Result.{err_from_is_err_and}
use denote.Param.Weighed.{at_most, most}
use Rattle.upc_tree.specs.declared.expression.Expr.{Expr as Tree}
use Rattle.upc_tree.specs.declared.expression.Arguments.{Arguments as ArgumentsTree}
use Rattle.upc_tree.specs.declared.expression.Layout.{Layout as LayoutTree}
use Rattle.upc_tree.specs.declared.expression.Declarator.{Declarator as DeclaratorTree}
use Rattle.upc_tree.specs.declared.expression.Parameters.{Parameters as ParametersTree}
use Rattle.upc_tree.specs.declared.expression.NextParameter.{out-NextParameter}
use Rattle.upc_tree.specs.declared.expression.TypeName.{TypeName as TypeTree, out-TypeName}
use Rattle.upc_tree.specs.declared.expression.Spec.{Spec}
use Rattle.upc_tree.specs.declared.expression.Member.{out-Member}
use Rattle.upc_tree.specs.declared.expression.Parameter.{Parameter as ParameterTree, out-Parameter}
use Rattle.upc_tree.specs.Expression as tree
use Rattle.upc_tree.specs.layer.Lists.{members_of, specs_of}
use Rattle.upc_tree.specs.layer.View.{view, view_arguments, view_array, view_declarator, view_dimensions, view_layout, view_member, view_members, view_next_declarators, view_next_exprs, view_next_parameters, view_parameter, view_parameters, view_pointers, view_qual, view_spec, view_specs, view_type}
use Rattle.upc_tree.proofs.expression.Dimension.TheLaws as dimension
use Rattle.upc_tree.proofs.expression.Member.TheLaws as line
use Rattle.upc_tree.proofs.expression.NextDeclarator.TheLaws as declarator
use Rattle.upc_tree.proofs.expression.Pointer.TheLaws as pointer
use Rattle.upc_tree.proofs.Rows.{comma_is, filled_is, function_is, object_is, parameter_is, parameters_is, struct_is, type_is}
use Rattle.upc_types.specs.declared.ctype.CType.{CType}
use Rattle.upc_types.specs.Types.{Member}
use Rattle.upc_types.specs.View as types
use Rattle.typing_rules.specs.declared.attribute.Constant.{Constant}
use Rattle.typed_tree.specs.declared.tree.Expr.{Expr as RustExpr}
use Rattle.typing_rules.specs.Nodes as n
use Rattle.typing_rules.specs.Nodes.{view_attr}
use Rattle.typed_tree.specs.Scopes.{Tag}
use Rattle.typed_tree.specs.Tree as k
use Rattle.typed_tree.specs.Tree.{attrs_of, exprs_of}
use Rattle.typed_tree.specs.layer.ViewEnv.{view_env}
use Rattle.typed_tree.specs.ViewTree.{view_expr}
use Rattle.typing_rules.specs.layer.Views.{view_formed, view_meaning, view_use}
use Rattle.upc_checker_types.specs.declared.specified.Blocks.TheVariants as blocks
use Rattle.upc_checker_types.specs.declared.specified.Qualifier.TheVariants as qualifier
use Rattle.upc_checker_types.specs.declared.specified.Specifier.TheVariants as specifier
use Rattle.upc_checker_scopes.specs.Walk.{facts_in}
use Rattle.upc_checker_scopes.specs.layer.Ends.{boxed}
use Rattle.upc_checker_scopes.specs.layer.Finishes.{Finishes}
use Rattle.typing_rules.specs.Rules.{lowest}
use Rattle.upc_checker_nodes.specs.Marks.{right_use}
use Rattle.upc_checker_types.specs.Specifiers as layout
use Rattle.upc_checker_types.specs.Specifiers.{Shaped, both_quals, both_specified}
use Rattle.upc_checker_types.specs.Shapes.{in_type}
use Rattle.upc_checker_types.specs.Members.{Declared, has_member, with_member}
use Rattle.upc_checker_nodes.specs.Called.{called, called_name, first_use, runs, target_by}
use Rattle.upc_checker_scopes.specs.Places.{declarator_place, specs_place}
use Rattle.upc_checker_nodes.specs.Parts.{format_in}
use Rattle.upc_checker_expressions.specs.Expressions.{constantly, walk, walk_arguments, walk_array, walk_layout, walk_member, walk_parameter, walk_parameters, walk_qual, walk_spec, walk_specifiers, walk_type}
use Rattle.upc_checker_scopes.specs.layer.Views.{state_of, state_with, view_setting}
use Rattle.upc_checker_types.specs.layer.ViewShapes.{view_blocks, view_qualifier, view_quals, view_shaped, view_specified, view_specifier, view_specifying}
use Rattle.upc_checker_scopes.specs.layer.ViewTags.{view_tags}
use Rattle.upc_checker_nodes.specs.layer.ViewUses.{view_uses}
use Rattle.upc_checker_scopes.proofs.Walks.{judge_goes, judge_stops}
use Rattle.upc_checker_expressions.proofs.Lists.{front}
use Rattle.upc_checker_scopes.proofs.Steps.{arrives, ends, given, moved, moved_stop, next, of_form, stopped}
use Rattle.upc_checker_expressions.proofs.Sizes.{others_of_line, sizes_of_type, stars_of_parameter, stars_of_type}
use Rattle.upc_checker_expressions.proofs.Walked.{assign_ends, assign_stops, call_ends, call_stops, filled_ends, filled_stops, function_is_none, function_stops, line_goes, line_stops, line_stops_at_first, line_stops_at_others, line_stops_itself, member_ends, member_stops, parameter_ends, parameter_stops, parameter_stops_at_array, parameter_stops_at_stars, parameter_stops_itself, specifiers_end, specifiers_stop, type_ends, type_stops, type_stops_at_sizes, type_stops_at_stars}
use Rattle.upc_checker_expressions.proofs.Rest.{all_specifiers, declarators_step, declarators_stop, lines_step, lines_stop, more_begins, more_ends, more_step, more_stops, parameters_step, parameters_stop, quals_begin, quals_end, quals_step, quals_stop, rest_of_declarators, rest_of_exprs, rest_of_lines, rest_of_parameters, rest_of_quals, rest_of_sizes, rest_of_stars, sizes_begin, sizes_end, sizes_step, sizes_stop, sizes_stop_behind, specs_begin, specs_end, specs_step, specs_stop, stars_step, stars_stop}
use Rattle.upc_checker_expressions.proofs.+walk.Goals as goal

pub expressions::walk-returns-in-Name : goal.expressions::walk-returns-in-Name
expressions::walk-returns-in-Name t c = c.walk_leaf.ensures (state_of c.args.tags.now c.args.known.now)

pub expressions::walk-returns-in-Unary : goal.expressions::walk-returns-in-Unary
expressions::walk-returns-in-Unary t c = c.walk_prefix.ensures (view_use c.args.how)

pub expressions::walk-returns-in-SizeOfType : goal.expressions::walk-returns-in-SizeOfType
expressions::walk-returns-in-SizeOfType t c = c.walk_typed.ensures (view_use c.args.how)

pub expressions::walk-returns-in-Conditional : goal.expressions::walk-returns-in-Conditional
expressions::walk-returns-in-Conditional t c = c.walk_choice.ensures (view_use c.args.how)

pub expressions::walk-returns-in-Binary : goal.expressions::walk-returns-in-Binary
expressions::walk-returns-in-Binary t c = c.walk_infix.ensures (view_use c.args.how)

pub expressions::walk_postfix-returns-in_err-a-in-Paren : goal.expressions::walk_postfix-returns-in_err-a-in-Paren
expressions::walk_postfix-returns-in_err-a-in-Paren t c =
    let ξ = view_setting c.args.setting in
    let Γ = view_env c.args.env.now in
    let s = state_of c.args.tags.now c.args.known.now in
    of_form (walk ξ Γ (view_use c.args.how)) (boxed view_expr) (view c.args.e.now) (tree.Paren c.in-Paren.open (view c.in-Paren.inner.value) c.in-Paren.close) s (state_of c.walk.new.tags c.walk.new.known) c.from_residual.result (ap view c.in-Paren.is)
    (stopped _ _ s _ c.from_residual.ensures.1 (moved_stop (λ (z : Tree). walk ξ Γ (view_use c.args.how) (view z)) c.deref.result.now c.in-Paren.inner.value s _ c.deref.ensures c.in_err-a-in-Paren.ensures))

pub expressions::walk_postfix-returns-in_ok-paren-in-Paren : goal.expressions::walk_postfix-returns-in_ok-paren-in-Paren
expressions::walk_postfix-returns-in_ok-paren-in-Paren t c =
    let ξ = view_setting c.args.setting in
    let Γ = view_env c.args.env.now in
    let s = state_of c.args.tags.now c.args.known.now in
    of_form (walk ξ Γ (view_use c.args.how)) (boxed view_expr) (view c.args.e.now) (tree.Paren c.in-Paren.open (view c.in-Paren.inner.value) c.in-Paren.close) s (state_of c.walk.new.tags c.walk.new.known) (Ok c.in_ok-paren-in-Paren.field-0) (ap view c.in-Paren.is)
    (next _ _ (moved (λ (z : Tree). walk ξ Γ (view_use c.args.how) (view z)) c.deref.result.now c.in-Paren.inner.value _ _ _ c.deref.ensures c.in_ok-a-in-Paren.ensures) (given (sym c.in_ok-paren-in-Paren.ensures)))

pub expressions::walk_postfix-returns-in_err-a-in-Subscript : goal.expressions::walk_postfix-returns-in_err-a-in-Subscript
expressions::walk_postfix-returns-in_err-a-in-Subscript t c =
    let ξ = view_setting c.args.setting in
    let Γ = view_env c.args.env.now in
    let s = state_of c.args.tags.now c.args.known.now in
    of_form (walk ξ Γ (view_use c.args.how)) (boxed view_expr) (view c.args.e.now) (tree.Subscript (view c.in-Subscript.base.value) c.in-Subscript.open (view c.in-Subscript.index.value) c.in-Subscript.close) s (state_of c.walk-in-Subscript.new.tags c.walk-in-Subscript.new.known) c.from_residual-in_err-a-in-Subscript.result (ap view c.in-Subscript.is)
    (stopped _ _ s _ c.from_residual-in_err-a-in-Subscript.ensures.1 (moved_stop (λ (z : Tree). walk ξ Γ n.Indexed (view z)) c.deref-in-Subscript.result.now c.in-Subscript.base.value s _ c.deref-in-Subscript.ensures c.in_err-a-in-Subscript.ensures))

pub expressions::walk_postfix-returns-in_err-i-in-Subscript : goal.expressions::walk_postfix-returns-in_err-i-in-Subscript
expressions::walk_postfix-returns-in_err-i-in-Subscript t c =
    let ξ = view_setting c.args.setting in
    let Γ = view_env c.args.env.now in
    let s = state_of c.args.tags.now c.args.known.now in
    of_form (walk ξ Γ (view_use c.args.how)) (boxed view_expr) (view c.args.e.now) (tree.Subscript (view c.in-Subscript.base.value) c.in-Subscript.open (view c.in-Subscript.index.value) c.in-Subscript.close) s (state_of c.walk-in-Subscript-2.new.tags c.walk-in-Subscript-2.new.known) c.from_residual-in_err-i-in-Subscript.result (ap view c.in-Subscript.is)
    (next _ _ (moved (λ (z : Tree). walk ξ Γ n.Indexed (view z)) c.deref-in-Subscript.result.now c.in-Subscript.base.value _ _ _ c.deref-in-Subscript.ensures c.in_ok-a-in-Subscript.ensures) (stopped _ _ (state_of c.walk-in-Subscript.new.tags c.walk-in-Subscript.new.known) _ c.from_residual-in_err-i-in-Subscript.ensures.1 (moved_stop (λ (z : Tree). walk ξ Γ n.Plain (view z)) c.deref-in-Subscript-2.result.now c.in-Subscript.index.value (state_of c.walk-in-Subscript.new.tags c.walk-in-Subscript.new.known) _ c.deref-in-Subscript-2.ensures c.in_err-i-in-Subscript.ensures)))

pub expressions::walk_postfix-returns-in_ok-i-in-Subscript : goal.expressions::walk_postfix-returns-in_ok-i-in-Subscript
expressions::walk_postfix-returns-in_ok-i-in-Subscript t c =
    let ξ = view_setting c.args.setting in
    let Γ = view_env c.args.env.now in
    let s = state_of c.args.tags.now c.args.known.now in
    of_form (walk ξ Γ (view_use c.args.how)) (boxed view_expr) (view c.args.e.now) (tree.Subscript (view c.in-Subscript.base.value) c.in-Subscript.open (view c.in-Subscript.index.value) c.in-Subscript.close) s (state_of c.walk-in-Subscript-2.new.tags c.walk-in-Subscript-2.new.known) c.finish_subscript.result (ap view c.in-Subscript.is)
    (next _ _ (moved (λ (z : Tree). walk ξ Γ n.Indexed (view z)) c.deref-in-Subscript.result.now c.in-Subscript.base.value _ _ _ c.deref-in-Subscript.ensures c.in_ok-a-in-Subscript.ensures) (next _ _ (moved (λ (z : Tree). walk ξ Γ n.Plain (view z)) c.deref-in-Subscript-2.result.now c.in-Subscript.index.value _ _ _ c.deref-in-Subscript-2.ensures c.in_ok-i-in-Subscript.ensures) (ends ξ _ _ _ (state_of c.walk-in-Subscript-2.new.tags c.walk-in-Subscript-2.new.known) c.finish_subscript.ensures)))

pub expressions::walk_call-returns-in_err-f-in-Call : goal.expressions::walk_call-returns-in_err-f-in-Call
expressions::walk_call-returns-in_err-f-in-Call t c =
    let ξ = view_setting c.args.setting in
    let Γ = view_env c.args.env.now in
    let s = state_of c.args.tags.now c.args.known.now in
    of_form (walk ξ Γ (view_use c.args.how)) (boxed view_expr) (view c.args.e.now) (tree.Call (view c.in-Call.callee.value) c.in-Call.open (view_arguments c.in-Call.arguments.value)) s (state_of c.walk.new.tags c.walk.new.known) c.from_residual.result (ap view c.in-Call.is)
    (stopped _ _ s _ c.from_residual.ensures.1 (moved_stop (λ (z : Tree). walk ξ Γ n.Called (view z)) c.deref.result.now c.in-Call.callee.value s _ c.deref.ensures c.in_err-f-in-Call.ensures))

pub expressions::walk_call-returns-in_err-args-in-Call : goal.expressions::walk_call-returns-in_err-args-in-Call
expressions::walk_call-returns-in_err-args-in-Call t c =
    let ξ = view_setting c.args.setting in
    let Γ = view_env c.args.env.now in
    let s = state_of c.args.tags.now c.args.known.now in
    of_form (walk ξ Γ (view_use c.args.how)) (boxed view_expr) (view c.args.e.now) (tree.Call (view c.in-Call.callee.value) c.in-Call.open (view_arguments c.in-Call.arguments.value)) s (state_of c.walk_arguments.new.tags c.walk_arguments.new.known) c.from_residual-in_err-args-in-Call.result (ap view c.in-Call.is)
    (call_stops ξ Γ (view_use c.args.how) (view c.in-Call.callee.value) c.in-Call.open (view_arguments c.in-Call.arguments.value) s (state_of c.walk.new.tags c.walk.new.known) _ (view_expr c.in_ok-f-in-Call.f.value) (view_meaning c.called-means.result) (view_uses c.uses_by.result) _ c.from_residual-in_err-args-in-Call.result (c.called-means.ensures ∙ ap (λ (z : Tree). called ξ Γ (view z)) c.deref-in-Call.ensures) c.uses_by.ensures (moved (λ (z : Tree). walk ξ Γ n.Called (view z)) c.deref.result.now c.in-Call.callee.value _ _ _ c.deref.ensures c.in_ok-f-in-Call.ensures) (moved_stop (λ (z : ArgumentsTree). walk_arguments ξ Γ (view_uses c.uses_by.result) (view_arguments z)) c.deref-in-Call-2.result.now c.in-Call.arguments.value (state_of c.walk.new.tags c.walk.new.known) _ c.deref-in-Call-2.ensures c.in_err-args-in-Call.ensures) c.from_residual-in_err-args-in-Call.ensures.1)

pub expressions::walk_call-returns : goal.expressions::walk_call-returns
expressions::walk_call-returns t c =
    let ξ = view_setting c.args.setting in
    let Γ = view_env c.args.env.now in
    let s = state_of c.args.tags.now c.args.known.now in
    let after = state_of c.walk_arguments.new.tags c.walk_arguments.new.known in
    let M = view_meaning c.called-means.result in
    let f = c.in_ok-f-in-Call.f.value in
    let xs = exprs_of (map view_expr c.in_ok-args-in-Call.args.items) in
    let done = λ (z : Tree) (e : RustExpr).
    Finishes (facts_in ξ after) e.place (n.Call (view_use c.args.how) M (runs ξ (view z)) (format_in xs) (attrs_of xs)) (k.Call (target_by ξ M (called_name (view z))) xs) c.finish_call.result in
    of_form (walk ξ Γ (view_use c.args.how)) (boxed view_expr) (view c.args.e.now) (tree.Call (view c.in-Call.callee.value) c.in-Call.open (view_arguments c.in-Call.arguments.value)) s after c.finish_call.result (ap view c.in-Call.is)
    (call_ends ξ Γ (view_use c.args.how) (view c.in-Call.callee.value) c.in-Call.open (view_arguments c.in-Call.arguments.value) s (state_of c.walk.new.tags c.walk.new.known) after f M (view_uses c.uses_by.result) xs c.finish_call.result (c.called-means.ensures ∙ ap (λ (z : Tree). called ξ Γ (view z)) c.deref-in-Call.ensures) c.uses_by.ensures (moved (λ (z : Tree). walk ξ Γ n.Called (view z)) c.deref.result.now c.in-Call.callee.value _ _ _ c.deref.ensures c.in_ok-f-in-Call.ensures)
    (moved (λ (z : ArgumentsTree). walk_arguments ξ Γ (view_uses c.uses_by.result) (view_arguments z)) c.deref-in-Call-2.result.now c.in-Call.arguments.value _ _ _ c.deref-in-Call-2.ensures c.in_ok-args-in-Call.ensures)
    (subst (λ (z : Tree). done z f) c.deref-in-Call-3.ensures (subst (λ (e : RustExpr). done c.deref-in-Call-3.result.now e) c.deref-in-Call-4.ensures c.finish_call.ensures)))

pub expressions::walk_postfix-returns-in_err-a-in-Member : goal.expressions::walk_postfix-returns-in_err-a-in-Member
expressions::walk_postfix-returns-in_err-a-in-Member t c =
    let ξ = view_setting c.args.setting in
    let Γ = view_env c.args.env.now in
    let s = state_of c.args.tags.now c.args.known.now in
    of_form (walk ξ Γ (view_use c.args.how)) (boxed view_expr) (view c.args.e.now) (tree.MemberOf (view c.in-Member.base.value) c.in-Member.mark c.in-Member.at c.in-Member.member) s (state_of c.walk-in-Member.new.tags c.walk-in-Member.new.known) c.from_residual-in_err-a-in-Member.result (ap view c.in-Member.is)
    (stopped _ _ s _ c.from_residual-in_err-a-in-Member.ensures.1 (moved_stop (λ (z : Tree). walk ξ Γ n.Plain (view z)) c.deref-in-Member.result.now c.in-Member.base.value s _ c.deref-in-Member.ensures c.in_err-a-in-Member.ensures))

pub expressions::walk_postfix-returns-in_ok-a-in-Member : goal.expressions::walk_postfix-returns-in_ok-a-in-Member
expressions::walk_postfix-returns-in_ok-a-in-Member t c =
    let ξ = view_setting c.args.setting in
    let Γ = view_env c.args.env.now in
    let s = state_of c.args.tags.now c.args.known.now in
    of_form (walk ξ Γ (view_use c.args.how)) (boxed view_expr) (view c.args.e.now) (tree.MemberOf (view c.in-Member.base.value) c.in-Member.mark c.in-Member.at c.in-Member.member) s (state_of c.walk-in-Member.new.tags c.walk-in-Member.new.known) c.finish_member.result (ap view c.in-Member.is)
    (next _ _ (moved (λ (z : Tree). walk ξ Γ n.Plain (view z)) c.deref-in-Member.result.now c.in-Member.base.value _ _ _ c.deref-in-Member.ensures c.in_ok-a-in-Member.ensures) (ends ξ _ _ _ (state_of c.walk-in-Member.new.tags c.walk-in-Member.new.known) c.finish_member.ensures))

pub expressions::walk_postfix-returns-in_err-a-in-Postfix : goal.expressions::walk_postfix-returns-in_err-a-in-Postfix
expressions::walk_postfix-returns-in_err-a-in-Postfix t c =
    let ξ = view_setting c.args.setting in
    let Γ = view_env c.args.env.now in
    let s = state_of c.args.tags.now c.args.known.now in
    of_form (walk ξ Γ (view_use c.args.how)) (boxed view_expr) (view c.args.e.now) (tree.Postfix (view c.in-Postfix.base.value) c.in-Postfix.mark c.in-Postfix.at) s (state_of c.walk-in-Postfix.new.tags c.walk-in-Postfix.new.known) c.from_residual-in_err-a-in-Postfix.result (ap view c.in-Postfix.is)
    (stopped _ _ s _ c.from_residual-in_err-a-in-Postfix.ensures.1 (moved_stop (λ (z : Tree). walk ξ Γ n.Plain (view z)) c.deref-in-Postfix.result.now c.in-Postfix.base.value s _ c.deref-in-Postfix.ensures c.in_err-a-in-Postfix.ensures))

pub expressions::walk_postfix-returns-in_ok-a-in-Postfix : goal.expressions::walk_postfix-returns-in_ok-a-in-Postfix
expressions::walk_postfix-returns-in_ok-a-in-Postfix t c =
    let ξ = view_setting c.args.setting in
    let Γ = view_env c.args.env.now in
    let s = state_of c.args.tags.now c.args.known.now in
    of_form (walk ξ Γ (view_use c.args.how)) (boxed view_expr) (view c.args.e.now) (tree.Postfix (view c.in-Postfix.base.value) c.in-Postfix.mark c.in-Postfix.at) s (state_of c.walk-in-Postfix.new.tags c.walk-in-Postfix.new.known) c.finish_postfix.result (ap view c.in-Postfix.is)
    (next _ _ (moved (λ (z : Tree). walk ξ Γ n.Plain (view z)) c.deref-in-Postfix.result.now c.in-Postfix.base.value _ _ _ c.deref-in-Postfix.ensures c.in_ok-a-in-Postfix.ensures) (ends ξ _ _ _ (state_of c.walk-in-Postfix.new.tags c.walk-in-Postfix.new.known) c.finish_postfix.ensures))

pub expressions::walk_prefix-returns-in_err-a-in-Unary : goal.expressions::walk_prefix-returns-in_err-a-in-Unary
expressions::walk_prefix-returns-in_err-a-in-Unary t c = λ how.
    let ξ = view_setting c.args.setting in
    let Γ = view_env c.args.env.now in
    let s = state_of c.args.tags.now c.args.known.now in
    of_form (walk ξ Γ how) (boxed view_expr) (view c.args.e.now) (tree.Unary c.in-Unary.mark c.in-Unary.at (view c.in-Unary.operand.value)) s (state_of c.walk.new.tags c.walk.new.known) c.from_residual.result (ap view c.in-Unary.is)
    (stopped _ _ s _ c.from_residual.ensures.1 (moved_stop (λ (z : Tree). walk ξ Γ n.Plain (view z)) c.deref.result.now c.in-Unary.operand.value s _ c.deref.ensures c.in_err-a-in-Unary.ensures))

pub expressions::walk_prefix-returns-in_ok-a-in-Unary : goal.expressions::walk_prefix-returns-in_ok-a-in-Unary
expressions::walk_prefix-returns-in_ok-a-in-Unary t c = λ how.
    let ξ = view_setting c.args.setting in
    let Γ = view_env c.args.env.now in
    let s = state_of c.args.tags.now c.args.known.now in
    of_form (walk ξ Γ how) (boxed view_expr) (view c.args.e.now) (tree.Unary c.in-Unary.mark c.in-Unary.at (view c.in-Unary.operand.value)) s (state_of c.walk.new.tags c.walk.new.known) c.finish_unary.result (ap view c.in-Unary.is)
    (next _ _ (moved (λ (z : Tree). walk ξ Γ n.Plain (view z)) c.deref.result.now c.in-Unary.operand.value _ _ _ c.deref.ensures c.in_ok-a-in-Unary.ensures) (ends ξ _ _ _ (state_of c.walk.new.tags c.walk.new.known) c.finish_unary.ensures))

pub expressions::walk_prefix-returns-in_err-a-in-SizeOfExpr : goal.expressions::walk_prefix-returns-in_err-a-in-SizeOfExpr
expressions::walk_prefix-returns-in_err-a-in-SizeOfExpr t c = λ how.
    let ξ = view_setting c.args.setting in
    let Γ = view_env c.args.env.now in
    let s = state_of c.args.tags.now c.args.known.now in
    of_form (walk ξ Γ how) (boxed view_expr) (view c.args.e.now) (tree.SizeOfExpr c.in-SizeOfExpr.word c.in-SizeOfExpr.at (view c.in-SizeOfExpr.operand.value)) s (state_of c.walk-in-SizeOfExpr.new.tags c.walk-in-SizeOfExpr.new.known) c.from_residual-in_err-a-in-SizeOfExpr.result (ap view c.in-SizeOfExpr.is)
    (stopped _ _ s _ c.from_residual-in_err-a-in-SizeOfExpr.ensures.1 (moved_stop (λ (z : Tree). walk ξ Γ n.Measured (view z)) c.deref-in-SizeOfExpr.result.now c.in-SizeOfExpr.operand.value s _ c.deref-in-SizeOfExpr.ensures c.in_err-a-in-SizeOfExpr.ensures))

pub expressions::walk_prefix-returns-in_ok-a-in-SizeOfExpr : goal.expressions::walk_prefix-returns-in_ok-a-in-SizeOfExpr
expressions::walk_prefix-returns-in_ok-a-in-SizeOfExpr t c = λ how.
    let ξ = view_setting c.args.setting in
    let Γ = view_env c.args.env.now in
    let s = state_of c.args.tags.now c.args.known.now in
    of_form (walk ξ Γ how) (boxed view_expr) (view c.args.e.now) (tree.SizeOfExpr c.in-SizeOfExpr.word c.in-SizeOfExpr.at (view c.in-SizeOfExpr.operand.value)) s (state_of c.walk-in-SizeOfExpr.new.tags c.walk-in-SizeOfExpr.new.known) c.finish_size_of.result (ap view c.in-SizeOfExpr.is)
    (next _ _ (moved (λ (z : Tree). walk ξ Γ n.Measured (view z)) c.deref-in-SizeOfExpr.result.now c.in-SizeOfExpr.operand.value _ _ _ c.deref-in-SizeOfExpr.ensures c.in_ok-a-in-SizeOfExpr.ensures) (ends ξ _ _ _ (state_of c.walk-in-SizeOfExpr.new.tags c.walk-in-SizeOfExpr.new.known) c.finish_size_of.ensures))

pub expressions::walk_typed-returns-in_err-t-in-SizeOfType : goal.expressions::walk_typed-returns-in_err-t-in-SizeOfType
expressions::walk_typed-returns-in_err-t-in-SizeOfType t c = λ how.
    let ξ = view_setting c.args.setting in
    let Γ = view_env c.args.env.now in
    let s = state_of c.args.tags.now c.args.known.now in
    of_form (walk ξ Γ how) (boxed view_expr) (view c.args.e.now) (tree.SizeOfType c.in-SizeOfType.word c.in-SizeOfType.at c.in-SizeOfType.open (view_type c.in-SizeOfType.operand.value) c.in-SizeOfType.close) s (state_of c.walk_type.new.tags c.walk_type.new.known) c.from_residual.result (ap view c.in-SizeOfType.is)
    (stopped _ _ s _ c.from_residual.ensures.1 (moved_stop (λ (z : TypeTree). walk_type ξ Γ c.in-SizeOfType.at.place (view_type z)) c.deref.result.now c.in-SizeOfType.operand.value s _ c.deref.ensures c.in_err-t-in-SizeOfType.ensures))

pub expressions::walk_typed-returns-in_ok-t-in-SizeOfType : goal.expressions::walk_typed-returns-in_ok-t-in-SizeOfType
expressions::walk_typed-returns-in_ok-t-in-SizeOfType t c = λ how.
    let ξ = view_setting c.args.setting in
    let Γ = view_env c.args.env.now in
    let s = state_of c.args.tags.now c.args.known.now in
    of_form (walk ξ Γ how) (boxed view_expr) (view c.args.e.now) (tree.SizeOfType c.in-SizeOfType.word c.in-SizeOfType.at c.in-SizeOfType.open (view_type c.in-SizeOfType.operand.value) c.in-SizeOfType.close) s (state_of c.walk_type.new.tags c.walk_type.new.known) c.finish_size_of_type.result (ap view c.in-SizeOfType.is)
    (next _ _ (moved (λ (z : TypeTree). walk_type ξ Γ c.in-SizeOfType.at.place (view_type z)) c.deref.result.now c.in-SizeOfType.operand.value _ _ _ c.deref.ensures c.in_ok-t-in-SizeOfType.ensures) (ends ξ _ _ _ (state_of c.walk_type.new.tags c.walk_type.new.known) c.finish_size_of_type.ensures))

pub expressions::walk_typed-returns-in_err-t-in-Cast : goal.expressions::walk_typed-returns-in_err-t-in-Cast
expressions::walk_typed-returns-in_err-t-in-Cast t c = λ how.
    let ξ = view_setting c.args.setting in
    let Γ = view_env c.args.env.now in
    let s = state_of c.args.tags.now c.args.known.now in
    of_form (walk ξ Γ how) (boxed view_expr) (view c.args.e.now) (tree.Cast c.in-Cast.open (view_type c.in-Cast.target.value) c.in-Cast.close (view c.in-Cast.operand.value)) s (state_of c.walk_type-in-Cast.new.tags c.walk_type-in-Cast.new.known) c.from_residual-in_err-t-in-Cast.result (ap view c.in-Cast.is)
    (stopped _ _ s _ c.from_residual-in_err-t-in-Cast.ensures.1 (moved_stop (λ (z : TypeTree). walk_type ξ Γ c.in-Cast.open.place (view_type z)) c.deref-in-Cast.result.now c.in-Cast.target.value s _ c.deref-in-Cast.ensures c.in_err-t-in-Cast.ensures))

pub expressions::walk_typed-returns-in_err-a-in-Cast : goal.expressions::walk_typed-returns-in_err-a-in-Cast
expressions::walk_typed-returns-in_err-a-in-Cast t c = λ how.
    let ξ = view_setting c.args.setting in
    let Γ = view_env c.args.env.now in
    let s = state_of c.args.tags.now c.args.known.now in
    of_form (walk ξ Γ how) (boxed view_expr) (view c.args.e.now) (tree.Cast c.in-Cast.open (view_type c.in-Cast.target.value) c.in-Cast.close (view c.in-Cast.operand.value)) s (state_of c.walk.new.tags c.walk.new.known) c.from_residual-in_err-a-in-Cast.result (ap view c.in-Cast.is)
    (next _ _ (moved (λ (z : TypeTree). walk_type ξ Γ c.in-Cast.open.place (view_type z)) c.deref-in-Cast.result.now c.in-Cast.target.value _ _ _ c.deref-in-Cast.ensures c.in_ok-t-in-Cast.ensures) (stopped _ _ (state_of c.walk_type-in-Cast.new.tags c.walk_type-in-Cast.new.known) _ c.from_residual-in_err-a-in-Cast.ensures.1 (moved_stop (λ (z : Tree). walk ξ Γ (n.Into (types.view c.in_ok-t-in-Cast.t.ctype)) (view z)) c.deref-in-Cast-2.result.now c.in-Cast.operand.value (state_of c.walk_type-in-Cast.new.tags c.walk_type-in-Cast.new.known) _ c.deref-in-Cast-2.ensures c.in_err-a-in-Cast.ensures)))

pub expressions::walk_typed-returns-in_ok-a-in-Cast : goal.expressions::walk_typed-returns-in_ok-a-in-Cast
expressions::walk_typed-returns-in_ok-a-in-Cast t c = λ how.
    let ξ = view_setting c.args.setting in
    let Γ = view_env c.args.env.now in
    let s = state_of c.args.tags.now c.args.known.now in
    of_form (walk ξ Γ how) (boxed view_expr) (view c.args.e.now) (tree.Cast c.in-Cast.open (view_type c.in-Cast.target.value) c.in-Cast.close (view c.in-Cast.operand.value)) s (state_of c.walk.new.tags c.walk.new.known) c.finish_cast.result (ap view c.in-Cast.is)
    (next _ _ (moved (λ (z : TypeTree). walk_type ξ Γ c.in-Cast.open.place (view_type z)) c.deref-in-Cast.result.now c.in-Cast.target.value _ _ _ c.deref-in-Cast.ensures c.in_ok-t-in-Cast.ensures) (next _ _ (moved (λ (z : Tree). walk ξ Γ (n.Into (types.view c.in_ok-t-in-Cast.t.ctype)) (view z)) c.deref-in-Cast-2.result.now c.in-Cast.operand.value _ _ _ c.deref-in-Cast-2.ensures c.in_ok-a-in-Cast.ensures) (ends ξ _ _ _ (state_of c.walk.new.tags c.walk.new.known) (c.finish_cast.ensures (facts_in ξ (state_of c.walk.new.tags c.walk.new.known))))))

pub expressions::walk_infix-returns-in_err-a-in-Binary : goal.expressions::walk_infix-returns-in_err-a-in-Binary
expressions::walk_infix-returns-in_err-a-in-Binary t c = λ how.
    let ξ = view_setting c.args.setting in
    let Γ = view_env c.args.env.now in
    let s = state_of c.args.tags.now c.args.known.now in
    of_form (walk ξ Γ how) (boxed view_expr) (view c.args.e.now) (tree.Binary (view c.in-Binary.left.value) c.in-Binary.mark c.in-Binary.at (view c.in-Binary.right.value)) s (state_of c.walk.new.tags c.walk.new.known) c.from_residual.result (ap view c.in-Binary.is)
    (stopped _ _ s _ c.from_residual.ensures.1 (moved_stop (λ (z : Tree). walk ξ Γ n.Plain (view z)) c.deref.result.now c.in-Binary.left.value s _ c.deref.ensures c.in_err-a-in-Binary.ensures))

pub expressions::walk_infix-returns-in_err-b-in-Binary : goal.expressions::walk_infix-returns-in_err-b-in-Binary
expressions::walk_infix-returns-in_err-b-in-Binary t c = λ how.
    let ξ = view_setting c.args.setting in
    let Γ = view_env c.args.env.now in
    let s = state_of c.args.tags.now c.args.known.now in
    of_form (walk ξ Γ how) (boxed view_expr) (view c.args.e.now) (tree.Binary (view c.in-Binary.left.value) c.in-Binary.mark c.in-Binary.at (view c.in-Binary.right.value)) s (state_of c.walk-in-Binary.new.tags c.walk-in-Binary.new.known) c.from_residual-in_err-b-in-Binary.result (ap view c.in-Binary.is)
    (next _ _ (moved (λ (z : Tree). walk ξ Γ n.Plain (view z)) c.deref.result.now c.in-Binary.left.value _ _ _ c.deref.ensures c.in_ok-a-in-Binary.ensures) (stopped _ _ (state_of c.walk.new.tags c.walk.new.known) _ c.from_residual-in_err-b-in-Binary.ensures.1 (moved_stop (λ (z : Tree). walk ξ Γ n.Plain (view z)) c.deref-in-Binary.result.now c.in-Binary.right.value (state_of c.walk.new.tags c.walk.new.known) _ c.deref-in-Binary.ensures c.in_err-b-in-Binary.ensures)))

pub expressions::walk_infix-returns-in_ok-b-in-Binary : goal.expressions::walk_infix-returns-in_ok-b-in-Binary
expressions::walk_infix-returns-in_ok-b-in-Binary t c = λ how.
    let ξ = view_setting c.args.setting in
    let Γ = view_env c.args.env.now in
    let s = state_of c.args.tags.now c.args.known.now in
    of_form (walk ξ Γ how) (boxed view_expr) (view c.args.e.now) (tree.Binary (view c.in-Binary.left.value) c.in-Binary.mark c.in-Binary.at (view c.in-Binary.right.value)) s (state_of c.walk-in-Binary.new.tags c.walk-in-Binary.new.known) c.finish_binary.result (ap view c.in-Binary.is)
    (next _ _ (moved (λ (z : Tree). walk ξ Γ n.Plain (view z)) c.deref.result.now c.in-Binary.left.value _ _ _ c.deref.ensures c.in_ok-a-in-Binary.ensures) (next _ _ (moved (λ (z : Tree). walk ξ Γ n.Plain (view z)) c.deref-in-Binary.result.now c.in-Binary.right.value _ _ _ c.deref-in-Binary.ensures c.in_ok-b-in-Binary.ensures) (ends ξ _ _ _ (state_of c.walk-in-Binary.new.tags c.walk-in-Binary.new.known) c.finish_binary.ensures)))

pub expressions::walk_infix-returns-in_err-a-in-Assign : goal.expressions::walk_infix-returns-in_err-a-in-Assign
expressions::walk_infix-returns-in_err-a-in-Assign t c = λ how.
    let ξ = view_setting c.args.setting in
    let Γ = view_env c.args.env.now in
    let s = state_of c.args.tags.now c.args.known.now in
    of_form (walk ξ Γ how) (boxed view_expr) (view c.args.e.now) (tree.Assign (view c.in-Assign.left.value) c.in-Assign.mark c.in-Assign.at (view c.in-Assign.right.value)) s (state_of c.walk-in-Assign.new.tags c.walk-in-Assign.new.known) c.from_residual-in_err-a-in-Assign.result (ap view c.in-Assign.is)
    (stopped _ _ s _ c.from_residual-in_err-a-in-Assign.ensures.1 (moved_stop (λ (z : Tree). walk ξ Γ n.Plain (view z)) c.deref-in-Assign.result.now c.in-Assign.left.value s _ c.deref-in-Assign.ensures c.in_err-a-in-Assign.ensures))

pub expressions::walk_infix-returns-in_err-b-in-Assign : goal.expressions::walk_infix-returns-in_err-b-in-Assign
expressions::walk_infix-returns-in_err-b-in-Assign t c = λ how.
    let ξ = view_setting c.args.setting in
    let Γ = view_env c.args.env.now in
    let s = state_of c.args.tags.now c.args.known.now in
    of_form (walk ξ Γ how) (boxed view_expr) (view c.args.e.now) (tree.Assign (view c.in-Assign.left.value) c.in-Assign.mark c.in-Assign.at (view c.in-Assign.right.value)) s (state_of c.walk-in-Assign-2.new.tags c.walk-in-Assign-2.new.known) c.from_residual-in_err-b-in-Assign.result (ap view c.in-Assign.is)
    (assign_stops ξ Γ how (view_use c.right_use-into.result) (view c.in-Assign.left.value) (view c.in-Assign.right.value) c.in-Assign.mark c.in-Assign.at s (state_of c.walk-in-Assign.new.tags c.walk-in-Assign.new.known) _ c.in_ok-a-in-Assign.a.value _ c.from_residual-in_err-b-in-Assign.result (c.right_use-into.ensures ∙ ap (λ (e : RustExpr). right_use c.in-Assign.mark (types.view e.attr.ctype)) c.deref-in-Assign-2.ensures) (moved (λ (z : Tree). walk ξ Γ n.Plain (view z)) c.deref-in-Assign.result.now c.in-Assign.left.value _ _ _ c.deref-in-Assign.ensures c.in_ok-a-in-Assign.ensures) (moved_stop (λ (z : Tree). walk ξ Γ (view_use c.right_use-into.result) (view z)) c.deref-in-Assign-3.result.now c.in-Assign.right.value (state_of c.walk-in-Assign.new.tags c.walk-in-Assign.new.known) _ c.deref-in-Assign-3.ensures c.in_err-b-in-Assign.ensures) c.from_residual-in_err-b-in-Assign.ensures.1)

pub expressions::walk_infix-returns-in_ok-b-in-Assign : goal.expressions::walk_infix-returns-in_ok-b-in-Assign
expressions::walk_infix-returns-in_ok-b-in-Assign t c = λ how.
    let ξ = view_setting c.args.setting in
    let Γ = view_env c.args.env.now in
    let s = state_of c.args.tags.now c.args.known.now in
    of_form (walk ξ Γ how) (boxed view_expr) (view c.args.e.now) (tree.Assign (view c.in-Assign.left.value) c.in-Assign.mark c.in-Assign.at (view c.in-Assign.right.value)) s (state_of c.walk-in-Assign-2.new.tags c.walk-in-Assign-2.new.known) c.finish_assign.result (ap view c.in-Assign.is)
    (assign_ends ξ Γ how (view_use c.right_use-into.result) (view c.in-Assign.left.value) (view c.in-Assign.right.value) c.in-Assign.mark c.in-Assign.at s (state_of c.walk-in-Assign.new.tags c.walk-in-Assign.new.known) (state_of c.walk-in-Assign-2.new.tags c.walk-in-Assign-2.new.known) c.in_ok-a-in-Assign.a.value c.in_ok-b-in-Assign.b.value c.finish_assign.result (c.right_use-into.ensures ∙ ap (λ (e : RustExpr). right_use c.in-Assign.mark (types.view e.attr.ctype)) c.deref-in-Assign-2.ensures) (moved (λ (z : Tree). walk ξ Γ n.Plain (view z)) c.deref-in-Assign.result.now c.in-Assign.left.value _ _ _ c.deref-in-Assign.ensures c.in_ok-a-in-Assign.ensures) (moved (λ (z : Tree). walk ξ Γ (view_use c.right_use-into.result) (view z)) c.deref-in-Assign-3.result.now c.in-Assign.right.value _ _ _ c.deref-in-Assign-3.ensures c.in_ok-b-in-Assign.ensures) c.finish_assign.ensures)

pub expressions::walk_choice-returns-in_err-t-in-Conditional : goal.expressions::walk_choice-returns-in_err-t-in-Conditional
expressions::walk_choice-returns-in_err-t-in-Conditional t c = λ how.
    let ξ = view_setting c.args.setting in
    let Γ = view_env c.args.env.now in
    let s = state_of c.args.tags.now c.args.known.now in
    of_form (walk ξ Γ how) (boxed view_expr) (view c.args.e.now) (tree.Conditional (view c.in-Conditional.test.value) c.in-Conditional.question (view c.in-Conditional.chosen.value) c.in-Conditional.colon (view c.in-Conditional.other.value)) s (state_of c.walk.new.tags c.walk.new.known) c.from_residual.result (ap view c.in-Conditional.is)
    (stopped _ _ s _ c.from_residual.ensures.1 (moved_stop (λ (z : Tree). walk ξ Γ n.Plain (view z)) c.deref.result.now c.in-Conditional.test.value s _ c.deref.ensures c.in_err-t-in-Conditional.ensures))

pub expressions::walk_choice-returns-in_err-a-in-Conditional : goal.expressions::walk_choice-returns-in_err-a-in-Conditional
expressions::walk_choice-returns-in_err-a-in-Conditional t c = λ how.
    let ξ = view_setting c.args.setting in
    let Γ = view_env c.args.env.now in
    let s = state_of c.args.tags.now c.args.known.now in
    of_form (walk ξ Γ how) (boxed view_expr) (view c.args.e.now) (tree.Conditional (view c.in-Conditional.test.value) c.in-Conditional.question (view c.in-Conditional.chosen.value) c.in-Conditional.colon (view c.in-Conditional.other.value)) s (state_of c.walk-in-Conditional.new.tags c.walk-in-Conditional.new.known) c.from_residual-in_err-a-in-Conditional.result (ap view c.in-Conditional.is)
    (next _ _ (moved (λ (z : Tree). walk ξ Γ n.Plain (view z)) c.deref.result.now c.in-Conditional.test.value _ _ _ c.deref.ensures c.in_ok-t-in-Conditional.ensures) (stopped _ _ (state_of c.walk.new.tags c.walk.new.known) _ c.from_residual-in_err-a-in-Conditional.ensures.1 (moved_stop (λ (z : Tree). walk ξ Γ n.Plain (view z)) c.deref-in-Conditional.result.now c.in-Conditional.chosen.value (state_of c.walk.new.tags c.walk.new.known) _ c.deref-in-Conditional.ensures c.in_err-a-in-Conditional.ensures)))

pub expressions::walk_choice-returns-in_err-b-in-Conditional : goal.expressions::walk_choice-returns-in_err-b-in-Conditional
expressions::walk_choice-returns-in_err-b-in-Conditional t c = λ how.
    let ξ = view_setting c.args.setting in
    let Γ = view_env c.args.env.now in
    let s = state_of c.args.tags.now c.args.known.now in
    of_form (walk ξ Γ how) (boxed view_expr) (view c.args.e.now) (tree.Conditional (view c.in-Conditional.test.value) c.in-Conditional.question (view c.in-Conditional.chosen.value) c.in-Conditional.colon (view c.in-Conditional.other.value)) s (state_of c.walk-in-Conditional-2.new.tags c.walk-in-Conditional-2.new.known) c.from_residual-in_err-b-in-Conditional.result (ap view c.in-Conditional.is)
    (next _ _ (moved (λ (z : Tree). walk ξ Γ n.Plain (view z)) c.deref.result.now c.in-Conditional.test.value _ _ _ c.deref.ensures c.in_ok-t-in-Conditional.ensures) (next _ _ (moved (λ (z : Tree). walk ξ Γ n.Plain (view z)) c.deref-in-Conditional.result.now c.in-Conditional.chosen.value _ _ _ c.deref-in-Conditional.ensures c.in_ok-a-in-Conditional.ensures) (stopped _ _ (state_of c.walk-in-Conditional.new.tags c.walk-in-Conditional.new.known) _ c.from_residual-in_err-b-in-Conditional.ensures.1 (moved_stop (λ (z : Tree). walk ξ Γ n.Plain (view z)) c.deref-in-Conditional-2.result.now c.in-Conditional.other.value (state_of c.walk-in-Conditional.new.tags c.walk-in-Conditional.new.known) _ c.deref-in-Conditional-2.ensures c.in_err-b-in-Conditional.ensures))))

pub expressions::walk_choice-returns : goal.expressions::walk_choice-returns
expressions::walk_choice-returns t c = λ how.
    let ξ = view_setting c.args.setting in
    let Γ = view_env c.args.env.now in
    let s = state_of c.args.tags.now c.args.known.now in
    of_form (walk ξ Γ how) (boxed view_expr) (view c.args.e.now) (tree.Conditional (view c.in-Conditional.test.value) c.in-Conditional.question (view c.in-Conditional.chosen.value) c.in-Conditional.colon (view c.in-Conditional.other.value)) s (state_of c.walk-in-Conditional-2.new.tags c.walk-in-Conditional-2.new.known) c.finish_conditional.result (ap view c.in-Conditional.is)
    (next _ _ (moved (λ (z : Tree). walk ξ Γ n.Plain (view z)) c.deref.result.now c.in-Conditional.test.value _ _ _ c.deref.ensures c.in_ok-t-in-Conditional.ensures) (next _ _ (moved (λ (z : Tree). walk ξ Γ n.Plain (view z)) c.deref-in-Conditional.result.now c.in-Conditional.chosen.value _ _ _ c.deref-in-Conditional.ensures c.in_ok-a-in-Conditional.ensures) (next _ _ (moved (λ (z : Tree). walk ξ Γ n.Plain (view z)) c.deref-in-Conditional-2.result.now c.in-Conditional.other.value _ _ _ c.deref-in-Conditional-2.ensures c.in_ok-b-in-Conditional.ensures) (ends ξ _ _ _ (state_of c.walk-in-Conditional-2.new.tags c.walk-in-Conditional-2.new.known) (c.finish_conditional.ensures (facts_in ξ (state_of c.walk-in-Conditional-2.new.tags c.walk-in-Conditional-2.new.known)))))))

pub expressions::walk_infix-returns-in_err-a-in-Comma : goal.expressions::walk_infix-returns-in_err-a-in-Comma
expressions::walk_infix-returns-in_err-a-in-Comma t c = λ how.
    let ξ = view_setting c.args.setting in
    let Γ = view_env c.args.env.now in
    let s = state_of c.args.tags.now c.args.known.now in
    of_form (walk ξ Γ how) (boxed view_expr) (view c.args.e.now) (tree.Comma (view c.in-Comma.first.value) (view_next_exprs c.in-Comma.more)) s (state_of c.walk-in-Comma.new.tags c.walk-in-Comma.new.known) c.from_residual-in_err-a-in-Comma.result (ap view c.in-Comma.is ∙ comma_is c.in-Comma.first c.in-Comma.more)
    (stopped _ _ s _ c.from_residual-in_err-a-in-Comma.ensures.1 (moved_stop (λ (z : Tree). walk ξ Γ n.Plain (view z)) c.deref-in-Comma.result.now c.in-Comma.first.value s _ c.deref-in-Comma.ensures c.in_err-a-in-Comma.ensures))

pub expressions::walk_infix-returns-in_err-all-in-Comma : goal.expressions::walk_infix-returns-in_err-all-in-Comma
expressions::walk_infix-returns-in_err-all-in-Comma t c = λ how.
    let ξ = view_setting c.args.setting in
    let Γ = view_env c.args.env.now in
    let s = state_of c.args.tags.now c.args.known.now in
    of_form (walk ξ Γ how) (boxed view_expr) (view c.args.e.now) (tree.Comma (view c.in-Comma.first.value) (view_next_exprs c.in-Comma.more)) s (state_of c.walk_more.new.tags c.walk_more.new.known) c.from_residual-in_err-all-in-Comma.result (ap view c.in-Comma.is ∙ comma_is c.in-Comma.first c.in-Comma.more)
    (next _ _ (moved (λ (z : Tree). walk ξ Γ n.Plain (view z)) c.deref-in-Comma.result.now c.in-Comma.first.value _ _ _ c.deref-in-Comma.ensures c.in_ok-a-in-Comma.ensures) (stopped _ _ (state_of c.walk-in-Comma.new.tags c.walk-in-Comma.new.known) _ c.from_residual-in_err-all-in-Comma.ensures.1 (moved_stop (rest_of_exprs ξ Γ []) c.as_slice.result.now c.in-Comma.more.items (state_of c.walk-in-Comma.new.tags c.walk-in-Comma.new.known) _ c.as_slice.ensures.value c.in_err-all-in-Comma.ensures)))

pub expressions::walk_infix-returns-in_ok-all-in-Comma : goal.expressions::walk_infix-returns-in_ok-all-in-Comma
expressions::walk_infix-returns-in_ok-all-in-Comma t c = λ how.
    let ξ = view_setting c.args.setting in
    let Γ = view_env c.args.env.now in
    let s = state_of c.args.tags.now c.args.known.now in
    of_form (walk ξ Γ how) (boxed view_expr) (view c.args.e.now) (tree.Comma (view c.in-Comma.first.value) (view_next_exprs c.in-Comma.more)) s (state_of c.walk_more.new.tags c.walk_more.new.known) c.finish_comma.result (ap view c.in-Comma.is ∙ comma_is c.in-Comma.first c.in-Comma.more)
    (next _ _ (moved (λ (z : Tree). walk ξ Γ n.Plain (view z)) c.deref-in-Comma.result.now c.in-Comma.first.value _ _ _ c.deref-in-Comma.ensures c.in_ok-a-in-Comma.ensures) (next _ _ (moved (rest_of_exprs ξ Γ []) c.as_slice.result.now c.in-Comma.more.items _ _ _ c.as_slice.ensures.value c.in_ok-all-in-Comma.ensures) (ends ξ _ _ _ (state_of c.walk_more.new.tags c.walk_more.new.known) (c.finish_comma.ensures (facts_in ξ (state_of c.walk_more.new.tags c.walk_more.new.known))))))

pub expressions::walk_arguments-returns-in_err-a-in-Filled : goal.expressions::walk_arguments-returns-in_err-a-in-Filled
expressions::walk_arguments-returns-in_err-a-in-Filled t c =
    let ξ = view_setting c.args.setting in
    let Γ = view_env c.args.env.now in
    let s = state_of c.args.tags.now c.args.known.now in
    of_form (walk_arguments ξ Γ (view_uses c.args.uses)) (λ (xs : Vec RustExpr Global). exprs_of (map view_expr xs.items)) (view_arguments c.args.arguments.now) (tree.SomeArguments (view c.in-Filled.first.value) (view_next_exprs c.in-Filled.more) c.in-Filled.close) s (state_of c.walk.new.tags c.walk.new.known) c.from_residual.result (ap view_arguments c.in-Filled.is ∙ filled_is c.in-Filled.first c.in-Filled.more c.in-Filled.close)
    (stopped _ _ s _ c.from_residual.ensures.1 (moved_stop (λ (u : n.Use). walk ξ Γ u (view c.in-Filled.first.value)) (view_use c.first_use.result) (first_use (view_uses c.args.uses)) s _ c.first_use.ensures (moved_stop (λ (z : Tree). walk ξ Γ (view_use c.first_use.result) (view z)) c.deref.result.now c.in-Filled.first.value s _ c.deref.ensures c.in_err-a-in-Filled.ensures)))

pub expressions::walk_arguments-returns-in_err-all-in-Filled : goal.expressions::walk_arguments-returns-in_err-all-in-Filled
expressions::walk_arguments-returns-in_err-all-in-Filled t c =
    let ξ = view_setting c.args.setting in
    let Γ = view_env c.args.env.now in
    let s = state_of c.args.tags.now c.args.known.now in
    of_form (walk_arguments ξ Γ (view_uses c.args.uses)) (λ (xs : Vec RustExpr Global). exprs_of (map view_expr xs.items)) (view_arguments c.args.arguments.now) (tree.SomeArguments (view c.in-Filled.first.value) (view_next_exprs c.in-Filled.more) c.in-Filled.close) s (state_of c.walk_more.new.tags c.walk_more.new.known) c.from_residual-in_err-all-in-Filled.result (ap view_arguments c.in-Filled.is ∙ filled_is c.in-Filled.first c.in-Filled.more c.in-Filled.close)
    (filled_stops (λ (xs : Vec RustExpr Global). exprs_of (map view_expr xs.items)) ξ Γ (view_uses c.args.uses) (view_uses c.later_uses.result) (view_use c.first_use.result) (view c.in-Filled.first.value) (view_next_exprs c.in-Filled.more) c.in-Filled.close s (state_of c.walk.new.tags c.walk.new.known) _ (view_expr c.in_ok-a-in-Filled.a.value) _ c.from_residual-in_err-all-in-Filled.result c.first_use.ensures c.later_uses.ensures (moved (λ (z : Tree). walk ξ Γ (view_use c.first_use.result) (view z)) c.deref.result.now c.in-Filled.first.value _ _ _ c.deref.ensures c.in_ok-a-in-Filled.ensures) (moved_stop (rest_of_exprs ξ Γ (view_uses c.later_uses.result)) c.as_slice.result.now c.in-Filled.more.items (state_of c.walk.new.tags c.walk.new.known) _ c.as_slice.ensures.value c.in_err-all-in-Filled.ensures) c.from_residual-in_err-all-in-Filled.ensures.1)

pub expressions::walk_arguments-returns-in_ok-joined-in-Filled : goal.expressions::walk_arguments-returns-in_ok-joined-in-Filled
expressions::walk_arguments-returns-in_ok-joined-in-Filled t c =
    let ξ = view_setting c.args.setting in
    let Γ = view_env c.args.env.now in
    let s = state_of c.args.tags.now c.args.known.now in
    of_form (walk_arguments ξ Γ (view_uses c.args.uses)) (λ (xs : Vec RustExpr Global). exprs_of (map view_expr xs.items)) (view_arguments c.args.arguments.now) (tree.SomeArguments (view c.in-Filled.first.value) (view_next_exprs c.in-Filled.more) c.in-Filled.close) s (state_of c.walk_more.new.tags c.walk_more.new.known) (Ok c.in_ok-joined-in-Filled.field-0) (ap view_arguments c.in-Filled.is ∙ filled_is c.in-Filled.first c.in-Filled.more c.in-Filled.close)
    (arrives (filled_ends ξ Γ (view_uses c.args.uses) (view_uses c.later_uses.result) (view_use c.first_use.result) (view c.in-Filled.first.value) (view_next_exprs c.in-Filled.more) c.in-Filled.close s (state_of c.walk.new.tags c.walk.new.known) (state_of c.walk_more.new.tags c.walk_more.new.known) (view_expr c.in_ok-a-in-Filled.a.value) (exprs_of (map view_expr c.in_ok-all-in-Filled.all.items)) c.first_use.ensures c.later_uses.ensures (moved (λ (z : Tree). walk ξ Γ (view_use c.first_use.result) (view z)) c.deref.result.now c.in-Filled.first.value _ _ _ c.deref.ensures c.in_ok-a-in-Filled.ensures) (moved (rest_of_exprs ξ Γ (view_uses c.later_uses.result)) c.as_slice.result.now c.in-Filled.more.items _ _ _ c.as_slice.ensures.value c.in_ok-all-in-Filled.ensures)) (ap exprs_of (sym c.in_ok-joined-in-Filled.ensures)))

pub expressions::walk_more-loop-part-init : goal.expressions::walk_more-loop-part-init
expressions::walk_more-loop-part-init t c = more_begins (view_setting c.args.setting) (view_env c.args.env.now) (view_uses c.args.uses) c.args.more.now c.new-all.result.items (state_of c.args.tags.now c.args.known.now) c.new-all.ensures.items

pub expressions::walk_more-returns-in_err-x : goal.expressions::walk_more-returns-in_err-x
expressions::walk_more-returns-in_err-x t c =
    let ξ = view_setting c.args.setting in
    let Γ = view_env c.args.env.now in
    let within : c.loop-part.part-index < length c.args.more.now = omega arith in
    let p = err_from_is_err_and c.from_residual.result c.from_residual.ensures.1 in
    rw (p.1, p.2) (more_stops ξ Γ (view_uses c.loop-part.uses) (view_use c.first_use.result) c.args.more.now c.loop-part.part-index c.part-item.result (front (map view_expr c.loop-part.all.items)) (state_of c.loop-part.tags c.loop-part.known) _ _ within c.part-item.is c.first_use.ensures (moved_stop (λ (z : Tree). walk ξ Γ (view_use c.first_use.result) (view z)) c.deref.result.now c.part-item.result.value.value (state_of c.loop-part.tags c.loop-part.known) _ c.deref.ensures c.in_err-x.ensures) c.loop-part.invariant)

pub expressions::walk_more-loop-part-preserved : goal.expressions::walk_more-loop-part-preserved
expressions::walk_more-loop-part-preserved t c =
    let ξ = view_setting c.args.setting in
    let Γ = view_env c.args.env.now in
    let within : c.loop-part.part-index < length c.args.more.now = omega arith in
    more_step ξ Γ (view_uses c.loop-part.uses) (view_uses c.later_uses-uses.result) (view_use c.first_use.result) c.args.more.now c.loop-part.part-index c.part-item.result c.loop-part.all.items c.push.new.self.items c.in_ok-x.x.value (state_of c.loop-part.tags c.loop-part.known) (state_of c.walk.new.tags c.walk.new.known) _ within c.part-item.is c.first_use.ensures c.later_uses-uses.ensures (moved (λ (z : Tree). walk ξ Γ (view_use c.first_use.result) (view z)) c.deref.result.now c.part-item.result.value.value _ _ _ c.deref.ensures c.in_ok-x.ensures) (c.in_ok-push.ensures.items ∙ ap (λ (x : RustExpr). c.loop-part.all.items ++ (x ∷ [])) c.into_inner.ensures) c.loop-part.invariant

pub expressions::walk_more-returns : goal.expressions::walk_more-returns
expressions::walk_more-returns t c =
    let ξ = view_setting c.args.setting in
    let Γ = view_env c.args.env.now in
    let least : length c.args.more.now ≤ c.loop-part.part-index = omega arith in
    more_ends ξ Γ (view_uses c.loop-part.uses) c.args.more.now c.loop-part.part-index c.loop-part.all.items (state_of c.loop-part.tags c.loop-part.known) _ least c.loop-part.invariant

pub types::walk_type-returns-in_err-found : goal.types::walk_type-returns-in_err-found
types::walk_type-returns-in_err-found t c =
    let ξ = view_setting c.args.setting in
    let Γ = view_env c.args.env.now in
    let s = state_of c.args.tags.now c.args.known.now in
    of_form (walk_type ξ Γ c.args.at) view_formed (view_type c.args.t.now) (tree.Typed (view_specs (out-TypeName c.args.t.now).specs) (view_pointers (out-TypeName c.args.t.now).pointers) (view_dimensions (out-TypeName c.args.t.now).sizes)) s (state_of c.walk_specifiers.new.tags c.walk_specifiers.new.known) c.from_residual.result (type_is c.args.t.now)
    (type_stops view_formed ξ Γ (view_specifying c.in_type.result) c.args.at (view_specs (out-TypeName c.args.t.now).specs) (view_pointers (out-TypeName c.args.t.now).pointers) (view_dimensions (out-TypeName c.args.t.now).sizes) s _ _ c.from_residual.result c.in_type.ensures (moved_stop (all_specifiers ξ Γ (view_specifying c.in_type.result)) c.as_slice.result.now (out-TypeName c.args.t.now).specs.items s _ c.as_slice.ensures.value c.in_err-found.ensures) c.from_residual.ensures.1)

pub types::walk_type-returns-in_err-shaped : goal.types::walk_type-returns-in_err-shaped
types::walk_type-returns-in_err-shaped t c =
    let ξ = view_setting c.args.setting in
    let Γ = view_env c.args.env.now in
    let s = state_of c.args.tags.now c.args.known.now in
    of_form (walk_type ξ Γ c.args.at) view_formed (view_type c.args.t.now) (tree.Typed (view_specs (out-TypeName c.args.t.now).specs) (view_pointers (out-TypeName c.args.t.now).pointers) (view_dimensions (out-TypeName c.args.t.now).sizes)) s (state_of c.walk_pointers.new.tags c.walk_pointers.new.known) c.from_residual-in_err-shaped.result (type_is c.args.t.now)
    (type_stops_at_stars view_formed ξ Γ (view_specifying c.in_type.result) c.args.at (view_specs (out-TypeName c.args.t.now).specs) (view_pointers (out-TypeName c.args.t.now).pointers) (view_dimensions (out-TypeName c.args.t.now).sizes) s (state_of c.walk_specifiers.new.tags c.walk_specifiers.new.known) _ (view_specified c.in_ok-found.found) (view_shaped c.specified_type-shaped.result) _ c.from_residual-in_err-shaped.result c.in_type.ensures c.specified_type-shaped.ensures (moved (all_specifiers ξ Γ (view_specifying c.in_type.result)) c.as_slice.result.now (out-TypeName c.args.t.now).specs.items _ _ _ c.as_slice.ensures.value c.in_ok-found.ensures) (moved_stop (rest_of_stars ξ Γ false (view_shaped c.specified_type-shaped.result)) c.as_slice-2.result.now (out-TypeName c.args.t.now).pointers.items (state_of c.walk_specifiers.new.tags c.walk_specifiers.new.known) _ c.as_slice-2.ensures.value c.in_err-shaped.ensures) c.from_residual-in_err-shaped.ensures.1)

pub types::walk_type-returns-in_err-sizes : goal.types::walk_type-returns-in_err-sizes
types::walk_type-returns-in_err-sizes t c =
    let ξ = view_setting c.args.setting in
    let Γ = view_env c.args.env.now in
    let s = state_of c.args.tags.now c.args.known.now in
    of_form (walk_type ξ Γ c.args.at) view_formed (view_type c.args.t.now) (tree.Typed (view_specs (out-TypeName c.args.t.now).specs) (view_pointers (out-TypeName c.args.t.now).pointers) (view_dimensions (out-TypeName c.args.t.now).sizes)) s (state_of c.walk_sizes.new.tags c.walk_sizes.new.known) c.from_residual-in_err-sizes.result (type_is c.args.t.now)
    (type_stops_at_sizes view_formed ξ Γ (view_specifying c.in_type.result) c.args.at (view_specs (out-TypeName c.args.t.now).specs) (view_pointers (out-TypeName c.args.t.now).pointers) (view_dimensions (out-TypeName c.args.t.now).sizes) s (state_of c.walk_specifiers.new.tags c.walk_specifiers.new.known) (state_of c.walk_pointers.new.tags c.walk_pointers.new.known) _ (view_specified c.in_ok-found.found) (view_shaped c.specified_type-shaped.result) (view_shaped c.in_ok-shaped.shaped) _ c.from_residual-in_err-sizes.result c.in_type.ensures c.specified_type-shaped.ensures (moved (all_specifiers ξ Γ (view_specifying c.in_type.result)) c.as_slice.result.now (out-TypeName c.args.t.now).specs.items _ _ _ c.as_slice.ensures.value c.in_ok-found.ensures) (moved (rest_of_stars ξ Γ false (view_shaped c.specified_type-shaped.result)) c.as_slice-2.result.now (out-TypeName c.args.t.now).pointers.items _ _ _ c.as_slice-2.ensures.value c.in_ok-shaped.ensures) (moved_stop (rest_of_sizes ξ Γ) c.as_slice-3.result.now (out-TypeName c.args.t.now).sizes.items (state_of c.walk_pointers.new.tags c.walk_pointers.new.known) _ c.as_slice-3.ensures.value c.in_err-sizes.ensures) c.from_residual-in_err-sizes.ensures.1)

pub types::walk_type-returns : goal.types::walk_type-returns
types::walk_type-returns t c =
    let ξ = view_setting c.args.setting in
    let Γ = view_env c.args.env.now in
    let s = state_of c.args.tags.now c.args.known.now in
    of_form (walk_type ξ Γ c.args.at) view_formed (view_type c.args.t.now) (tree.Typed (view_specs (out-TypeName c.args.t.now).specs) (view_pointers (out-TypeName c.args.t.now).pointers) (view_dimensions (out-TypeName c.args.t.now).sizes)) s (state_of c.walk_sizes.new.tags c.walk_sizes.new.known) (Ok c.in_ok-formed.field-0) (type_is c.args.t.now)
    (arrives (type_ends ξ Γ (view_specifying c.in_type.result) c.args.at (view_specs (out-TypeName c.args.t.now).specs) (view_pointers (out-TypeName c.args.t.now).pointers) (view_dimensions (out-TypeName c.args.t.now).sizes) s (state_of c.walk_specifiers.new.tags c.walk_specifiers.new.known) (state_of c.walk_pointers.new.tags c.walk_pointers.new.known) (state_of c.walk_sizes.new.tags c.walk_sizes.new.known) (view_specified c.in_ok-found.found) (view_shaped c.specified_type-shaped.result) (view_shaped c.in_ok-shaped.shaped) (view_shaped c.named_type-shaped.result) c.specifiers_form.result c.in_ok-sizes.sizes.items c.in_type.ensures c.specified_type-shaped.ensures c.specifiers_form.ensures c.named_type-shaped.ensures (moved (all_specifiers ξ Γ (view_specifying c.in_type.result)) c.as_slice.result.now (out-TypeName c.args.t.now).specs.items _ _ _ c.as_slice.ensures.value c.in_ok-found.ensures) (moved (rest_of_stars ξ Γ false (view_shaped c.specified_type-shaped.result)) c.as_slice-2.result.now (out-TypeName c.args.t.now).pointers.items _ _ _ c.as_slice-2.ensures.value c.in_ok-shaped.ensures) (moved (rest_of_sizes ξ Γ) c.as_slice-3.result.now (out-TypeName c.args.t.now).sizes.items _ _ _ c.as_slice-3.ensures.value c.in_ok-sizes.ensures)) (sym c.in_ok-formed.ensures))

pub types::walk_specifiers-returns-in_err-found : goal.types::walk_specifiers-returns-in_err-found
types::walk_specifiers-returns-in_err-found t c =
    let ξ = view_setting c.args.setting in
    let Γ = view_env c.args.env.now in
    let s = state_of c.args.tags.now c.args.known.now in
    let specs = specs_of (map view_spec c.args.specs.now) in
    of_form (walk_specifiers ξ Γ (view_specifying c.args.how)) view_specified specs specs s (state_of c.walk_specs.new.tags c.walk_specs.new.known) c.from_residual.result refl
    (stopped _ _ s _ c.from_residual.ensures.1 c.in_err-found.ensures)

pub types::walk_specifiers-returns-in_err-judged : goal.types::walk_specifiers-returns-in_err-judged
types::walk_specifiers-returns-in_err-judged t c =
    let ξ = view_setting c.args.setting in
    let Γ = view_env c.args.env.now in
    let s = state_of c.args.tags.now c.args.known.now in
    let s1 = state_of c.walk_specs.new.tags c.walk_specs.new.known in
    let specs = specs_of (map view_spec c.args.specs.now) in
    let found = view_specified c.in_ok-found.found in
    let rule = c.specifies.ensures (facts_in ξ s1) ∙ ap (λ b. lowest (facts_in ξ s1) (n.Specifies b)) c.forms_type.ensures in
    of_form (walk_specifiers ξ Γ (view_specifying c.args.how)) view_specified specs specs s s1 c.from_residual-in_err-judged.result refl
    (next _ _ c.in_ok-found.ensures (stopped _ _ s1 _ c.from_residual-in_err-judged.ensures.1 (specifiers_stop ξ c.args.how.at found s1 c.specifies.result _ rule c.in_err-judged.ensures.err)))

pub types::walk_specifiers-returns : goal.types::walk_specifiers-returns
types::walk_specifiers-returns t c =
    let ξ = view_setting c.args.setting in
    let Γ = view_env c.args.env.now in
    let s = state_of c.args.tags.now c.args.known.now in
    let s1 = state_of c.walk_specs.new.tags c.walk_specs.new.known in
    let specs = specs_of (map view_spec c.args.specs.now) in
    let found = view_specified c.in_ok-found.found in
    let rule = c.specifies.ensures (facts_in ξ s1) ∙ ap (λ b. lowest (facts_in ξ s1) (n.Specifies b)) c.forms_type.ensures in
    of_form (walk_specifiers ξ Γ (view_specifying c.args.how)) view_specified specs specs s s1 (Ok c.in_ok-found.found) refl
    (next _ _ c.in_ok-found.ensures (next _ _ (specifiers_end ξ c.args.how.at found s1 c.specifies.result rule c.in_ok-judged.ensures.ok) (given refl)))

pub types::walk_specs-loop-spec-init : goal.types::walk_specs-loop-spec-init
types::walk_specs-loop-spec-init t c = specs_begin (view_setting c.args.setting) (view_env c.args.env.now) (view_specifying c.args.how) c.args.specs.now (view_specified c.nothing_specified-found.result) (state_of c.args.tags.now c.args.known.now) c.nothing_specified-found.ensures

pub types::walk_specs-returns-in_err-specifier : goal.types::walk_specs-returns-in_err-specifier
types::walk_specs-returns-in_err-specifier t c =
    let ξ = view_setting c.args.setting in
    let Γ = view_env c.args.env.now in
    let within : c.loop-spec.spec-index < length c.args.specs.now = omega arith in
    let p = err_from_is_err_and c.from_residual.result c.from_residual.ensures.1 in
    rw (p.1, p.2) (specs_stop ξ Γ (view_specifying c.args.how) c.args.specs.now c.loop-spec.spec-index c.spec-item.result (both_specified (view_specified c.loop-spec.found)) (state_of c.loop-spec.tags c.loop-spec.known) _ _ within c.spec-item.is c.in_err-specifier.ensures c.loop-spec.invariant)

pub types::walk_specs-loop-spec-preserved : goal.types::walk_specs-loop-spec-preserved
types::walk_specs-loop-spec-preserved t c =
    let ξ = view_setting c.args.setting in
    let Γ = view_env c.args.env.now in
    let within : c.loop-spec.spec-index < length c.args.specs.now = omega arith in
    specs_step ξ Γ (view_specifying c.args.how) c.args.specs.now c.loop-spec.spec-index c.spec-item.result (view_specified c.loop-spec.found) (view_specified c.add_specifier.new.found) (view_specifier c.in_ok-specifier.specifier) (state_of c.loop-spec.tags c.loop-spec.known) (state_of c.walk_spec.new.tags c.walk_spec.new.known) _ within c.spec-item.is c.in_ok-specifier.ensures c.in_ok-add_specifier.ensures c.loop-spec.invariant

pub types::walk_specs-returns : goal.types::walk_specs-returns
types::walk_specs-returns t c =
    let ξ = view_setting c.args.setting in
    let Γ = view_env c.args.env.now in
    let least : length c.args.specs.now ≤ c.loop-spec.spec-index = omega arith in
    specs_end ξ Γ (view_specifying c.args.how) c.args.specs.now c.loop-spec.spec-index (view_specified c.loop-spec.found) (state_of c.loop-spec.tags c.loop-spec.known) _ least c.loop-spec.invariant

pub types::walk_spec-returns-in_err-qualifier-in-Qual : goal.types::walk_spec-returns-in_err-qualifier-in-Qual
types::walk_spec-returns-in_err-qualifier-in-Qual t c =
    let ξ = view_setting c.args.setting in
    let Γ = view_env c.args.env.now in
    let s = state_of c.args.tags.now c.args.known.now in
    of_form (walk_spec ξ Γ (view_specifying c.args.how)) view_specifier (view_spec c.args.spec.now) (tree.QualSpec (view_qual c.in-Qual.qual)) s (state_of c.walk_qual.new.tags c.walk_qual.new.known) c.from_residual.result (ap view_spec c.in-Qual.is)
    (stopped _ _ s _ c.from_residual.ensures.1 c.in_err-qualifier-in-Qual.ensures)

pub types::walk_spec-returns-in_ok-qualifier-in-Qual : goal.types::walk_spec-returns-in_ok-qualifier-in-Qual
types::walk_spec-returns-in_ok-qualifier-in-Qual t c =
    let ξ = view_setting c.args.setting in
    let Γ = view_env c.args.env.now in
    let s = state_of c.args.tags.now c.args.known.now in
    of_form (walk_spec ξ Γ (view_specifying c.args.how)) view_specifier (view_spec c.args.spec.now) (tree.QualSpec (view_qual c.in-Qual.qual)) s (state_of c.walk_qual.new.tags c.walk_qual.new.known) (Ok (specifier.Qual c.in_ok-qualifier-in-Qual.qualifier)) (ap view_spec c.in-Qual.is)
    (next _ _ c.in_ok-qualifier-in-Qual.ensures (given refl))

pub types::walk_spec-returns-in_ok-number-in-Tag : goal.types::walk_spec-returns-in_ok-number-in-Tag
types::walk_spec-returns-in_ok-number-in-Tag t c =
    let ξ = view_setting c.args.setting in
    let Γ = view_env c.args.env.now in
    let s = state_of c.args.tags.now c.args.known.now in
    of_form (walk_spec ξ Γ (view_specifying c.args.how)) view_specifier (view_spec c.args.spec.now) (tree.TagSpec c.in-Tag.word c.in-Tag.tag) s (state_of c.refer.new.tags c.refer.new.known) (Ok (specifier.Struct c.in_ok-number-in-Tag.number)) (ap view_spec c.in-Tag.is)
    (next _ _ c.in_ok-number-in-Tag.ensures (given refl))

pub types::walk_spec-returns-in_err-all-in-Struct : goal.types::walk_spec-returns-in_err-all-in-Struct
types::walk_spec-returns-in_err-all-in-Struct t c =
    let ξ = view_setting c.args.setting in
    let Γ = view_env c.args.env.now in
    let s = state_of c.args.tags.now c.args.known.now in
    of_form (walk_spec ξ Γ (view_specifying c.args.how)) view_specifier (view_spec c.args.spec.now) (tree.StructSpec c.in-Struct.word c.in-Struct.tag c.in-Struct.open (view_members c.in-Struct.members) c.in-Struct.close) s (state_of c.walk_members.new.tags c.walk_members.new.known) c.from_residual-in_err-all-in-Struct.result (ap view_spec c.in-Struct.is ∙ struct_is c.in-Struct.word c.in-Struct.tag c.in-Struct.open c.in-Struct.members c.in-Struct.close)
    (next _ _ c.in_ok-number-in-Struct.ensures (stopped _ _ (state_of c.open_struct.new.tags c.open_struct.new.known) _ c.from_residual-in_err-all-in-Struct.ensures.1 (moved_stop (rest_of_lines ξ Γ []) c.as_slice.result.now c.in-Struct.members.items (state_of c.open_struct.new.tags c.open_struct.new.known) _ c.as_slice.ensures.value c.in_err-all-in-Struct.ensures)))

pub types::walk_spec-returns-in_err-close_struct-in-Struct : goal.types::walk_spec-returns-in_err-close_struct-in-Struct
types::walk_spec-returns-in_err-close_struct-in-Struct t c =
    let ξ = view_setting c.args.setting in
    let Γ = view_env c.args.env.now in
    let s = state_of c.args.tags.now c.args.known.now in
    of_form (walk_spec ξ Γ (view_specifying c.args.how)) view_specifier (view_spec c.args.spec.now) (tree.StructSpec c.in-Struct.word c.in-Struct.tag c.in-Struct.open (view_members c.in-Struct.members) c.in-Struct.close) s (state_of c.walk_members.new.tags c.close_struct.new.known) c.from_residual-in_err-close_struct-in-Struct.result (ap view_spec c.in-Struct.is ∙ struct_is c.in-Struct.word c.in-Struct.tag c.in-Struct.open c.in-Struct.members c.in-Struct.close)
    (next _ _ c.in_ok-number-in-Struct.ensures (next _ _ (moved (rest_of_lines ξ Γ []) c.as_slice.result.now c.in-Struct.members.items _ _ _ c.as_slice.ensures.value c.in_ok-all-in-Struct.ensures) (stopped _ _ (state_of c.walk_members.new.tags c.walk_members.new.known) _ c.from_residual-in_err-close_struct-in-Struct.ensures.1 (c.in_err-close_struct-in-Struct.ensures (view_tags c.walk_members.new.tags)))))

pub types::walk_spec-returns-in_ok-close_struct-in-Struct : goal.types::walk_spec-returns-in_ok-close_struct-in-Struct
types::walk_spec-returns-in_ok-close_struct-in-Struct t c =
    let ξ = view_setting c.args.setting in
    let Γ = view_env c.args.env.now in
    let s = state_of c.args.tags.now c.args.known.now in
    of_form (walk_spec ξ Γ (view_specifying c.args.how)) view_specifier (view_spec c.args.spec.now) (tree.StructSpec c.in-Struct.word c.in-Struct.tag c.in-Struct.open (view_members c.in-Struct.members) c.in-Struct.close) s (state_of c.walk_members.new.tags c.close_struct.new.known) (Ok (specifier.Struct c.in_ok-number-in-Struct.number)) (ap view_spec c.in-Struct.is ∙ struct_is c.in-Struct.word c.in-Struct.tag c.in-Struct.open c.in-Struct.members c.in-Struct.close)
    (next _ _ c.in_ok-number-in-Struct.ensures (next _ _ (moved (rest_of_lines ξ Γ []) c.as_slice.result.now c.in-Struct.members.items _ _ _ c.as_slice.ensures.value c.in_ok-all-in-Struct.ensures) (next _ _ (c.in_ok-close_struct-in-Struct.ensures (view_tags c.walk_members.new.tags)) (given refl))))

pub types::walk_quals-loop-qual-init : goal.types::walk_quals-loop-qual-init
types::walk_quals-loop-qual-init t c = quals_begin (view_setting c.args.setting) (view_env c.args.env.now) c.args.star c.args.quals.now (view_quals c.no_quals-all.result) (state_of c.args.tags.now c.args.known.now) c.no_quals-all.ensures

pub types::walk_quals-returns-in_err-qualifier : goal.types::walk_quals-returns-in_err-qualifier
types::walk_quals-returns-in_err-qualifier t c =
    let ξ = view_setting c.args.setting in
    let Γ = view_env c.args.env.now in
    let within : c.loop-qual.qual-index < length c.args.quals.now = omega arith in
    let p = err_from_is_err_and c.from_residual.result c.from_residual.ensures.1 in
    rw (p.1, p.2) (quals_stop ξ Γ c.args.star c.args.quals.now c.loop-qual.qual-index c.qual-item.result (both_quals (view_quals c.loop-qual.all)) (state_of c.loop-qual.tags c.loop-qual.known) _ _ within c.qual-item.is c.in_err-qualifier.ensures c.loop-qual.invariant)

pub types::walk_quals-loop-qual-preserved : goal.types::walk_quals-loop-qual-preserved
types::walk_quals-loop-qual-preserved t c =
    let ξ = view_setting c.args.setting in
    let Γ = view_env c.args.env.now in
    let within : c.loop-qual.qual-index < length c.args.quals.now = omega arith in
    quals_step ξ Γ c.args.star c.args.quals.now c.loop-qual.qual-index c.qual-item.result (view_quals c.loop-qual.all) (view_quals c.add_qual.new.quals) (view_qualifier c.in_ok-qualifier.qualifier) (state_of c.loop-qual.tags c.loop-qual.known) (state_of c.walk_qual.new.tags c.walk_qual.new.known) _ within c.qual-item.is c.in_ok-qualifier.ensures c.in_ok-add_qual.ensures c.loop-qual.invariant

pub types::walk_quals-returns : goal.types::walk_quals-returns
types::walk_quals-returns t c =
    let ξ = view_setting c.args.setting in
    let Γ = view_env c.args.env.now in
    let least : length c.args.quals.now ≤ c.loop-qual.qual-index = omega arith in
    quals_end ξ Γ c.args.star c.args.quals.now c.loop-qual.qual-index (view_quals c.loop-qual.all) (state_of c.loop-qual.tags c.loop-qual.known) _ least c.loop-qual.invariant

pub types::walk_qual-returns-in_err-found-in-Shared : goal.types::walk_qual-returns-in_err-found-in-Shared
types::walk_qual-returns-in_err-found-in-Shared t c =
    let ξ = view_setting c.args.setting in
    let Γ = view_env c.args.env.now in
    let s = state_of c.args.tags.now c.args.known.now in
    of_form (walk_qual ξ Γ c.args.star) view_qualifier (view_qual c.args.qual.now) (tree.Shared c.in-Shared.word (view_layout c.in-Shared.layout.value)) s (state_of c.walk_layout.new.tags c.walk_layout.new.known) c.from_residual.result (ap view_qual c.in-Shared.is)
    (stopped _ _ s _ c.from_residual.ensures.1 (moved_stop (λ (z : LayoutTree). walk_layout ξ Γ c.args.star (view_layout z)) c.deref.result.now c.in-Shared.layout.value s _ c.deref.ensures c.in_err-found-in-Shared.ensures))

pub types::walk_qual-returns-in_ok-found-in-Shared : goal.types::walk_qual-returns-in_ok-found-in-Shared
types::walk_qual-returns-in_ok-found-in-Shared t c =
    let ξ = view_setting c.args.setting in
    let Γ = view_env c.args.env.now in
    let s = state_of c.args.tags.now c.args.known.now in
    of_form (walk_qual ξ Γ c.args.star) view_qualifier (view_qual c.args.qual.now) (tree.Shared c.in-Shared.word (view_layout c.in-Shared.layout.value)) s (state_of c.walk_layout.new.tags c.walk_layout.new.known) (Ok (qualifier.Shared c.in_ok-found-in-Shared.found)) (ap view_qual c.in-Shared.is)
    (next _ _ (moved (λ (z : LayoutTree). walk_layout ξ Γ c.args.star (view_layout z)) c.deref.result.now c.in-Shared.layout.value _ _ _ c.deref.ensures c.in_ok-found-in-Shared.ensures) (given refl))

pub types::walk_layout-returns-in_err-judged-in-Star : goal.types::walk_layout-returns-in_err-judged-in-Star
types::walk_layout-returns-in_err-judged-in-Star t c =
    let ξ = view_setting c.args.setting in
    let Γ = view_env c.args.env.now in
    let s = state_of c.args.tags.now c.args.known.now in
    of_form (walk_layout ξ Γ c.args.star) view_blocks (view_layout c.args.layout.now) (tree.StarLayout c.in-Star.open c.in-Star.star c.in-Star.close) s s c.from_residual.result (ap view_layout c.in-Star.is)
    (stopped _ _ s _ c.from_residual.ensures.1 (judge_stops ξ c.in-Star.open.place (n.StarBlock c.args.star) s c.star_block.result _ (c.star_block.ensures (facts_in ξ s)) c.in_err-judged-in-Star.ensures.err))

pub types::walk_layout-returns-in_ok-judged-in-Star : goal.types::walk_layout-returns-in_ok-judged-in-Star
types::walk_layout-returns-in_ok-judged-in-Star t c =
    let ξ = view_setting c.args.setting in
    let Γ = view_env c.args.env.now in
    let s = state_of c.args.tags.now c.args.known.now in
    of_form (walk_layout ξ Γ c.args.star) view_blocks (view_layout c.args.layout.now) (tree.StarLayout c.in-Star.open c.in-Star.star c.in-Star.close) s s (Ok blocks.Star) (ap view_layout c.in-Star.is)
    (next _ _ (judge_goes ξ c.in-Star.open.place (n.StarBlock c.args.star) s c.star_block.result (c.star_block.ensures (facts_in ξ s)) c.in_ok-judged-in-Star.ensures.ok) (given refl))

pub types::walk_layout-returns-in_err-a-in-Block : goal.types::walk_layout-returns-in_err-a-in-Block
types::walk_layout-returns-in_err-a-in-Block t c =
    let ξ = view_setting c.args.setting in
    let Γ = view_env c.args.env.now in
    let s = state_of c.args.tags.now c.args.known.now in
    of_form (walk_layout ξ Γ c.args.star) view_blocks (view_layout c.args.layout.now) (tree.BlockLayout c.in-Block.open (view c.in-Block.size.value) c.in-Block.close) s (state_of c.walk.new.tags c.walk.new.known) c.from_residual-in_err-a-in-Block.result (ap view_layout c.in-Block.is)
    (stopped _ _ s _ c.from_residual-in_err-a-in-Block.ensures.1 (moved_stop (λ (z : Tree). walk ξ Γ n.Plain (view z)) c.deref.result.now c.in-Block.size.value s _ c.deref.ensures c.in_err-a-in-Block.ensures))

pub types::walk_layout-returns-in_err-constant-in-Block : goal.types::walk_layout-returns-in_err-constant-in-Block
types::walk_layout-returns-in_err-constant-in-Block t c =
    let ξ = view_setting c.args.setting in
    let Γ = view_env c.args.env.now in
    let s = state_of c.args.tags.now c.args.known.now in
    of_form (walk_layout ξ Γ c.args.star) view_blocks (view_layout c.args.layout.now) (tree.BlockLayout c.in-Block.open (view c.in-Block.size.value) c.in-Block.close) s (state_of c.walk.new.tags c.walk.new.known) c.from_residual-in_err-constant-in-Block.result (ap view_layout c.in-Block.is)
    (next _ _ (moved (λ (z : Tree). walk ξ Γ n.Plain (view z)) c.deref.result.now c.in-Block.size.value _ _ _ c.deref.ensures c.in_ok-a-in-Block.ensures) (stopped _ _ (state_of c.walk.new.tags c.walk.new.known) _ c.from_residual-in_err-constant-in-Block.ensures.1 (moved_stop (λ (z : RustExpr). constantly ξ (view_expr z)) c.deref-in-Block.result.now c.in_ok-a-in-Block.a.value (state_of c.walk.new.tags c.walk.new.known) _ c.deref-in-Block.ensures (c.in_err-constant-in-Block.ensures (state_of c.walk.new.tags c.walk.new.known)))))

pub types::walk_layout-returns-in_err-judged-in-Block : goal.types::walk_layout-returns-in_err-judged-in-Block
types::walk_layout-returns-in_err-judged-in-Block t c =
    let ξ = view_setting c.args.setting in
    let Γ = view_env c.args.env.now in
    let s = state_of c.args.tags.now c.args.known.now in
    of_form (walk_layout ξ Γ c.args.star) view_blocks (view_layout c.args.layout.now) (tree.BlockLayout c.in-Block.open (view c.in-Block.size.value) c.in-Block.close) s (state_of c.walk.new.tags c.walk.new.known) c.from_residual-in_err-judged-in-Block.result (ap view_layout c.in-Block.is)
    (next _ _ (moved (λ (z : Tree). walk ξ Γ n.Plain (view z)) c.deref.result.now c.in-Block.size.value _ _ _ c.deref.ensures c.in_ok-a-in-Block.ensures) (next _ _ (moved (λ (z : RustExpr). constantly ξ (view_expr z)) c.deref-in-Block.result.now c.in_ok-a-in-Block.a.value _ _ _ c.deref-in-Block.ensures (c.in_ok-constant-in-Block.ensures (state_of c.walk.new.tags c.walk.new.known))) (stopped _ _ (state_of c.walk.new.tags c.walk.new.known) _ c.from_residual-in_err-judged-in-Block.ensures.1 (judge_stops ξ c.in-Block.open.place (n.Block (view_attr c.in_ok-a-in-Block.a.value.attr)) (state_of c.walk.new.tags c.walk.new.known) c.block.result _ (c.block.ensures (facts_in ξ (state_of c.walk.new.tags c.walk.new.known)) ∙ ap (λ (e : RustExpr). lowest (facts_in ξ (state_of c.walk.new.tags c.walk.new.known)) (n.Block (view_attr e.attr))) c.deref-in-Block-2.ensures) c.in_err-judged-in-Block.ensures.err))))

pub types::walk_layout-returns-in_ok-judged-in-Block : goal.types::walk_layout-returns-in_ok-judged-in-Block
types::walk_layout-returns-in_ok-judged-in-Block t c =
    let ξ = view_setting c.args.setting in
    let Γ = view_env c.args.env.now in
    let s = state_of c.args.tags.now c.args.known.now in
    of_form (walk_layout ξ Γ c.args.star) view_blocks (view_layout c.args.layout.now) (tree.BlockLayout c.in-Block.open (view c.in-Block.size.value) c.in-Block.close) s (state_of c.walk.new.tags c.walk.new.known) (Ok (blocks.Size c.block_size.result)) (ap view_layout c.in-Block.is)
    (next _ _ (moved (λ (z : Tree). walk ξ Γ n.Plain (view z)) c.deref.result.now c.in-Block.size.value _ _ _ c.deref.ensures c.in_ok-a-in-Block.ensures) (next _ _ (moved (λ (z : RustExpr). constantly ξ (view_expr z)) c.deref-in-Block.result.now c.in_ok-a-in-Block.a.value _ _ _ c.deref-in-Block.ensures (c.in_ok-constant-in-Block.ensures (state_of c.walk.new.tags c.walk.new.known))) (next _ _ (judge_goes ξ c.in-Block.open.place (n.Block (view_attr c.in_ok-a-in-Block.a.value.attr)) (state_of c.walk.new.tags c.walk.new.known) c.block.result (c.block.ensures (facts_in ξ (state_of c.walk.new.tags c.walk.new.known)) ∙ ap (λ (e : RustExpr). lowest (facts_in ξ (state_of c.walk.new.tags c.walk.new.known)) (n.Block (view_attr e.attr))) c.deref-in-Block-2.ensures) c.in_ok-judged-in-Block.ensures.ok) (given (ap layout.Blocks (sym c.block_size.ensures))))))

pub types::walk_pointers-returns-in_err-quals : goal.types::walk_pointers-returns-in_err-quals
types::walk_pointers-returns-in_err-quals t c =
    let ξ = view_setting c.args.setting in
    let Γ = view_env c.args.env.now in
    let within : c.loop-i.i < length c.args.pointers.now = omega arith in
    let p = err_from_is_err_and c.from_residual.result c.from_residual.ensures.1 in
    rw (p.1, p.2) (stars_stop ξ Γ c.args.star c.is_last-last.result (view_shaped c.loop-i.t) c.args.pointers.now c.loop-i.i c.index-pointers-i.result (state_of c.loop-i.tags c.loop-i.known) _ _ within c.index-pointers-i.is c.is_last-last.ensures (moved_stop (rest_of_quals ξ Γ c.is_last-last.result) c.as_slice.result.now c.index-pointers-i.result.quals.items (state_of c.loop-i.tags c.loop-i.known) _ c.as_slice.ensures.value c.in_err-quals.ensures) c.loop-i.invariant)

pub types::walk_pointers-loop-i-preserved : goal.types::walk_pointers-loop-i-preserved
types::walk_pointers-loop-i-preserved t c =
    let ξ = view_setting c.args.setting in
    let Γ = view_env c.args.env.now in
    let within : c.loop-i.i < length c.args.pointers.now = omega arith in
    stars_step ξ Γ c.args.star c.is_last-last.result (view_shaped c.loop-i.t) (view_shaped c.in_ok-t.t) c.args.pointers.now c.loop-i.i c.index-pointers-i.result (view_quals c.in_ok-quals.quals) (state_of c.loop-i.tags c.loop-i.known) (state_of c.walk_quals.new.tags c.walk_quals.new.known) _ within c.index-pointers-i.is c.is_last-last.ensures (moved (rest_of_quals ξ Γ c.is_last-last.result) c.as_slice.result.now c.index-pointers-i.result.quals.items _ _ _ c.as_slice.ensures.value c.in_ok-quals.ensures) c.in_ok-t.ensures c.loop-i.invariant

pub types::walk_sizes-loop-part-init : goal.types::walk_sizes-loop-part-init
types::walk_sizes-loop-part-init t c = sizes_begin (view_setting c.args.setting) (view_env c.args.env.now) c.args.sizes.now c.new-all.result.items (state_of c.args.tags.now c.args.known.now) c.new-all.ensures.items

pub types::walk_sizes-returns-in_err-a : goal.types::walk_sizes-returns-in_err-a
types::walk_sizes-returns-in_err-a t c =
    let ξ = view_setting c.args.setting in
    let Γ = view_env c.args.env.now in
    let within : c.loop-part.part-index < length c.args.sizes.now = omega arith in
    let p = err_from_is_err_and c.from_residual.result c.from_residual.ensures.1 in
    rw (p.1, p.2) (sizes_stop ξ Γ c.args.sizes.now c.loop-part.part-index c.part-item.result (λ (cs : List Constant). c.loop-part.all.items ++ cs) (state_of c.loop-part.tags c.loop-part.known) _ _ within c.part-item.is (moved_stop (λ (z : Tree). walk ξ Γ n.Plain (view z)) c.deref.result.now c.part-item.result.size.value (state_of c.loop-part.tags c.loop-part.known) _ c.deref.ensures c.in_err-a.ensures) c.loop-part.invariant)

pub types::walk_sizes-returns-in_err-constantly : goal.types::walk_sizes-returns-in_err-constantly
types::walk_sizes-returns-in_err-constantly t c =
    let ξ = view_setting c.args.setting in
    let Γ = view_env c.args.env.now in
    let within : c.loop-part.part-index < length c.args.sizes.now = omega arith in
    let p = err_from_is_err_and c.from_residual-in_err-constantly.result c.from_residual-in_err-constantly.ensures.1 in
    rw (p.1, p.2) (sizes_stop_behind ξ Γ c.args.sizes.now c.loop-part.part-index c.part-item.result (λ (cs : List Constant). c.loop-part.all.items ++ cs) (view_expr c.in_ok-a.a.value) (state_of c.loop-part.tags c.loop-part.known) (state_of c.walk.new.tags c.walk.new.known) _ _ within c.part-item.is (moved (λ (z : Tree). walk ξ Γ n.Plain (view z)) c.deref.result.now c.part-item.result.size.value _ _ _ c.deref.ensures c.in_ok-a.ensures) (moved_stop (λ (z : RustExpr). constantly ξ (view_expr z)) c.deref-in-loop-part.result.now c.in_ok-a.a.value (state_of c.walk.new.tags c.walk.new.known) _ c.deref-in-loop-part.ensures (c.in_err-constantly.ensures (state_of c.walk.new.tags c.walk.new.known))) c.loop-part.invariant)

pub types::walk_sizes-loop-part-preserved : goal.types::walk_sizes-loop-part-preserved
types::walk_sizes-loop-part-preserved t c =
    let ξ = view_setting c.args.setting in
    let Γ = view_env c.args.env.now in
    let within : c.loop-part.part-index < length c.args.sizes.now = omega arith in
    sizes_step ξ Γ c.args.sizes.now c.loop-part.part-index c.part-item.result c.loop-part.all.items c.push.new.self.items (view_expr c.in_ok-a.a.value) c.in_ok-constantly.field-0 (state_of c.loop-part.tags c.loop-part.known) (state_of c.walk.new.tags c.walk.new.known) _ within c.part-item.is (moved (λ (z : Tree). walk ξ Γ n.Plain (view z)) c.deref.result.now c.part-item.result.size.value _ _ _ c.deref.ensures c.in_ok-a.ensures) (moved (λ (z : RustExpr). constantly ξ (view_expr z)) c.deref-in-loop-part.result.now c.in_ok-a.a.value _ _ _ c.deref-in-loop-part.ensures (c.in_ok-constantly.ensures (state_of c.walk.new.tags c.walk.new.known))) c.in_ok-push.ensures.items c.loop-part.invariant

pub types::walk_sizes-returns : goal.types::walk_sizes-returns
types::walk_sizes-returns t c =
    let ξ = view_setting c.args.setting in
    let Γ = view_env c.args.env.now in
    let least : length c.args.sizes.now ≤ c.loop-part.part-index = omega arith in
    sizes_end ξ Γ c.args.sizes.now c.loop-part.part-index c.loop-part.all.items (state_of c.loop-part.tags c.loop-part.known) _ least c.loop-part.invariant

pub types::walk_members-returns-in_err-found : goal.types::walk_members-returns-in_err-found
types::walk_members-returns-in_err-found t c =
    let ξ = view_setting c.args.setting in
    let Γ = view_env c.args.env.now in
    let place = c.specs_place-at.ensures ∙ ap (λ (l : List Spec). specs_place (specs_of (map view_spec l))) c.as_slice-specs.ensures.value in
    let within : c.loop-line.line-index < length c.args.lines.now = omega arith in
    let p = err_from_is_err_and c.from_residual.result c.from_residual.ensures.1 in
    rw (p.1, p.2) (lines_stop ξ Γ (map types.view_member c.loop-line.members.all.items) c.args.lines.now c.loop-line.line-index c.line-item.result (state_of c.loop-line.tags c.loop-line.known) _ _ within c.line-item.is (line_stops (λ (ms : List Member). ms) ξ Γ (view_specifying c.in_type.result) (map types.view_member c.loop-line.members.all.items) (view_specs (out-Member c.line-item.result).specs) (view_declarator (out-Member c.line-item.result).first.value) (view_next_declarators (out-Member c.line-item.result).more) (out-Member c.line-item.result).semicolon (members_of (map view_member (drop (c.loop-line.line-index + 1) c.args.lines.now))) (state_of c.loop-line.tags c.loop-line.known) (state_of c.loop-line.tags c.loop-line.known) _ (Err _) (c.in_type.ensures ∙ ap in_type place) (moved_stop (all_specifiers ξ Γ (view_specifying c.in_type.result)) c.as_slice-specs.result.now (out-Member c.line-item.result).specs.items (state_of c.loop-line.tags c.loop-line.known) _ c.as_slice-specs.ensures.value c.in_err-found.ensures) refl).met c.loop-line.invariant)

pub types::walk_members-returns-in_err-walk_member : goal.types::walk_members-returns-in_err-walk_member
types::walk_members-returns-in_err-walk_member t c =
    let ξ = view_setting c.args.setting in
    let Γ = view_env c.args.env.now in
    let place = c.specs_place-at.ensures ∙ ap (λ (l : List Spec). specs_place (specs_of (map view_spec l))) c.as_slice-specs.ensures.value in
    let within : c.loop-line.line-index < length c.args.lines.now = omega arith in
    let p = err_from_is_err_and c.from_residual-in_err-walk_member.result c.from_residual-in_err-walk_member.ensures.1 in
    rw (p.1, p.2) (lines_stop ξ Γ (map types.view_member c.loop-line.members.all.items) c.args.lines.now c.loop-line.line-index c.line-item.result (state_of c.loop-line.tags c.loop-line.known) _ _ within c.line-item.is (line_stops_at_first (λ (ms : List Member). ms) ξ Γ (view_specifying c.in_type.result) (map types.view_member c.loop-line.members.all.items) (view_specs (out-Member c.line-item.result).specs) (view_declarator (out-Member c.line-item.result).first.value) (view_next_declarators (out-Member c.line-item.result).more) (out-Member c.line-item.result).semicolon (members_of (map view_member (drop (c.loop-line.line-index + 1) c.args.lines.now))) (state_of c.loop-line.tags c.loop-line.known) (state_of c.walk_specifiers.new.tags c.walk_specifiers.new.known) (state_of c.loop-line.tags c.loop-line.known) (view_specified c.in_ok-found.found) (view_shaped c.specified_type-t.result) _ (Err _) (c.in_type.ensures ∙ ap in_type place) c.specified_type-t.ensures (moved (all_specifiers ξ Γ (view_specifying c.in_type.result)) c.as_slice-specs.result.now (out-Member c.line-item.result).specs.items _ _ _ c.as_slice-specs.ensures.value c.in_ok-found.ensures) (moved_stop (λ (z : DeclaratorTree). walk_member ξ Γ (view_shaped c.specified_type-t.result) (map types.view_member c.loop-line.members.all.items) (view_declarator z)) c.deref.result.now (out-Member c.line-item.result).first.value (state_of c.walk_specifiers.new.tags c.walk_specifiers.new.known) _ c.deref.ensures c.in_err-walk_member.ensures) refl).met c.loop-line.invariant)

pub types::walk_members-returns-in_err-walk_next_members : goal.types::walk_members-returns-in_err-walk_next_members
types::walk_members-returns-in_err-walk_next_members t c =
    let ξ = view_setting c.args.setting in
    let Γ = view_env c.args.env.now in
    let place = c.specs_place-at.ensures ∙ ap (λ (l : List Spec). specs_place (specs_of (map view_spec l))) c.as_slice-specs.ensures.value in
    let within : c.loop-line.line-index < length c.args.lines.now = omega arith in
    let p = err_from_is_err_and c.from_residual-in_err-walk_next_members.result c.from_residual-in_err-walk_next_members.ensures.1 in
    rw (p.1, p.2) (lines_stop ξ Γ (map types.view_member c.loop-line.members.all.items) c.args.lines.now c.loop-line.line-index c.line-item.result (state_of c.loop-line.tags c.loop-line.known) _ _ within c.line-item.is (line_stops_at_others (λ (ms : List Member). ms) ξ Γ (view_specifying c.in_type.result) (map types.view_member c.loop-line.members.all.items) (map types.view_member c.walk_member.new.members.all.items) (view_specs (out-Member c.line-item.result).specs) (view_declarator (out-Member c.line-item.result).first.value) (view_next_declarators (out-Member c.line-item.result).more) (out-Member c.line-item.result).semicolon (members_of (map view_member (drop (c.loop-line.line-index + 1) c.args.lines.now))) (state_of c.loop-line.tags c.loop-line.known) (state_of c.walk_specifiers.new.tags c.walk_specifiers.new.known) (state_of c.walk_member.new.tags c.walk_member.new.known) (state_of c.loop-line.tags c.loop-line.known) (view_specified c.in_ok-found.found) (view_shaped c.specified_type-t.result) _ (Err _) (c.in_type.ensures ∙ ap in_type place) c.specified_type-t.ensures (moved (all_specifiers ξ Γ (view_specifying c.in_type.result)) c.as_slice-specs.result.now (out-Member c.line-item.result).specs.items _ _ _ c.as_slice-specs.ensures.value c.in_ok-found.ensures) (moved (λ (z : DeclaratorTree). walk_member ξ Γ (view_shaped c.specified_type-t.result) (map types.view_member c.loop-line.members.all.items) (view_declarator z)) c.deref.result.now (out-Member c.line-item.result).first.value _ _ _ c.deref.ensures c.in_ok-walk_member.ensures) (moved_stop (rest_of_declarators ξ Γ (view_shaped c.specified_type-t.result) (map types.view_member c.walk_member.new.members.all.items)) c.as_slice-more.result.now (out-Member c.line-item.result).more.items (state_of c.walk_member.new.tags c.walk_member.new.known) _ c.as_slice-more.ensures.value c.in_err-walk_next_members.ensures) refl).met c.loop-line.invariant)

pub types::walk_members-returns-in_err-judged : goal.types::walk_members-returns-in_err-judged
types::walk_members-returns-in_err-judged t c =
    let ξ = view_setting c.args.setting in
    let Γ = view_env c.args.env.now in
    let place = c.specs_place-at.ensures ∙ ap (λ (l : List Spec). specs_place (specs_of (map view_spec l))) c.as_slice-specs.ensures.value in
    let within : c.loop-line.line-index < length c.args.lines.now = omega arith in
    let p = err_from_is_err_and c.from_residual-in_err-judged.result c.from_residual-in_err-judged.ensures.1 in
    rw (p.1, p.2) (lines_stop ξ Γ (map types.view_member c.loop-line.members.all.items) c.args.lines.now c.loop-line.line-index c.line-item.result (state_of c.loop-line.tags c.loop-line.known) _ _ within c.line-item.is (line_stops_itself (λ (ms : List Member). ms) ξ Γ (view_specifying c.in_type.result) (map types.view_member c.loop-line.members.all.items) (map types.view_member c.walk_member.new.members.all.items) (map types.view_member c.walk_next_members.new.members.all.items) (view_specs (out-Member c.line-item.result).specs) (view_declarator (out-Member c.line-item.result).first.value) (view_next_declarators (out-Member c.line-item.result).more) (out-Member c.line-item.result).semicolon (members_of (map view_member (drop (c.loop-line.line-index + 1) c.args.lines.now))) (state_of c.loop-line.tags c.loop-line.known) (state_of c.walk_specifiers.new.tags c.walk_specifiers.new.known) (state_of c.walk_member.new.tags c.walk_member.new.known) (state_of c.walk_next_members.new.tags c.walk_next_members.new.known) (state_of c.loop-line.tags c.loop-line.known) (view_specified c.in_ok-found.found) (view_shaped c.specified_type-t.result) c.specifiers_form.result c.specs_place-at.result c.specifies.result _ (Err _) (c.in_type.ensures ∙ ap in_type place) c.specified_type-t.ensures c.specifiers_form.ensures place (moved (all_specifiers ξ Γ (view_specifying c.in_type.result)) c.as_slice-specs.result.now (out-Member c.line-item.result).specs.items _ _ _ c.as_slice-specs.ensures.value c.in_ok-found.ensures) (moved (λ (z : DeclaratorTree). walk_member ξ Γ (view_shaped c.specified_type-t.result) (map types.view_member c.loop-line.members.all.items) (view_declarator z)) c.deref.result.now (out-Member c.line-item.result).first.value _ _ _ c.deref.ensures c.in_ok-walk_member.ensures) (moved (rest_of_declarators ξ Γ (view_shaped c.specified_type-t.result) (map types.view_member c.walk_member.new.members.all.items)) c.as_slice-more.result.now (out-Member c.line-item.result).more.items _ _ _ c.as_slice-more.ensures.value c.in_ok-walk_next_members.ensures) (c.specifies.ensures (facts_in ξ (state_of c.walk_next_members.new.tags c.walk_next_members.new.known))) c.in_err-judged.ensures.err refl).met c.loop-line.invariant)

pub types::walk_members-loop-line-preserved : goal.types::walk_members-loop-line-preserved
types::walk_members-loop-line-preserved t c =
    let ξ = view_setting c.args.setting in
    let Γ = view_env c.args.env.now in
    let place = c.specs_place-at.ensures ∙ ap (λ (l : List Spec). specs_place (specs_of (map view_spec l))) c.as_slice-specs.ensures.value in
    let within : c.loop-line.line-index < length c.args.lines.now = omega arith in
    lines_step ξ Γ (map types.view_member c.loop-line.members.all.items) (map types.view_member c.walk_next_members.new.members.all.items) c.args.lines.now c.loop-line.line-index c.line-item.result (state_of c.loop-line.tags c.loop-line.known) (state_of c.walk_next_members.new.tags c.note_end.new.known) _ within c.line-item.is
    (line_goes ξ Γ (view_specifying c.in_type.result) (map types.view_member c.loop-line.members.all.items) (map types.view_member c.walk_member.new.members.all.items) (map types.view_member c.walk_next_members.new.members.all.items) (view_specs (out-Member c.line-item.result).specs) (view_declarator (out-Member c.line-item.result).first.value) (view_next_declarators (out-Member c.line-item.result).more) (out-Member c.line-item.result).semicolon (members_of (map view_member (drop (c.loop-line.line-index + 1) c.args.lines.now))) (state_of c.loop-line.tags c.loop-line.known) (state_of c.walk_specifiers.new.tags c.walk_specifiers.new.known) (state_of c.walk_member.new.tags c.walk_member.new.known) (state_of c.walk_next_members.new.tags c.walk_next_members.new.known) (state_of c.walk_next_members.new.tags c.note_end.new.known) (view_specified c.in_ok-found.found) (view_shaped c.specified_type-t.result) c.specifiers_form.result c.specs_place-at.result c.specifies.result (c.in_type.ensures ∙ ap in_type place) c.specified_type-t.ensures c.specifiers_form.ensures place (moved (all_specifiers ξ Γ (view_specifying c.in_type.result)) c.as_slice-specs.result.now (out-Member c.line-item.result).specs.items _ _ _ c.as_slice-specs.ensures.value c.in_ok-found.ensures) (moved (λ (z : DeclaratorTree). walk_member ξ Γ (view_shaped c.specified_type-t.result) (map types.view_member c.loop-line.members.all.items) (view_declarator z)) c.deref.result.now (out-Member c.line-item.result).first.value _ _ _ c.deref.ensures c.in_ok-walk_member.ensures) (moved (rest_of_declarators ξ Γ (view_shaped c.specified_type-t.result) (map types.view_member c.walk_member.new.members.all.items)) c.as_slice-more.result.now (out-Member c.line-item.result).more.items _ _ _ c.as_slice-more.ensures.value c.in_ok-walk_next_members.ensures) (c.specifies.ensures (facts_in ξ (state_of c.walk_next_members.new.tags c.walk_next_members.new.known))) c.in_ok-judged.ensures.ok (c.note_end.ensures (view_tags c.walk_next_members.new.tags)))
    c.loop-line.invariant

pub types::walk_next_members-returns-in_err-walk_member : goal.types::walk_next_members-returns-in_err-walk_member
types::walk_next_members-returns-in_err-walk_member t c =
    let ξ = view_setting c.args.setting in
    let Γ = view_env c.args.env.now in
    let within : c.loop-part.part-index < length c.args.more.now = omega arith in
    let p = err_from_is_err_and c.from_residual.result c.from_residual.ensures.1 in
    rw (p.1, p.2) (declarators_stop ξ Γ (view_shaped c.args.t.now) (map types.view_member c.loop-part.members.all.items) c.args.more.now c.loop-part.part-index c.part-item.result (state_of c.loop-part.tags c.loop-part.known) _ _ within c.part-item.is (moved_stop (λ (z : DeclaratorTree). walk_member ξ Γ (view_shaped c.args.t.now) (map types.view_member c.loop-part.members.all.items) (view_declarator z)) c.deref.result.now c.part-item.result.declarator.value (state_of c.loop-part.tags c.loop-part.known) _ c.deref.ensures c.in_err-walk_member.ensures) c.loop-part.invariant)

pub types::walk_next_members-loop-part-preserved : goal.types::walk_next_members-loop-part-preserved
types::walk_next_members-loop-part-preserved t c =
    let ξ = view_setting c.args.setting in
    let Γ = view_env c.args.env.now in
    let within : c.loop-part.part-index < length c.args.more.now = omega arith in
    declarators_step ξ Γ (view_shaped c.args.t.now) (map types.view_member c.loop-part.members.all.items) (map types.view_member c.walk_member.new.members.all.items) c.args.more.now c.loop-part.part-index c.part-item.result (state_of c.loop-part.tags c.loop-part.known) (state_of c.walk_member.new.tags c.walk_member.new.known) _ within c.part-item.is (moved (λ (z : DeclaratorTree). walk_member ξ Γ (view_shaped c.args.t.now) (map types.view_member c.loop-part.members.all.items) (view_declarator z)) c.deref.result.now c.part-item.result.declarator.value _ _ _ c.deref.ensures c.in_ok-walk_member.ensures) c.loop-part.invariant

pub types::walk_member-returns-in_err-t-in-Object : goal.types::walk_member-returns-in_err-t-in-Object
types::walk_member-returns-in_err-t-in-Object t c =
    let ξ = view_setting c.args.setting in
    let Γ = view_env c.args.env.now in
    let s = state_of c.args.tags.now c.args.known.now in
    let p = err_from_is_err_and c.from_residual-in_err-t-in-Object.result c.from_residual-in_err-t-in-Object.ensures.1 in
    rw (p.1, p.2) (of_form (walk_member ξ Γ (view_shaped c.args.t.now) (map types.view_member c.args.members.now.all.items)) (λ (ms : List Member). ms) (view_declarator c.args.declarator.now) (tree.ObjectDeclarator (view_pointers c.in-Object.pointers) c.in-Object.name (view_dimensions c.in-Object.sizes)) s s (Err _) (ap view_declarator c.in-Object.is ∙ object_is c.in-Object.pointers c.in-Object.name c.in-Object.sizes)
    (stopped _ _ s _ refl (moved_stop (λ (t : Shaped). rest_of_stars ξ Γ false t c.in-Object.pointers.items) (view_shaped c.in_ok-t.t) (view_shaped c.args.t.now) s _ c.in_ok-t.ensures (moved_stop (rest_of_stars ξ Γ false (view_shaped c.in_ok-t.t)) c.as_slice.result.now c.in-Object.pointers.items s _ c.as_slice.ensures.value c.in_err-t-in-Object.ensures))))

pub types::walk_member-returns-in_err-sizes-in-Object : goal.types::walk_member-returns-in_err-sizes-in-Object
types::walk_member-returns-in_err-sizes-in-Object t c =
    let ξ = view_setting c.args.setting in
    let Γ = view_env c.args.env.now in
    let s = state_of c.args.tags.now c.args.known.now in
    let p = err_from_is_err_and c.from_residual-in_err-sizes-in-Object.result c.from_residual-in_err-sizes-in-Object.ensures.1 in
    rw (p.1, p.2) (of_form (walk_member ξ Γ (view_shaped c.args.t.now) (map types.view_member c.args.members.now.all.items)) (λ (ms : List Member). ms) (view_declarator c.args.declarator.now) (tree.ObjectDeclarator (view_pointers c.in-Object.pointers) c.in-Object.name (view_dimensions c.in-Object.sizes)) s s (Err _) (ap view_declarator c.in-Object.is ∙ object_is c.in-Object.pointers c.in-Object.name c.in-Object.sizes)
    (next _ _ (moved (λ (t : Shaped). rest_of_stars ξ Γ false t c.in-Object.pointers.items) (view_shaped c.in_ok-t.t) (view_shaped c.args.t.now) _ _ _ c.in_ok-t.ensures (moved (rest_of_stars ξ Γ false (view_shaped c.in_ok-t.t)) c.as_slice.result.now c.in-Object.pointers.items _ _ _ c.as_slice.ensures.value c.in_ok-t-in-Object.ensures)) (stopped _ _ (state_of c.walk_pointers.new.tags c.walk_pointers.new.known) _ refl (moved_stop (rest_of_sizes ξ Γ) c.as_slice-in-Object.result.now c.in-Object.sizes.items (state_of c.walk_pointers.new.tags c.walk_pointers.new.known) _ c.as_slice-in-Object.ensures.value c.in_err-sizes-in-Object.ensures))))

pub types::walk_member-returns-in_err-judged-in-Object : goal.types::walk_member-returns-in_err-judged-in-Object
types::walk_member-returns-in_err-judged-in-Object t c =
    let ξ = view_setting c.args.setting in
    let Γ = view_env c.args.env.now in
    let s = state_of c.args.tags.now c.args.known.now in
    let p = err_from_is_err_and c.from_residual-in_err-judged-in-Object.result c.from_residual-in_err-judged-in-Object.ensures.1 in
    rw (p.1, p.2) (of_form (walk_member ξ Γ (view_shaped c.args.t.now) (map types.view_member c.args.members.now.all.items)) (λ (ms : List Member). ms) (view_declarator c.args.declarator.now) (tree.ObjectDeclarator (view_pointers c.in-Object.pointers) c.in-Object.name (view_dimensions c.in-Object.sizes)) s s (Err _) (ap view_declarator c.in-Object.is ∙ object_is c.in-Object.pointers c.in-Object.name c.in-Object.sizes)
    (member_stops (λ (ms : List Member). ms) ξ Γ (view_shaped c.args.t.now) (view_shaped c.in_ok-t-in-Object.t) (map types.view_member c.args.members.now.all.items) (view_pointers c.in-Object.pointers) c.in-Object.name (view_dimensions c.in-Object.sizes) s (state_of c.walk_pointers.new.tags c.walk_pointers.new.known) (state_of c.walk_sizes.new.tags c.walk_sizes.new.known) s c.in_ok-sizes-in-Object.sizes.items (view_formed c.in_ok-t-in-Object-2.t) c.has_member-again.result c.declarator_place-at.result c.member.result _ (Err _) (moved (λ (t : Shaped). rest_of_stars ξ Γ false t c.in-Object.pointers.items) (view_shaped c.in_ok-t.t) (view_shaped c.args.t.now) _ _ _ c.in_ok-t.ensures (moved (rest_of_stars ξ Γ false (view_shaped c.in_ok-t.t)) c.as_slice.result.now c.in-Object.pointers.items _ _ _ c.as_slice.ensures.value c.in_ok-t-in-Object.ensures)) (moved (rest_of_sizes ξ Γ) c.as_slice-in-Object.result.now c.in-Object.sizes.items _ _ _ c.as_slice-in-Object.ensures.value c.in_ok-sizes-in-Object.ensures) c.in_ok-t-in-Object-2.ensures (c.has_member-again.ensures ∙ ap (has_member (map types.view_member c.args.members.now.all.items)) c.spelling-text.ensures) (c.declarator_place-at.ensures ∙ ap declarator_place (ap view_declarator c.in-Object.is ∙ object_is c.in-Object.pointers c.in-Object.name c.in-Object.sizes)) (c.member.ensures ξ.threads) c.in_err-judged-in-Object.ensures.err refl))

pub types::walk_member-returns-in_ok-add_member-in-Object : goal.types::walk_member-returns-in_ok-add_member-in-Object
types::walk_member-returns-in_ok-add_member-in-Object t c =
    let ξ = view_setting c.args.setting in
    let Γ = view_env c.args.env.now in
    let s = state_of c.args.tags.now c.args.known.now in
    of_form (walk_member ξ Γ (view_shaped c.args.t.now) (map types.view_member c.args.members.now.all.items)) (λ (ms : List Member). ms) (view_declarator c.args.declarator.now) (tree.ObjectDeclarator (view_pointers c.in-Object.pointers) c.in-Object.name (view_dimensions c.in-Object.sizes)) s (state_of c.walk_sizes.new.tags c.walk_sizes.new.known) (Ok (map types.view_member c.add_member.new.members.all.items)) (ap view_declarator c.in-Object.is ∙ object_is c.in-Object.pointers c.in-Object.name c.in-Object.sizes)
    (member_ends (λ (ms : List Member). ms) (map types.view_member c.add_member.new.members.all.items) ξ Γ (view_shaped c.args.t.now) (view_shaped c.in_ok-t-in-Object.t) (map types.view_member c.args.members.now.all.items) (view_pointers c.in-Object.pointers) c.in-Object.name (view_dimensions c.in-Object.sizes) s (state_of c.walk_pointers.new.tags c.walk_pointers.new.known) (state_of c.walk_sizes.new.tags c.walk_sizes.new.known) c.in_ok-sizes-in-Object.sizes.items (view_formed c.in_ok-t-in-Object-2.t) c.has_member-again.result c.declarator_place-at.result c.member.result (moved (λ (t : Shaped). rest_of_stars ξ Γ false t c.in-Object.pointers.items) (view_shaped c.in_ok-t.t) (view_shaped c.args.t.now) _ _ _ c.in_ok-t.ensures (moved (rest_of_stars ξ Γ false (view_shaped c.in_ok-t.t)) c.as_slice.result.now c.in-Object.pointers.items _ _ _ c.as_slice.ensures.value c.in_ok-t-in-Object.ensures)) (moved (rest_of_sizes ξ Γ) c.as_slice-in-Object.result.now c.in-Object.sizes.items _ _ _ c.as_slice-in-Object.ensures.value c.in_ok-sizes-in-Object.ensures) c.in_ok-t-in-Object-2.ensures (c.has_member-again.ensures ∙ ap (has_member (map types.view_member c.args.members.now.all.items)) c.spelling-text.ensures) (c.declarator_place-at.ensures ∙ ap declarator_place (ap view_declarator c.in-Object.is ∙ object_is c.in-Object.pointers c.in-Object.name c.in-Object.sizes)) (c.member.ensures ξ.threads) c.in_ok-judged-in-Object.ensures.ok (c.in_ok-add_member-in-Object.ensures ∙ ap (λ (name : List ℕ). with_member (map types.view_member c.args.members.now.all.items) name (view_formed c.in_ok-t-in-Object-2.t).ctype) c.spelling-text.ensures))

pub types::walk_member-returns-in_err-t-in-Function : goal.types::walk_member-returns-in_err-t-in-Function
types::walk_member-returns-in_err-t-in-Function t c =
    let ξ = view_setting c.args.setting in
    let Γ = view_env c.args.env.now in
    let s = state_of c.args.tags.now c.args.known.now in
    let p = err_from_is_err_and c.from_residual-in_err-t-in-Function.result c.from_residual-in_err-t-in-Function.ensures.1 in
    rw (p.1, p.2) (of_form (walk_member ξ Γ (view_shaped c.args.t.now) (map types.view_member c.args.members.now.all.items)) (λ (ms : List Member). ms) (view_declarator c.args.declarator.now) (tree.FunctionDeclarator (view_pointers c.in-Function.pointers) c.in-Function.name (view_parameters c.in-Function.parameters.value)) s s (Err _) (ap view_declarator c.in-Function.is ∙ function_is c.in-Function.pointers c.in-Function.name c.in-Function.parameters)
    (stopped _ _ s _ refl (moved_stop (λ (t : Shaped). rest_of_stars ξ Γ false t c.in-Function.pointers.items) (view_shaped c.in_ok-t.t) (view_shaped c.args.t.now) s _ c.in_ok-t.ensures (moved_stop (rest_of_stars ξ Γ false (view_shaped c.in_ok-t.t)) c.as_slice-in-Function.result.now c.in-Function.pointers.items s _ c.as_slice-in-Function.ensures.value c.in_err-t-in-Function.ensures))))

pub types::walk_member-returns-in_err-walk_parameters-in-Function : goal.types::walk_member-returns-in_err-walk_parameters-in-Function
types::walk_member-returns-in_err-walk_parameters-in-Function t c =
    let ξ = view_setting c.args.setting in
    let Γ = view_env c.args.env.now in
    let s = state_of c.args.tags.now c.args.known.now in
    let p = err_from_is_err_and c.from_residual-in_err-walk_parameters-in-Function.result c.from_residual-in_err-walk_parameters-in-Function.ensures.1 in
    rw (p.1, p.2) (of_form (walk_member ξ Γ (view_shaped c.args.t.now) (map types.view_member c.args.members.now.all.items)) (λ (ms : List Member). ms) (view_declarator c.args.declarator.now) (tree.FunctionDeclarator (view_pointers c.in-Function.pointers) c.in-Function.name (view_parameters c.in-Function.parameters.value)) s s (Err _) (ap view_declarator c.in-Function.is ∙ function_is c.in-Function.pointers c.in-Function.name c.in-Function.parameters)
    (function_stops (λ (ms : List Member). ms) ξ Γ (view_env c.in_ok-scope-in-Function.scope) (view_shaped c.args.t.now) (view_shaped c.in_ok-t-in-Function.t) (map types.view_member c.args.members.now.all.items) (view_pointers c.in-Function.pointers) c.in-Function.name (view_parameters c.in-Function.parameters.value) s (state_of c.walk_pointers-in-Function.new.tags c.walk_pointers-in-Function.new.known) (state_of c.enclosed-inner.result c.walk_pointers-in-Function.new.known) s _ (Err _) (moved (λ (t : Shaped). rest_of_stars ξ Γ false t c.in-Function.pointers.items) (view_shaped c.in_ok-t.t) (view_shaped c.args.t.now) _ _ _ c.in_ok-t.ensures (moved (rest_of_stars ξ Γ false (view_shaped c.in_ok-t.t)) c.as_slice-in-Function.result.now c.in-Function.pointers.items _ _ _ c.as_slice-in-Function.ensures.value c.in_ok-t-in-Function.ensures)) c.in_ok-scope-in-Function.ensures (ap (λ (ts : List Tag). state_with ts c.walk_pointers-in-Function.new.known) c.enclosed-inner.ensures) (moved_stop (λ (z : ParametersTree). walk_parameters ξ (view_env c.in_ok-scope-in-Function.scope) (view_parameters z)) c.deref.result.now c.in-Function.parameters.value (state_of c.enclosed-inner.result c.walk_pointers-in-Function.new.known) _ c.deref.ensures c.in_err-walk_parameters-in-Function.ensures) refl))

pub types::walk_member-returns-in_ok-walk_parameters-in-Function : goal.types::walk_member-returns-in_ok-walk_parameters-in-Function
types::walk_member-returns-in_ok-walk_parameters-in-Function t c =
    let ξ = view_setting c.args.setting in
    let Γ = view_env c.args.env.now in
    let s = state_of c.args.tags.now c.args.known.now in
    function_is_none _ ξ Γ (view_env c.in_ok-scope-in-Function.scope) (view_shaped c.args.t.now) (view_shaped c.in_ok-t-in-Function.t) (map types.view_member c.args.members.now.all.items) (view_declarator c.args.declarator.now) (view_pointers c.in-Function.pointers) c.in-Function.name (view_parameters c.in-Function.parameters.value) s (state_of c.walk_pointers-in-Function.new.tags c.walk_pointers-in-Function.new.known) (state_of c.enclosed-inner.result c.walk_pointers-in-Function.new.known) (state_of c.walk_parameters.new.tags c.walk_parameters.new.known) _ _ c.declarator_place-at.result c.member_function.result c.judged-in-Function.result (ap view_declarator c.in-Function.is ∙ function_is c.in-Function.pointers c.in-Function.name c.in-Function.parameters) (moved (λ (t : Shaped). rest_of_stars ξ Γ false t c.in-Function.pointers.items) (view_shaped c.in_ok-t.t) (view_shaped c.args.t.now) _ _ _ c.in_ok-t.ensures (moved (rest_of_stars ξ Γ false (view_shaped c.in_ok-t.t)) c.as_slice-in-Function.result.now c.in-Function.pointers.items _ _ _ c.as_slice-in-Function.ensures.value c.in_ok-t-in-Function.ensures)) c.in_ok-scope-in-Function.ensures (ap (λ (ts : List Tag). state_with ts c.walk_pointers-in-Function.new.known) c.enclosed-inner.ensures) (moved (λ (z : ParametersTree). walk_parameters ξ (view_env c.in_ok-scope-in-Function.scope) (view_parameters z)) c.deref.result.now c.in-Function.parameters.value _ _ _ c.deref.ensures c.in_ok-walk_parameters-in-Function.ensures) (c.declarator_place-at.ensures ∙ ap declarator_place (ap view_declarator c.in-Function.is ∙ function_is c.in-Function.pointers c.in-Function.name c.in-Function.parameters)) (c.member_function.ensures (facts_in ξ (state_of c.walk_parameters.new.tags c.walk_parameters.new.known))) c.judged-in-Function.ensures.ok c.judged-in-Function.ensures.err

pub types::walk_parameters-returns-in_err-walk_parameter-in-Filled : goal.types::walk_parameters-returns-in_err-walk_parameter-in-Filled
types::walk_parameters-returns-in_err-walk_parameter-in-Filled t c =
    let ξ = view_setting c.args.setting in
    let Γ = view_env c.args.scope.now in
    let s = state_of c.args.tags.now c.args.known.now in
    let p = err_from_is_err_and c.from_residual.result c.from_residual.ensures.1 in
    rw (p.1, p.2) (of_form (walk_parameters ξ Γ) (λ (d : Declared). d) (view_parameters c.args.parameters.now) (tree.SomeParameters c.in-Filled.open (view_parameter c.in-Filled.first.value) (view_next_parameters c.in-Filled.more) c.in-Filled.close) s s (Err _) (ap view_parameters c.in-Filled.is ∙ parameters_is c.in-Filled.open c.in-Filled.first c.in-Filled.more c.in-Filled.close)
    (stopped _ _ s _ refl (moved_stop (λ (l : List CType). walk_parameter ξ (let d : Declared = record { types = map types.view l; scope = Γ } in d) (view_parameter c.in-Filled.first.value)) c.new-all.result.items [] s _ c.new-all.ensures.items (moved_stop (λ (z : ParameterTree). walk_parameter ξ (let d : Declared = record { types = map types.view c.new-all.result.items; scope = Γ } in d) (view_parameter z)) c.deref.result.now c.in-Filled.first.value s _ c.deref.ensures c.in_err-walk_parameter-in-Filled.ensures))))

pub types::walk_parameters-returns-in_err-walk_next_parameters-in-Filled : goal.types::walk_parameters-returns-in_err-walk_next_parameters-in-Filled
types::walk_parameters-returns-in_err-walk_next_parameters-in-Filled t c =
    let ξ = view_setting c.args.setting in
    let Γ = view_env c.args.scope.now in
    let s = state_of c.args.tags.now c.args.known.now in
    let p = err_from_is_err_and c.from_residual-in_err-walk_next_parameters-in-Filled.result c.from_residual-in_err-walk_next_parameters-in-Filled.ensures.1 in
    rw (p.1, p.2) (of_form (walk_parameters ξ Γ) (λ (d : Declared). d) (view_parameters c.args.parameters.now) (tree.SomeParameters c.in-Filled.open (view_parameter c.in-Filled.first.value) (view_next_parameters c.in-Filled.more) c.in-Filled.close) s s (Err _) (ap view_parameters c.in-Filled.is ∙ parameters_is c.in-Filled.open c.in-Filled.first c.in-Filled.more c.in-Filled.close)
    (next _ _ (moved (λ (l : List CType). walk_parameter ξ (let d : Declared = record { types = map types.view l; scope = Γ } in d) (view_parameter c.in-Filled.first.value)) c.new-all.result.items [] _ _ _ c.new-all.ensures.items (moved (λ (z : ParameterTree). walk_parameter ξ (let d : Declared = record { types = map types.view c.new-all.result.items; scope = Γ } in d) (view_parameter z)) c.deref.result.now c.in-Filled.first.value _ _ _ c.deref.ensures c.in_ok-walk_parameter-in-Filled.ensures)) (record { met = moved_stop (rest_of_parameters ξ (let d : Declared = record { types = map types.view c.walk_parameter.new.all.items; scope = view_env c.walk_parameter.new.scope } in d)) c.as_slice.result.now c.in-Filled.more.items (state_of c.walk_parameter.new.tags c.walk_parameter.new.known) _ c.as_slice.ensures.value c.in_err-walk_next_parameters-in-Filled.ensures })))

pub types::walk_parameters-returns-in_ok-walk_next_parameters-in-Filled : goal.types::walk_parameters-returns-in_ok-walk_next_parameters-in-Filled
types::walk_parameters-returns-in_ok-walk_next_parameters-in-Filled t c =
    let ξ = view_setting c.args.setting in
    let Γ = view_env c.args.scope.now in
    let s = state_of c.args.tags.now c.args.known.now in
    let behind : Declared = record { types = map types.view c.walk_next_parameters.new.all.items; scope = view_env c.walk_next_parameters.new.scope } in
    of_form (walk_parameters ξ Γ) (λ (d : Declared). d) (view_parameters c.args.parameters.now) (tree.SomeParameters c.in-Filled.open (view_parameter c.in-Filled.first.value) (view_next_parameters c.in-Filled.more) c.in-Filled.close) s (state_of c.walk_next_parameters.new.tags c.walk_next_parameters.new.known) (Ok behind) (ap view_parameters c.in-Filled.is ∙ parameters_is c.in-Filled.open c.in-Filled.first c.in-Filled.more c.in-Filled.close)
    (next _ _ (moved (λ (l : List CType). walk_parameter ξ (let d : Declared = record { types = map types.view l; scope = Γ } in d) (view_parameter c.in-Filled.first.value)) c.new-all.result.items [] _ _ _ c.new-all.ensures.items (moved (λ (z : ParameterTree). walk_parameter ξ (let d : Declared = record { types = map types.view c.new-all.result.items; scope = Γ } in d) (view_parameter z)) c.deref.result.now c.in-Filled.first.value _ _ _ c.deref.ensures c.in_ok-walk_parameter-in-Filled.ensures)) (arrives (moved (rest_of_parameters ξ (let d : Declared = record { types = map types.view c.walk_parameter.new.all.items; scope = view_env c.walk_parameter.new.scope } in d)) c.as_slice.result.now c.in-Filled.more.items _ _ _ c.as_slice.ensures.value c.in_ok-walk_next_parameters-in-Filled.ensures) refl))

pub types::walk_next_parameters-returns-in_err-walk_parameter : goal.types::walk_next_parameters-returns-in_err-walk_parameter
types::walk_next_parameters-returns-in_err-walk_parameter t c =
    let ξ = view_setting c.args.setting in
    let before : Declared = record { types = map types.view c.loop-part.all.items; scope = view_env c.loop-part.scope } in
    let within : c.loop-part.part-index < length c.args.more.now = omega arith in
    let p = err_from_is_err_and c.from_residual.result c.from_residual.ensures.1 in
    rw (p.1, p.2) (parameters_stop ξ before c.args.more.now c.loop-part.part-index c.part-item.result (state_of c.loop-part.tags c.loop-part.known) _ _ within c.part-item.is (moved_stop (λ (z : ParameterTree). walk_parameter ξ before (view_parameter z)) c.deref.result.now (out-NextParameter c.part-item.result).parameter.value (state_of c.loop-part.tags c.loop-part.known) _ c.deref.ensures c.in_err-walk_parameter.ensures) c.loop-part.invariant)

pub types::walk_next_parameters-loop-part-preserved : goal.types::walk_next_parameters-loop-part-preserved
types::walk_next_parameters-loop-part-preserved t c =
    let ξ = view_setting c.args.setting in
    let before : Declared = record { types = map types.view c.loop-part.all.items; scope = view_env c.loop-part.scope } in
    let behind : Declared = record { types = map types.view c.walk_parameter.new.all.items; scope = view_env c.walk_parameter.new.scope } in
    let within : c.loop-part.part-index < length c.args.more.now = omega arith in
    parameters_step ξ before behind c.args.more.now c.loop-part.part-index c.part-item.result (state_of c.loop-part.tags c.loop-part.known) (state_of c.walk_parameter.new.tags c.walk_parameter.new.known) _ within c.part-item.is (moved (λ (z : ParameterTree). walk_parameter ξ before (view_parameter z)) c.deref.result.now (out-NextParameter c.part-item.result).parameter.value _ _ _ c.deref.ensures c.in_ok-walk_parameter.ensures) c.loop-part.invariant

pub types::walk_parameter-returns-in_err-found : goal.types::walk_parameter-returns-in_err-found
types::walk_parameter-returns-in_err-found t c =
    let ξ = view_setting c.args.setting in
    let before : Declared = record { types = map types.view c.args.all.now.items; scope = view_env c.args.scope.now } in
    let place = c.specs_place-at.ensures ∙ ap (λ (l : List Spec). specs_place (specs_of (map view_spec l))) c.as_slice-specs.ensures.value in
    let s = state_of c.args.tags.now c.args.known.now in
    let p = err_from_is_err_and c.from_residual.result c.from_residual.ensures.1 in
    rw (p.1, p.2) (of_form (walk_parameter ξ before) (λ (d : Declared). d) (view_parameter c.args.x.now) (tree.Parametric (view_specs (out-Parameter c.args.x.now).specs) (view_pointers (out-Parameter c.args.x.now).pointers) (out-Parameter c.args.x.now).name (view_array (out-Parameter c.args.x.now).array)) s s (Err _) (parameter_is c.args.x.now)
    (parameter_stops (λ (d : Declared). d) ξ before (view_specifying c.in_type.result) (view_specs (out-Parameter c.args.x.now).specs) (view_pointers (out-Parameter c.args.x.now).pointers) (out-Parameter c.args.x.now).name (view_array (out-Parameter c.args.x.now).array) s s _ (Err _) (c.in_type.ensures ∙ ap in_type place) (moved_stop (all_specifiers ξ before.scope (view_specifying c.in_type.result)) c.as_slice-specs.result.now (out-Parameter c.args.x.now).specs.items s _ c.as_slice-specs.ensures.value c.in_err-found.ensures) refl))

pub types::walk_parameter-returns-in_err-t : goal.types::walk_parameter-returns-in_err-t
types::walk_parameter-returns-in_err-t t c =
    let ξ = view_setting c.args.setting in
    let before : Declared = record { types = map types.view c.args.all.now.items; scope = view_env c.args.scope.now } in
    let place = c.specs_place-at.ensures ∙ ap (λ (l : List Spec). specs_place (specs_of (map view_spec l))) c.as_slice-specs.ensures.value in
    let s = state_of c.args.tags.now c.args.known.now in
    let p = err_from_is_err_and c.from_residual-in_err-t.result c.from_residual-in_err-t.ensures.1 in
    rw (p.1, p.2) (of_form (walk_parameter ξ before) (λ (d : Declared). d) (view_parameter c.args.x.now) (tree.Parametric (view_specs (out-Parameter c.args.x.now).specs) (view_pointers (out-Parameter c.args.x.now).pointers) (out-Parameter c.args.x.now).name (view_array (out-Parameter c.args.x.now).array)) s s (Err _) (parameter_is c.args.x.now)
    (parameter_stops_at_stars (λ (d : Declared). d) ξ before (view_specifying c.in_type.result) (view_specs (out-Parameter c.args.x.now).specs) (view_pointers (out-Parameter c.args.x.now).pointers) (out-Parameter c.args.x.now).name (view_array (out-Parameter c.args.x.now).array) s (state_of c.walk_specifiers.new.tags c.walk_specifiers.new.known) s (view_specified c.in_ok-found.found) (view_shaped c.specified_type-t.result) _ (Err _) (c.in_type.ensures ∙ ap in_type place) c.specified_type-t.ensures (moved (all_specifiers ξ before.scope (view_specifying c.in_type.result)) c.as_slice-specs.result.now (out-Parameter c.args.x.now).specs.items _ _ _ c.as_slice-specs.ensures.value c.in_ok-found.ensures) (moved_stop (rest_of_stars ξ before.scope false (view_shaped c.specified_type-t.result)) c.as_slice-stars.result.now (out-Parameter c.args.x.now).pointers.items (state_of c.walk_specifiers.new.tags c.walk_specifiers.new.known) _ c.as_slice-stars.ensures.value c.in_err-t.ensures) refl))

pub types::walk_parameter-returns-in_err-t-2 : goal.types::walk_parameter-returns-in_err-t-2
types::walk_parameter-returns-in_err-t-2 t c =
    let ξ = view_setting c.args.setting in
    let before : Declared = record { types = map types.view c.args.all.now.items; scope = view_env c.args.scope.now } in
    let place = c.specs_place-at.ensures ∙ ap (λ (l : List Spec). specs_place (specs_of (map view_spec l))) c.as_slice-specs.ensures.value in
    let s = state_of c.args.tags.now c.args.known.now in
    let p = err_from_is_err_and c.from_residual-in_err-t-2.result c.from_residual-in_err-t-2.ensures.1 in
    rw (p.1, p.2) (of_form (walk_parameter ξ before) (λ (d : Declared). d) (view_parameter c.args.x.now) (tree.Parametric (view_specs (out-Parameter c.args.x.now).specs) (view_pointers (out-Parameter c.args.x.now).pointers) (out-Parameter c.args.x.now).name (view_array (out-Parameter c.args.x.now).array)) s s (Err _) (parameter_is c.args.x.now)
    (parameter_stops_at_array (λ (d : Declared). d) ξ before (view_specifying c.in_type.result) (view_specs (out-Parameter c.args.x.now).specs) (view_pointers (out-Parameter c.args.x.now).pointers) (out-Parameter c.args.x.now).name (view_array (out-Parameter c.args.x.now).array) s (state_of c.walk_specifiers.new.tags c.walk_specifiers.new.known) (state_of c.walk_pointers.new.tags c.walk_pointers.new.known) s (view_specified c.in_ok-found.found) (view_shaped c.specified_type-t.result) (view_shaped c.in_ok-t.t) (view_shaped c.named_type-t.result) c.specifiers_form.result _ (Err _) (c.in_type.ensures ∙ ap in_type place) c.specified_type-t.ensures c.specifiers_form.ensures c.named_type-t.ensures (moved (all_specifiers ξ before.scope (view_specifying c.in_type.result)) c.as_slice-specs.result.now (out-Parameter c.args.x.now).specs.items _ _ _ c.as_slice-specs.ensures.value c.in_ok-found.ensures) (moved (rest_of_stars ξ before.scope false (view_shaped c.specified_type-t.result)) c.as_slice-stars.result.now (out-Parameter c.args.x.now).pointers.items _ _ _ c.as_slice-stars.ensures.value c.in_ok-t.ensures) c.in_err-t-2.ensures refl))

pub types::walk_parameter-returns-in_err-judged : goal.types::walk_parameter-returns-in_err-judged
types::walk_parameter-returns-in_err-judged t c =
    let ξ = view_setting c.args.setting in
    let before : Declared = record { types = map types.view c.args.all.now.items; scope = view_env c.args.scope.now } in
    let place = c.specs_place-at.ensures ∙ ap (λ (l : List Spec). specs_place (specs_of (map view_spec l))) c.as_slice-specs.ensures.value in
    let s = state_of c.args.tags.now c.args.known.now in
    let p = err_from_is_err_and c.from_residual-in_err-judged.result c.from_residual-in_err-judged.ensures.1 in
    rw (p.1, p.2) (of_form (walk_parameter ξ before) (λ (d : Declared). d) (view_parameter c.args.x.now) (tree.Parametric (view_specs (out-Parameter c.args.x.now).specs) (view_pointers (out-Parameter c.args.x.now).pointers) (out-Parameter c.args.x.now).name (view_array (out-Parameter c.args.x.now).array)) s s (Err _) (parameter_is c.args.x.now)
    (parameter_stops_itself (λ (d : Declared). d) ξ before (view_specifying c.in_type.result) (view_specs (out-Parameter c.args.x.now).specs) (view_pointers (out-Parameter c.args.x.now).pointers) (out-Parameter c.args.x.now).name (view_array (out-Parameter c.args.x.now).array) s (state_of c.walk_specifiers.new.tags c.walk_specifiers.new.known) (state_of c.walk_pointers.new.tags c.walk_pointers.new.known) (state_of c.walk_array.new.tags c.walk_array.new.known) s (view_specified c.in_ok-found.found) (view_shaped c.specified_type-t.result) (view_shaped c.in_ok-t.t) (view_shaped c.named_type-t.result) c.specifiers_form.result c.is_again-again.result (view_formed c.in_ok-t-2.t) c.specs_place-at.result c.parameter.result _ (Err _) (c.in_type.ensures ∙ ap in_type place) c.specified_type-t.ensures c.specifiers_form.ensures c.named_type-t.ensures c.is_again-again.ensures place (moved (all_specifiers ξ before.scope (view_specifying c.in_type.result)) c.as_slice-specs.result.now (out-Parameter c.args.x.now).specs.items _ _ _ c.as_slice-specs.ensures.value c.in_ok-found.ensures) (moved (rest_of_stars ξ before.scope false (view_shaped c.specified_type-t.result)) c.as_slice-stars.result.now (out-Parameter c.args.x.now).pointers.items _ _ _ c.as_slice-stars.ensures.value c.in_ok-t.ensures) c.in_ok-t-2.ensures (c.parameter.ensures ξ.threads) c.in_err-judged.ensures.err refl))

pub types::walk_parameter-returns : goal.types::walk_parameter-returns
types::walk_parameter-returns t c =
    let ξ = view_setting c.args.setting in
    let before : Declared = record { types = map types.view c.args.all.now.items; scope = view_env c.args.scope.now } in
    let place = c.specs_place-at.ensures ∙ ap (λ (l : List Spec). specs_place (specs_of (map view_spec l))) c.as_slice-specs.ensures.value in
    let s = state_of c.args.tags.now c.args.known.now in
    let behind : Declared = record { types = map types.view c.add_parameter.new.types.items; scope = view_env c.add_parameter.new.scope } in
    of_form (walk_parameter ξ before) (λ (d : Declared). d) (view_parameter c.args.x.now) (tree.Parametric (view_specs (out-Parameter c.args.x.now).specs) (view_pointers (out-Parameter c.args.x.now).pointers) (out-Parameter c.args.x.now).name (view_array (out-Parameter c.args.x.now).array)) s (state_of c.walk_array.new.tags c.walk_array.new.known) (Ok behind) (parameter_is c.args.x.now)
    (parameter_ends (λ (d : Declared). d) behind ξ before (view_specifying c.in_type.result) (view_specs (out-Parameter c.args.x.now).specs) (view_pointers (out-Parameter c.args.x.now).pointers) (out-Parameter c.args.x.now).name (view_array (out-Parameter c.args.x.now).array) s (state_of c.walk_specifiers.new.tags c.walk_specifiers.new.known) (state_of c.walk_pointers.new.tags c.walk_pointers.new.known) (state_of c.walk_array.new.tags c.walk_array.new.known) (view_specified c.in_ok-found.found) (view_shaped c.specified_type-t.result) (view_shaped c.in_ok-t.t) (view_shaped c.named_type-t.result) c.specifiers_form.result c.is_again-again.result (view_formed c.in_ok-t-2.t) c.specs_place-at.result c.parameter.result (c.in_type.ensures ∙ ap in_type place) c.specified_type-t.ensures c.specifiers_form.ensures c.named_type-t.ensures c.is_again-again.ensures place (moved (all_specifiers ξ before.scope (view_specifying c.in_type.result)) c.as_slice-specs.result.now (out-Parameter c.args.x.now).specs.items _ _ _ c.as_slice-specs.ensures.value c.in_ok-found.ensures) (moved (rest_of_stars ξ before.scope false (view_shaped c.specified_type-t.result)) c.as_slice-stars.result.now (out-Parameter c.args.x.now).pointers.items _ _ _ c.as_slice-stars.ensures.value c.in_ok-t.ensures) c.in_ok-t-2.ensures (c.parameter.ensures ξ.threads) c.in_ok-judged.ensures.ok c.in_ok-add_parameter.ensures)

pub types::walk_array-returns-in_err-a-in-Sized : goal.types::walk_array-returns-in_err-a-in-Sized
types::walk_array-returns-in_err-a-in-Sized t c =
    let ξ = view_setting c.args.setting in
    let Γ = view_env c.args.env.now in
    let s = state_of c.args.tags.now c.args.known.now in
    of_form (walk_array ξ Γ (view_shaped c.args.t)) view_formed (view_array c.args.array.now) (tree.SizedArray c.in-Sized.open (view c.in-Sized.size.value) c.in-Sized.close) s (state_of c.walk.new.tags c.walk.new.known) c.from_residual-in_err-a-in-Sized.result (ap view_array c.in-Sized.is)
    (stopped _ _ s _ c.from_residual-in_err-a-in-Sized.ensures.1 (moved_stop (λ (z : Tree). walk ξ Γ n.Plain (view z)) c.deref.result.now c.in-Sized.size.value s _ c.deref.ensures c.in_err-a-in-Sized.ensures))

pub types::walk_array-returns-in_err-size-in-Sized : goal.types::walk_array-returns-in_err-size-in-Sized
types::walk_array-returns-in_err-size-in-Sized t c =
    let ξ = view_setting c.args.setting in
    let Γ = view_env c.args.env.now in
    let s = state_of c.args.tags.now c.args.known.now in
    of_form (walk_array ξ Γ (view_shaped c.args.t)) view_formed (view_array c.args.array.now) (tree.SizedArray c.in-Sized.open (view c.in-Sized.size.value) c.in-Sized.close) s (state_of c.walk.new.tags c.walk.new.known) c.from_residual-in_err-size-in-Sized.result (ap view_array c.in-Sized.is)
    (next _ _ (moved (λ (z : Tree). walk ξ Γ n.Plain (view z)) c.deref.result.now c.in-Sized.size.value _ _ _ c.deref.ensures c.in_ok-a-in-Sized.ensures) (stopped _ _ (state_of c.walk.new.tags c.walk.new.known) _ c.from_residual-in_err-size-in-Sized.ensures.1 (moved_stop (λ (z : RustExpr). constantly ξ (view_expr z)) c.deref-in-Sized.result.now c.in_ok-a-in-Sized.a.value (state_of c.walk.new.tags c.walk.new.known) _ c.deref-in-Sized.ensures (c.in_err-size-in-Sized.ensures (state_of c.walk.new.tags c.walk.new.known)))))

pub types::walk_array-returns-in_ok-parameter_array-in-Sized : goal.types::walk_array-returns-in_ok-parameter_array-in-Sized
types::walk_array-returns-in_ok-parameter_array-in-Sized t c =
    let ξ = view_setting c.args.setting in
    let Γ = view_env c.args.env.now in
    let s = state_of c.args.tags.now c.args.known.now in
    of_form (walk_array ξ Γ (view_shaped c.args.t)) view_formed (view_array c.args.array.now) (tree.SizedArray c.in-Sized.open (view c.in-Sized.size.value) c.in-Sized.close) s (state_of c.walk.new.tags c.walk.new.known) (Ok c.in_ok-parameter_array-in-Sized.field-0) (ap view_array c.in-Sized.is)
    (next _ _ (moved (λ (z : Tree). walk ξ Γ n.Plain (view z)) c.deref.result.now c.in-Sized.size.value _ _ _ c.deref.ensures c.in_ok-a-in-Sized.ensures) (next _ _ (moved (λ (z : RustExpr). constantly ξ (view_expr z)) c.deref-in-Sized.result.now c.in_ok-a-in-Sized.a.value _ _ _ c.deref-in-Sized.ensures (c.in_ok-size-in-Sized.ensures (state_of c.walk.new.tags c.walk.new.known))) (given (sym c.in_ok-parameter_array-in-Sized.ensures))))

pub types::walk_type-walk_pointers-requires : goal.types::walk_type-walk_pointers-requires
types::walk_type-walk_pointers-requires t c =
    let e = ap (most pointer.the_size) c.as_slice-2.ensures.value in
    let h = stars_of_type c.args.t.now in
    (omega (arith, e, h, c.decreases), tt)

pub types::walk_type-walk_sizes-requires : goal.types::walk_type-walk_sizes-requires
types::walk_type-walk_sizes-requires t c =
    let e = ap (most dimension.the_size) c.as_slice-3.ensures.value in
    let h = sizes_of_type c.args.t.now in
    (omega (arith, e, h, c.decreases), tt)

pub types::walk_parameter-walk_pointers-requires : goal.types::walk_parameter-walk_pointers-requires
types::walk_parameter-walk_pointers-requires t c =
    let e = ap (most pointer.the_size) c.as_slice-stars.ensures.value in
    let h = stars_of_parameter c.args.x.now in
    grind (arith, e, h)

pub types::walk_members-walk_next_members-requires : goal.types::walk_members-walk_next_members-requires
types::walk_members-walk_next_members-requires t c =
    let within : c.loop-line.line-index < length c.args.lines.now = omega arith in
    let e = ap (most declarator.the_size) c.as_slice-more.ensures.value in
    let h = others_of_line c.line-item.result in
    let i = ap line.the_size c.line-item.is in
    let k = at_most line.the_size c.args.lines.now c.loop-line.line-index c.line-item.result within in
    (omega (arith, e, h, i, k, c.decreases), tt)
