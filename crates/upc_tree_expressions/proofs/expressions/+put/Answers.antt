use Rattle.std.proofs.Common.{ap, ◌∙◌, rules, arith}
use Rattle.std.proofs.lemmas.Grind.{common_steps}
use Rattle.upc_tree.specs.Expression.{spell, spell_arguments, spell_type, spell_spec, spell_declarator, spell_parameters, spell_parameter}
use Rattle.upc_tree.specs.layer.Lists.{spell_member}
use Rattle.upc_tree.specs.layer.View.{view, view_arguments, view_spec, view_declarator, view_parameters}
use Rattle.upc_tree.proofs.Rows.{comma_is, filled_is, type_is, struct_is, member_is, object_is, function_is, parameters_is, parameter_is}
use Rattle.upc_tree_expressions.proofs.expressions.+put.Goals as goal

pub put_arguments-returns-in_ok-put_next_exprs-in-Filled : goal.put_arguments-returns-in_ok-put_next_exprs-in-Filled
put_arguments-returns-in_ok-put_next_exprs-in-Filled t c =
    let v = ap (λ x. spell_arguments x c.args.out.now) (ap view_arguments c.in-Filled.is ∙ filled_is c.in-Filled.first c.in-Filled.more c.in-Filled.close) in
    first_of (search rules, grind (arith, common_steps))

pub put_declarator-returns-in_ok-put_name-in-Object : goal.put_declarator-returns-in_ok-put_name-in-Object
put_declarator-returns-in_ok-put_name-in-Object t c =
    let v = ap (λ x. spell_declarator x c.args.out.now) (ap view_declarator c.in-Object.is ∙ object_is c.in-Object.pointers c.in-Object.name c.in-Object.sizes) in
    first_of (search rules, grind (arith, common_steps))

pub put_declarator-returns-in_ok-put_name-in-Function : goal.put_declarator-returns-in_ok-put_name-in-Function
put_declarator-returns-in_ok-put_name-in-Function t c =
    let v = ap (λ x. spell_declarator x c.args.out.now) (ap view_declarator c.in-Function.is ∙ function_is c.in-Function.pointers c.in-Function.name c.in-Function.parameters) in
    first_of (search rules, grind (arith, common_steps))

pub put_expr-returns-in_ok-put_next_exprs-in-Comma : goal.put_expr-returns-in_ok-put_next_exprs-in-Comma
put_expr-returns-in_ok-put_next_exprs-in-Comma t c =
    let v = ap (λ x. spell x c.args.out.now) (ap view c.in-Comma.is ∙ comma_is c.in-Comma.first c.in-Comma.more) in
    first_of (search rules, grind (arith, common_steps))

pub put_member-returns : goal.put_member-returns
put_member-returns t c =
    let v = ap (λ x. spell_member x c.args.out.now) (member_is c.args.member.now) in
    first_of (search rules, grind (arith, common_steps))

pub put_parameter-returns : goal.put_parameter-returns
put_parameter-returns t c =
    let v = ap (λ x. spell_parameter x c.args.out.now) (parameter_is c.args.parameter.now) in
    first_of (search rules, grind (arith, common_steps))

pub put_parameters-returns-in_ok-put_parameter-in-Filled : goal.put_parameters-returns-in_ok-put_parameter-in-Filled
put_parameters-returns-in_ok-put_parameter-in-Filled t c =
    let v = ap (λ x. spell_parameters x c.args.out.now) (ap view_parameters c.in-Filled.is ∙ parameters_is c.in-Filled.open c.in-Filled.first c.in-Filled.more c.in-Filled.close) in
    first_of (search rules, grind (arith, common_steps))

pub put_spec-returns-in_ok-put_name-in-Struct : goal.put_spec-returns-in_ok-put_name-in-Struct
put_spec-returns-in_ok-put_name-in-Struct t c =
    let v = ap (λ x. spell_spec x c.args.out.now) (ap view_spec c.in-Struct.is ∙ struct_is c.in-Struct.word c.in-Struct.tag c.in-Struct.open c.in-Struct.members c.in-Struct.close) in
    first_of (search rules, grind (arith, common_steps))

pub put_type-returns : goal.put_type-returns
put_type-returns t c =
    let v = ap (λ x. spell_type x c.args.out.now) (type_is c.args.name.now) in
    first_of (search rules, grind (arith, common_steps))
