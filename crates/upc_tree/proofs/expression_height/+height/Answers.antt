use Rattle.std.proofs.Common.{ap, ◌∙◌, rules, arith}
use Rattle.std.proofs.lemmas.Grind.{common_steps}
use Rattle.upc_tree.specs.Expression.{height, height_arguments, height_type, height_spec, height_declarator, height_parameters, height_parameter}
use Rattle.upc_tree.specs.layer.Lists.{height_member}
use Rattle.upc_tree.specs.layer.View.{view, view_arguments, view_spec, view_declarator, view_parameters}
use Rattle.upc_tree.proofs.Rows.{comma_is, filled_is, type_is, struct_is, member_is, object_is, function_is, parameters_is, parameter_is}
use Rattle.upc_tree.proofs.expression_height.+height.Goals as goal

pub arguments_height-returns-in-Filled : goal.arguments_height-returns-in-Filled
arguments_height-returns-in-Filled t c =
    let v = ap height_arguments (ap view_arguments c.in-Filled.is ∙ filled_is c.in-Filled.first c.in-Filled.more c.in-Filled.close) in
    first_of (search rules, grind (arith, common_steps))

pub declarator_height-returns-in-Object : goal.declarator_height-returns-in-Object
declarator_height-returns-in-Object t c =
    let v = ap height_declarator (ap view_declarator c.in-Object.is ∙ object_is c.in-Object.pointers c.in-Object.name c.in-Object.sizes) in
    first_of (search rules, grind (arith, common_steps))

pub declarator_height-returns-in-Function : goal.declarator_height-returns-in-Function
declarator_height-returns-in-Function t c =
    let v = ap height_declarator (ap view_declarator c.in-Function.is ∙ function_is c.in-Function.pointers c.in-Function.name c.in-Function.parameters) in
    first_of (search rules, grind (arith, common_steps))

pub expr_height-returns-in-Comma : goal.expr_height-returns-in-Comma
expr_height-returns-in-Comma t c =
    let v = ap height (ap view c.in-Comma.is ∙ comma_is c.in-Comma.first c.in-Comma.more) in
    first_of (search rules, grind (arith, common_steps))

pub member_height-returns : goal.member_height-returns
member_height-returns t c =
    let v = ap height_member (member_is c.args.member.now) in
    first_of (search rules, grind (arith, common_steps))

pub parameter_height-returns : goal.parameter_height-returns
parameter_height-returns t c =
    let v = ap height_parameter (parameter_is c.args.parameter.now) in
    first_of (search rules, grind (arith, common_steps))

pub parameters_height-returns-in-Filled : goal.parameters_height-returns-in-Filled
parameters_height-returns-in-Filled t c =
    let v = ap height_parameters (ap view_parameters c.in-Filled.is ∙ parameters_is c.in-Filled.open c.in-Filled.first c.in-Filled.more c.in-Filled.close) in
    first_of (search rules, grind (arith, common_steps))

pub spec_height-returns-in-Struct : goal.spec_height-returns-in-Struct
spec_height-returns-in-Struct t c =
    let v = ap height_spec (ap view_spec c.in-Struct.is ∙ struct_is c.in-Struct.word c.in-Struct.tag c.in-Struct.open c.in-Struct.members c.in-Struct.close) in
    first_of (search rules, grind (arith, common_steps))

pub type_height-returns : goal.type_height-returns
type_height-returns t c =
    let v = ap height_type (type_is c.args.t.now) in
    first_of (search rules, grind (arith, common_steps))
