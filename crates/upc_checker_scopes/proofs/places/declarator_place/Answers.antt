use Rattle.std.proofs.Common.{rules, ap, ◌∙◌, arith}
use Rattle.std.proofs.lemmas.Grind.{common_steps}
use Rattle.upc_tree.specs.layer.View.{view_declarator}
use Rattle.upc_tree.proofs.Rows.{object_is, function_is}
use Rattle.upc_checker_scopes.specs.Places as pure
use Rattle.upc_checker_scopes.proofs.places.declarator_place.Goals as goal

pub returns-in-Object : goal.returns-in-Object
returns-in-Object c =
    let v = ap pure.declarator_place (ap view_declarator c.in-Object.is ∙ object_is c.in-Object.pointers c.in-Object.name c.in-Object.sizes) in
    first_of (search rules, grind (arith, common_steps))

pub returns-in-Function : goal.returns-in-Function
returns-in-Function c =
    let v = ap pure.declarator_place (ap view_declarator c.in-Function.is ∙ function_is c.in-Function.pointers c.in-Function.name c.in-Function.parameters) in
    first_of (search rules, grind (arith, common_steps))
