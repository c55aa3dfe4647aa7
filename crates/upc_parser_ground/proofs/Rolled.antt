-- Structs that are made from vectors, seen as trees.
use Rattle.std.proofs.Common.{◌≡◌, Option, refl, ◌∙◌, Vec, Box, Global}
use Rattle.upc_tree.specs.declared.span.Span.{Span}
use Rattle.upc_tree.specs.declared.span.Name.{Name}
use Rattle.upc_tree.specs.declared.expression.Spec.{Spec}
use Rattle.upc_tree.specs.declared.expression.Pointer.{Pointer}
use Rattle.upc_tree.specs.declared.expression.Dimension.{Dimension}
use Rattle.upc_tree.specs.declared.expression.Declarator.{Declarator}
use Rattle.upc_tree.specs.declared.expression.NextDeclarator.{NextDeclarator}
use Rattle.upc_tree.specs.declared.expression.ParameterArray.{ParameterArray}
use Rattle.upc_tree.specs.declared.expression.TypeName.{roll-TypeName, out-roll-TypeName}
use Rattle.upc_tree.specs.declared.expression.Member.{roll-Member, out-roll-Member}
use Rattle.upc_tree.specs.declared.expression.Parameter.{roll-Parameter, out-roll-Parameter}
use Rattle.upc_tree.specs.layer.View.{view_specs, view_pointers, view_dimensions, view_declarator, view_next_declarators, view_array, view_type, view_member, view_parameter}
use Rattle.upc_tree.specs.Expression as t
use Rattle.upc_tree.proofs.Rows.{type_is, member_is, parameter_is}

pub typed_is : (specs : Vec Spec Global) (pointers : Vec Pointer Global) (sizes : Vec Dimension Global)
    → view_type (roll-TypeName record { specs = specs; pointers = pointers; sizes = sizes }) ≡ t.Typed (view_specs specs) (view_pointers pointers) (view_dimensions sizes)
typed_is specs pointers sizes =
    type_is (roll-TypeName record { specs = specs; pointers = pointers; sizes = sizes }) ∙ rw (out-roll-TypeName record { specs = specs; pointers = pointers; sizes = sizes }) refl

pub line_is : (specs : Vec Spec Global) (first : Box Declarator Global) (more : Vec NextDeclarator Global) (semicolon : Span)
    → view_member (roll-Member record { specs = specs; first = first; more = more; semicolon = semicolon }) ≡ (view_specs specs, view_declarator first.value, view_next_declarators more, semicolon)
line_is specs first more semicolon =
    member_is (roll-Member record { specs = specs; first = first; more = more; semicolon = semicolon }) ∙ rw (out-roll-Member record { specs = specs; first = first; more = more; semicolon = semicolon }) refl

pub parametric_is : (specs : Vec Spec Global) (pointers : Vec Pointer Global) (name : Option Name) (array : ParameterArray)
    → view_parameter (roll-Parameter record { specs = specs; pointers = pointers; name = name; array = array }) ≡ t.Parametric (view_specs specs) (view_pointers pointers) name (view_array array)
parametric_is specs pointers name array =
    parameter_is (roll-Parameter record { specs = specs; pointers = pointers; name = name; array = array }) ∙ rw (out-roll-Parameter record { specs = specs; pointers = pointers; name = name; array = array }) refl
