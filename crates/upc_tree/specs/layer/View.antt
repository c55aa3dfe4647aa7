-- The trees of the code, seen without where they lie in memory: expressions and types.
use Rattle.std.specs.Prelude.{map, Vec}
use Rattle.std.specs.declared.alloc.Global.{Global}
use Rattle.upc_tree.specs.declared.span.Span.{Span}
use Rattle.upc_tree.specs.layer.Lists.{next_exprs_of, specs_of, quals_of, pointers_of, dimensions_of, members_of}
use Rattle.upc_tree.specs.layer.Lists.{next_declarators_of, next_parameters_of}
use Rattle.upc_tree.specs.declared.expression.Expr as expr
use Rattle.upc_tree.specs.declared.expression.Expr.{Expr, Row_of-NextExpr, end_of-NextExpr, more_of-NextExpr}
use Rattle.upc_tree.specs.declared.expression.Arguments as arguments_type
use Rattle.upc_tree.specs.declared.expression.Arguments.{Arguments}
use Rattle.upc_tree.specs.declared.expression.NextExpr.{NextExpr}
use Rattle.upc_tree.specs.declared.expression.TypeName.{TypeName, TypeName', Row_of-Spec, end_of-Spec, more_of-Spec}
use Rattle.upc_tree.specs.declared.expression.TypeName.{Row_of-Pointer, end_of-Pointer, more_of-Pointer}
use Rattle.upc_tree.specs.declared.expression.TypeName.{Row_of-Dimension, end_of-Dimension, more_of-Dimension}
use Rattle.upc_tree.specs.declared.expression.TypeName.{Row_of-Qual, end_of-Qual, more_of-Qual}
use Rattle.upc_tree.specs.declared.expression.Spec as spec_type
use Rattle.upc_tree.specs.declared.expression.Spec.{Spec, Row_of-Member, end_of-Member, more_of-Member}
use Rattle.upc_tree.specs.declared.expression.Qual as qual_type
use Rattle.upc_tree.specs.declared.expression.Qual.{Qual}
use Rattle.upc_tree.specs.declared.expression.Layout as layouts
use Rattle.upc_tree.specs.declared.expression.Layout.{Layout}
use Rattle.upc_tree.specs.declared.expression.Pointer.{Pointer}
use Rattle.upc_tree.specs.declared.expression.Dimension.{Dimension}
use Rattle.upc_tree.specs.declared.expression.Member.{Member, Member', Row_of-NextDeclarator, end_of-NextDeclarator}
use Rattle.upc_tree.specs.declared.expression.Member.{more_of-NextDeclarator}
use Rattle.upc_tree.specs.declared.expression.NextDeclarator.{NextDeclarator}
use Rattle.upc_tree.specs.declared.expression.Declarator as declarator_type
use Rattle.upc_tree.specs.declared.expression.Declarator.{Declarator}
use Rattle.upc_tree.specs.declared.expression.Parameters as parameters_type
use Rattle.upc_tree.specs.declared.expression.Parameters.{Parameters, Row_of-NextParameter, end_of-NextParameter}
use Rattle.upc_tree.specs.declared.expression.Parameters.{more_of-NextParameter}
use Rattle.upc_tree.specs.declared.expression.NextParameter.{NextParameter, NextParameter'}
use Rattle.upc_tree.specs.declared.expression.Parameter.{Parameter, Parameter'}
use Rattle.upc_tree.specs.declared.expression.ParameterArray as parameter_array
use Rattle.upc_tree.specs.declared.expression.ParameterArray.{ParameterArray}
use Rattle.upc_tree.specs.Expression as expression_tree

-- The trees of expressions and types that the code holds, as values without their places in memory.
abbrev mutual
  -- The tree of an expression that the code holds.
  pub view : Expr → expression_tree.Expr
  view (expr.Name name) = expression_tree.Named name
  view (expr.Number value kind span) = expression_tree.Number value kind span
  view (expr.Character value span) = expression_tree.Character value span
  view (expr.Strings first more) = expression_tree.Strings first more.items
  view (expr.Constant word span) = expression_tree.Constant word span
  view (expr.Paren' left p inner right) = expression_tree.Paren left (view inner) right
  view (expr.Subscript' p base left o index right) = expression_tree.Subscript (view base) left (view index) right
  view (expr.Call' p callee left o arguments) = expression_tree.Call (view callee) left (view_arguments arguments)
  view (expr.Member' p base mark at member) = expression_tree.MemberOf (view base) mark at member
  view (expr.Postfix' p base mark at) = expression_tree.Postfix (view base) mark at
  view (expr.Unary' mark at p operand) = expression_tree.Unary mark at (view operand)
  view (expr.SizeOfExpr' word at p operand) = expression_tree.SizeOfExpr word at (view operand)
  view (expr.SizeOfType' word at left p operand right) = expression_tree.SizeOfType word at left
      (view_type operand) right
  view (expr.Cast' left p target right o operand) = expression_tree.Cast left (view_type target) right (view operand)
  view (expr.Binary' p a mark at o b) = expression_tree.Binary (view a) mark at (view b)
  view (expr.Assign' p a mark at o b) = expression_tree.Assign (view a) mark at (view b)
  view (expr.Conditional' p test question o chosen colon n other) =
      expression_tree.Conditional (view test) question (view chosen) colon (view other)
  view (expr.Comma' p first shape more) = expression_tree.Comma (view first) (view_expr_row more)

  -- The further expressions that the code holds in a row.
  pub view_expr_row : {m : _} → Row_of-NextExpr m → expression_tree.NextExprs
  view_expr_row end_of-NextExpr = expression_tree.NoNextExprs
  view_expr_row (more_of-NextExpr comma p value more) = expression_tree.AndExpr comma (view value) (view_expr_row more)

  -- The arguments of a call that the code holds.
  pub view_arguments : Arguments → expression_tree.Arguments
  view_arguments (arguments_type.Empty right) = expression_tree.NoArguments right
  view_arguments (arguments_type.Filled' p first shape more right) = expression_tree.SomeArguments (view first)
      (view_expr_row more) right

  -- The type name that the code holds.
  pub view_type : TypeName → expression_tree.TypeName
  view_type (TypeName' m specs n pointers o sizes) =
      expression_tree.Typed (view_spec_row specs) (view_pointer_row pointers) (view_dimension_row sizes)

  -- The specifiers and qualifiers that the code holds in a row.
  pub view_spec_row : {m : _} → Row_of-Spec m → expression_tree.Specs
  view_spec_row end_of-Spec = expression_tree.NoSpecs
  view_spec_row (more_of-Spec spec more) = expression_tree.AndSpec (view_spec spec) (view_spec_row more)

  -- The specifier or qualifier that the code holds.
  pub view_spec : Spec → expression_tree.Spec
  view_spec (spec_type.Word word span) = expression_tree.WordSpec word span
  view_spec (spec_type.Qual qual) = expression_tree.QualSpec (view_qual qual)
  view_spec (spec_type.Tag word tag) = expression_tree.TagSpec word tag
  view_spec (spec_type.Struct' word tag left shape members right) = expression_tree.StructSpec word tag left
      (view_member_row members) right

  -- The qualifiers after a star that the code holds in a row.
  pub view_qual_row : {m : _} → Row_of-Qual m → expression_tree.Quals
  view_qual_row end_of-Qual = expression_tree.NoQuals
  view_qual_row (more_of-Qual qual more) = expression_tree.AndQual (view_qual qual) (view_qual_row more)

  -- The qualifier that the code holds.
  pub view_qual : Qual → expression_tree.Qual
  view_qual (qual_type.Const word) = expression_tree.Const word
  view_qual (qual_type.Strict word) = expression_tree.Strict word
  view_qual (qual_type.Relaxed word) = expression_tree.Relaxed word
  view_qual (qual_type.Shared' word p layout) = expression_tree.Shared word (view_layout layout)

  -- The layout of a `shared` that the code holds.
  pub view_layout : Layout → expression_tree.Layout
  view_layout layouts.Absent = expression_tree.NoLayout
  view_layout (layouts.Indefinite left right) = expression_tree.IndefiniteLayout left right
  view_layout (layouts.Star left star right) = expression_tree.StarLayout left star right
  view_layout (layouts.Block' left p size right) = expression_tree.BlockLayout left (view size) right

  -- The stars with their qualifiers that the code holds in a row.
  pub view_pointer_row : {m : _} → Row_of-Pointer m → expression_tree.Pointers
  view_pointer_row end_of-Pointer = expression_tree.NoPointers
  view_pointer_row (more_of-Pointer star shape quals more) =
      expression_tree.AndPointer star (view_qual_row quals) (view_pointer_row more)

  -- The sizes in brackets that the code holds in a row.
  pub view_dimension_row : {m : _} → Row_of-Dimension m → expression_tree.Dimensions
  view_dimension_row end_of-Dimension = expression_tree.NoDimensions
  view_dimension_row (more_of-Dimension left p size right more) =
      expression_tree.AndDimension left (view size) right (view_dimension_row more)

  -- The declarations of members that the code holds in a row.
  pub view_member_row : {m : _} → Row_of-Member m → expression_tree.Members
  view_member_row end_of-Member = expression_tree.NoMembers
  view_member_row (more_of-Member (Member' m specs p first n next semicolon) more) =
      expression_tree.AndMember (view_spec_row specs) (view_declarator first) (view_declarator_row next) semicolon
      (view_member_row more)

  -- The further declarators that the code holds in a row.
  pub view_declarator_row : {m : _} → Row_of-NextDeclarator m → expression_tree.NextDeclarators
  view_declarator_row end_of-NextDeclarator = expression_tree.NoNextDeclarators
  view_declarator_row (more_of-NextDeclarator comma p declarator more) =
      expression_tree.AndDeclarator comma (view_declarator declarator) (view_declarator_row more)

  -- The declarator that the code holds.
  pub view_declarator : Declarator → expression_tree.Declarator
  view_declarator (declarator_type.Object' m pointers name n sizes) =
      expression_tree.ObjectDeclarator (view_pointer_row pointers) name (view_dimension_row sizes)
  view_declarator (declarator_type.Function' m pointers name p parameters) =
      expression_tree.FunctionDeclarator (view_pointer_row pointers) name (view_parameters parameters)

  -- The parameters of a function that the code holds.
  pub view_parameters : Parameters → expression_tree.Parameters
  view_parameters (parameters_type.Empty left right) = expression_tree.NoParameters left right
  view_parameters (parameters_type.Void left word right) = expression_tree.VoidParameters left word right
  view_parameters (parameters_type.Filled' left p first shape more right) =
      expression_tree.SomeParameters left (view_parameter first) (view_parameter_row more) right

  -- The further parameters that the code holds in a row.
  pub view_parameter_row : {m : _} → Row_of-NextParameter m → expression_tree.NextParameters
  view_parameter_row end_of-NextParameter = expression_tree.NoNextParameters
  view_parameter_row (more_of-NextParameter (NextParameter' comma p parameter) more) =
      expression_tree.AndParameter comma (view_parameter parameter) (view_parameter_row more)

  -- The parameter that the code holds.
  pub view_parameter : Parameter → expression_tree.Parameter
  view_parameter (Parameter' m specs n pointers name array) =
      expression_tree.Parametric (view_spec_row specs) (view_pointer_row pointers) name (view_array array)

  -- The brackets of a parameter that the code holds.
  pub view_array : ParameterArray → expression_tree.ParameterArray
  view_array parameter_array.Absent = expression_tree.NoArray
  view_array (parameter_array.Unsized left right) = expression_tree.UnsizedArray left right
  view_array (parameter_array.Sized' left p size right) = expression_tree.SizedArray left (view size) right

-- ---- parts of lists, as vectors hold them

-- A further expression with its comma, as the code holds it in a vector.
abbrev pub view_next_expr : NextExpr → Span × expression_tree.Expr
view_next_expr x = (x.comma, view x.value.value)

-- A star with its qualifiers, as the code holds it in a vector.
abbrev pub view_pointer : Pointer → Span × expression_tree.Quals
view_pointer x = (x.star, quals_of (map view_qual x.quals.items))

-- A size with its brackets, as the code holds it in a vector.
abbrev pub view_dimension : Dimension → Span × expression_tree.Expr × Span
view_dimension x = (x.open, view x.size.value, x.close)

-- A declaration of members by its parts, as the code holds it in a vector.
abbrev pub view_member : Member → expression_tree.Specs × expression_tree.Declarator × expression_tree.NextDeclarators
    × Span
view_member (Member' m specs p first n next semicolon) =
    (view_spec_row specs, view_declarator first, view_declarator_row next, semicolon)

-- A further declarator with its comma, as the code holds it in a vector.
abbrev pub view_next_declarator : NextDeclarator → Span × expression_tree.Declarator
view_next_declarator x = (x.comma, view_declarator x.declarator.value)

-- A further parameter with its comma, as the code holds it in a vector.
abbrev pub view_next_parameter : NextParameter → Span × expression_tree.Parameter
view_next_parameter (NextParameter' comma p parameter) = (comma, view_parameter parameter)

-- ---- vectors of parts

-- The further expressions that a vector of the code holds.
abbrev pub view_next_exprs : Vec NextExpr Global → expression_tree.NextExprs
view_next_exprs v = next_exprs_of (map view_next_expr v.items)

-- The specifiers and qualifiers that a vector of the code holds.
abbrev pub view_specs : Vec Spec Global → expression_tree.Specs
view_specs v = specs_of (map view_spec v.items)

-- The qualifiers after a star that a vector of the code holds.
abbrev pub view_quals : Vec Qual Global → expression_tree.Quals
view_quals v = quals_of (map view_qual v.items)

-- The stars with their qualifiers that a vector of the code holds.
abbrev pub view_pointers : Vec Pointer Global → expression_tree.Pointers
view_pointers v = pointers_of (map view_pointer v.items)

-- The sizes in brackets that a vector of the code holds.
abbrev pub view_dimensions : Vec Dimension Global → expression_tree.Dimensions
view_dimensions v = dimensions_of (map view_dimension v.items)

-- The declarations of members that a vector of the code holds.
abbrev pub view_members : Vec Member Global → expression_tree.Members
view_members v = members_of (map view_member v.items)

-- The further declarators that a vector of the code holds.
abbrev pub view_next_declarators : Vec NextDeclarator Global → expression_tree.NextDeclarators
view_next_declarators v = next_declarators_of (map view_next_declarator v.items)

-- The further parameters that a vector of the code holds.
abbrev pub view_next_parameters : Vec NextParameter Global → expression_tree.NextParameters
view_next_parameters v = next_parameters_of (map view_next_parameter v.items)
