-- Vectors of parts inside trees, seen as lists.
use Rattle.std.proofs.Common.{◌≡◌, List, map, refl, ap, ◌∙◌, sym, Vec, Global, Box}
use mathlib.Core.Former.{Count}
use Rattle.upc_tree.specs.declared.span.Span.{Span}
use Rattle.upc_tree.specs.declared.span.Name.{Name}
use Rattle.upc_tree.specs.declared.expression.Expr as e
use Rattle.upc_tree.specs.declared.expression.Expr.{Expr, Row_of-NextExpr, end_of-NextExpr, more_of-NextExpr, items-the_row-NextExpr, items_hidden-the_row-NextExpr-0}
use Rattle.upc_tree.specs.declared.expression.NextExpr.{NextExpr}
use Rattle.upc_tree.specs.declared.expression.Spec.{Spec}
use Rattle.upc_tree.specs.declared.expression.Qual.{Qual}
use Rattle.upc_tree.specs.declared.expression.Pointer.{Pointer}
use Rattle.upc_tree.specs.declared.expression.Dimension.{Dimension}
use Rattle.upc_tree.specs.declared.expression.TypeName.{TypeName, TypeName', outs-TypeName', out-TypeName, Row_of-Spec, end_of-Spec, more_of-Spec, items-the_row-Spec, items_shown-the_row-Spec-6, Row_of-Qual, end_of-Qual, more_of-Qual, items-the_row-Qual, items_shown-the_row-Qual-1, Row_of-Pointer, end_of-Pointer, more_of-Pointer, items-the_row-Pointer, items_shown-the_row-Pointer-2, items_hidden-the_row-Pointer-2, Row_of-Dimension, end_of-Dimension, more_of-Dimension, items-the_row-Dimension, items_shown-the_row-Dimension-3, items_hidden-the_row-Dimension-3}
use Rattle.upc_tree.specs.declared.expression.Arguments as a
use Rattle.upc_tree.specs.declared.expression.Arguments.{Arguments}
use Rattle.upc_tree.specs.declared.expression.Spec as s
use Rattle.upc_tree.specs.declared.expression.Spec.{Row_of-Member, end_of-Member, more_of-Member, items-the_row-Member, items_hidden-the_row-Member-5}
use Rattle.upc_tree.specs.declared.expression.Member.{Member, Member', outs-Member', out-Member, Row_of-NextDeclarator, end_of-NextDeclarator, more_of-NextDeclarator, items-the_row-NextDeclarator, items_shown-the_row-NextDeclarator-7}
use Rattle.upc_tree.specs.declared.expression.NextDeclarator.{NextDeclarator}
use Rattle.upc_tree.specs.declared.expression.Declarator as d
use Rattle.upc_tree.specs.declared.expression.Declarator.{Declarator}
use Rattle.upc_tree.specs.declared.expression.Parameters as r
use Rattle.upc_tree.specs.declared.expression.Parameters.{Parameters, Row_of-NextParameter, end_of-NextParameter, more_of-NextParameter, items-the_row-NextParameter, items_hidden-the_row-NextParameter-4}
use Rattle.upc_tree.specs.declared.expression.NextParameter.{NextParameter, NextParameter', outs-NextParameter', out-NextParameter}
use Rattle.upc_tree.specs.declared.expression.Parameter.{Parameter, Parameter', outs-Parameter', out-Parameter}
use Rattle.upc_tree.specs.layer.View.{view_arguments, view_members, view_member, view_member_row, view_next_declarator, view_next_declarators, view_declarator_row, view_declarator, view_parameters, view_next_parameter, view_next_parameters, view_parameter_row, view_parameter, view_array, view, view_expr_row, view_next_expr, view_next_exprs, view_spec_row, view_specs, view_qual_row, view_qual, view_spec, view_pointer, view_pointers, view_pointer_row, view_dimension, view_dimensions, view_dimension_row, view_type}
use Rattle.upc_tree.specs.layer.Lists.{next_exprs_of, specs_of, quals_of, pointers_of, dimensions_of, members_of, next_declarators_of, next_parameters_of}
use Rattle.upc_tree.specs.Expression as t

expr_row : (n : _) (row : Row_of-NextExpr n) → view_expr_row row ≡ next_exprs_of (map view_next_expr (items-the_row-NextExpr n row))
expr_row n end_of-NextExpr = refl
expr_row n (more_of-NextExpr comma p value more) = ap (t.AndExpr comma (view value)) (expr_row _ more)

pub expr_row_is : (n : _) (row : Row_of-NextExpr n) (l : List NextExpr) → items-the_row-NextExpr n row ≡ l → view_expr_row row ≡ next_exprs_of (map view_next_expr l)
expr_row_is n row l e = expr_row n row ∙ ap (λ l. next_exprs_of (map view_next_expr l)) e

spec_row : (n : _) (row : Row_of-Spec n) → view_spec_row row ≡ specs_of (map view_spec (items-the_row-Spec n row))
spec_row n end_of-Spec = refl
spec_row n (more_of-Spec spec more) = ap (t.AndSpec (view_spec spec)) (spec_row _ more)

pub spec_row_is : (n : _) (row : Row_of-Spec n) (l : List Spec) → items-the_row-Spec n row ≡ l → view_spec_row row ≡ specs_of (map view_spec l)
spec_row_is n row l e = spec_row n row ∙ ap (λ l. specs_of (map view_spec l)) e

qual_row : (n : _) (row : Row_of-Qual n) → view_qual_row row ≡ quals_of (map view_qual (items-the_row-Qual n row))
qual_row n end_of-Qual = refl
qual_row n (more_of-Qual qual more) = ap (t.AndQual (view_qual qual)) (qual_row _ more)

pub qual_row_is : (n : _) (row : Row_of-Qual n) (l : List Qual) → items-the_row-Qual n row ≡ l → view_qual_row row ≡ quals_of (map view_qual l)
qual_row_is n row l e = qual_row n row ∙ ap (λ l. quals_of (map view_qual l)) e

and_pointer : (star : Span) (q q' : t.Quals) (m m' : t.Pointers) → q ≡ q' → m ≡ m' → t.AndPointer star q m ≡ t.AndPointer star q' m'
and_pointer star q q' m m' a b = rw (a, b) refl

pointer_row : (n : _) (row : Row_of-Pointer n) → view_pointer_row row ≡ pointers_of (map view_pointer (items-the_row-Pointer n row))
pointer_row n end_of-Pointer = refl
pointer_row n (more_of-Pointer star shape quals more) =
    and_pointer star _ _ _ _ (qual_row_is _ quals _ (sym (items_shown-the_row-Qual-1 shape quals))) (pointer_row _ more)

pub pointer_row_is : (n : _) (row : Row_of-Pointer n) (l : List Pointer) → items-the_row-Pointer n row ≡ l → view_pointer_row row ≡ pointers_of (map view_pointer l)
pointer_row_is n row l e = pointer_row n row ∙ ap (λ l. pointers_of (map view_pointer l)) e

dimension_row : (n : _) (row : Row_of-Dimension n) → view_dimension_row row ≡ dimensions_of (map view_dimension (items-the_row-Dimension n row))
dimension_row n end_of-Dimension = refl
dimension_row n (more_of-Dimension left p size right more) = ap (t.AndDimension left (view size) right) (dimension_row _ more)

pub dimension_row_is : (n : _) (row : Row_of-Dimension n) (l : List Dimension) → items-the_row-Dimension n row ≡ l → view_dimension_row row ≡ dimensions_of (map view_dimension l)
dimension_row_is n row l e = dimension_row n row ∙ ap (λ l. dimensions_of (map view_dimension l)) e

abbrev expr_row_of : Expr → (n : Count) × Row_of-NextExpr n
expr_row_of (e.Comma' p first shape row) = (_, row)
expr_row_of _ = (_, end_of-NextExpr)

pub comma_is : (first : Box Expr Global) (more : Vec NextExpr Global) → view (e.Comma first more) ≡ t.Comma (view first.value) (view_next_exprs more)
comma_is first more =
    let row = expr_row_of (e.Comma first more) in
    ap (t.Comma (view first.value)) (expr_row_is row.0 row.1 more.items (items_hidden-the_row-NextExpr-0 more))

pub type_is : (x : TypeName) → view_type x ≡ t.Typed (view_specs (out-TypeName x).specs) (view_pointers (out-TypeName x).pointers) (view_dimensions (out-TypeName x).sizes)
type_is (TypeName' m specs n pointers o sizes) =
    rw (outs-TypeName' m specs n pointers o sizes) (rw (spec_row_is _ specs _ (sym (items_shown-the_row-Spec-6 m specs)), pointer_row_is _ pointers _ (sym (items_shown-the_row-Pointer-2 n pointers)), dimension_row_is _ sizes _ (sym (items_shown-the_row-Dimension-3 o sizes))) refl)

declarator_row : (n : _) (row : Row_of-NextDeclarator n) → view_declarator_row row ≡ next_declarators_of (map view_next_declarator (items-the_row-NextDeclarator n row))
declarator_row n end_of-NextDeclarator = refl
declarator_row n (more_of-NextDeclarator comma p declarator more) = ap (t.AndDeclarator comma (view_declarator declarator)) (declarator_row _ more)

pub declarator_row_is : (n : _) (row : Row_of-NextDeclarator n) (l : List NextDeclarator) → items-the_row-NextDeclarator n row ≡ l → view_declarator_row row ≡ next_declarators_of (map view_next_declarator l)
declarator_row_is n row l e = declarator_row n row ∙ ap (λ l. next_declarators_of (map view_next_declarator l)) e

member_row : (n : _) (row : Row_of-Member n) → view_member_row row ≡ members_of (map view_member (items-the_row-Member n row))
member_row n end_of-Member = refl
member_row n (more_of-Member (Member' m specs p first o next semicolon) more) =
    ap (t.AndMember (view_spec_row specs) (view_declarator first) (view_declarator_row next) semicolon) (member_row _ more)

pub member_row_is : (n : _) (row : Row_of-Member n) (l : List Member) → items-the_row-Member n row ≡ l → view_member_row row ≡ members_of (map view_member l)
member_row_is n row l e = member_row n row ∙ ap (λ l. members_of (map view_member l)) e

parameter_row : (n : _) (row : Row_of-NextParameter n) → view_parameter_row row ≡ next_parameters_of (map view_next_parameter (items-the_row-NextParameter n row))
parameter_row n end_of-NextParameter = refl
parameter_row n (more_of-NextParameter (NextParameter' comma p parameter) more) = ap (t.AndParameter comma (view_parameter parameter)) (parameter_row _ more)

pub parameter_row_is : (n : _) (row : Row_of-NextParameter n) (l : List NextParameter) → items-the_row-NextParameter n row ≡ l → view_parameter_row row ≡ next_parameters_of (map view_next_parameter l)
parameter_row_is n row l e = parameter_row n row ∙ ap (λ l. next_parameters_of (map view_next_parameter l)) e

abbrev argument_row_of : Arguments → (n : Count) × Row_of-NextExpr n
argument_row_of (a.Filled' p first shape row right) = (_, row)
argument_row_of _ = (_, end_of-NextExpr)

pub filled_is : (first : Box Expr Global) (more : Vec NextExpr Global) (right : Span) → view_arguments (a.Filled first more right) ≡ t.SomeArguments (view first.value) (view_next_exprs more) right
filled_is first more right =
    let row = argument_row_of (a.Filled first more right) in
    ap (λ m. t.SomeArguments (view first.value) m right) (expr_row_is row.0 row.1 more.items (items_hidden-the_row-NextExpr-0 more))

abbrev member_row_of : Spec → (n : Count) × Row_of-Member n
member_row_of (s.Struct' word tag left shape row right) = (_, row)
member_row_of _ = (_, end_of-Member)

pub struct_is : (word : Span) (tag : Name) (left : Span) (members : Vec Member Global) (right : Span) → view_spec (s.Struct word tag left members right) ≡ t.StructSpec word tag left (view_members members) right
struct_is word tag left members right =
    let row = member_row_of (s.Struct word tag left members right) in
    ap (λ m. t.StructSpec word tag left m right) (member_row_is row.0 row.1 members.items (items_hidden-the_row-Member-5 members))

pub member_is : (x : Member) → view_member x ≡ (view_specs (out-Member x).specs, view_declarator (out-Member x).first.value, view_next_declarators (out-Member x).more, (out-Member x).semicolon)
member_is (Member' m specs p first o next semicolon) =
    rw (outs-Member' m specs p first o next semicolon) (rw (spec_row_is _ specs _ (sym (items_shown-the_row-Spec-6 m specs)), declarator_row_is _ next _ (sym (items_shown-the_row-NextDeclarator-7 o next))) refl)

abbrev pointer_row_of : Declarator → (n : Count) × Row_of-Pointer n
pointer_row_of (d.Object' m pointers name n sizes) = (_, pointers)
pointer_row_of (d.Function' m pointers name p parameters) = (_, pointers)

abbrev dimension_row_of : Declarator → (n : Count) × Row_of-Dimension n
dimension_row_of (d.Object' m pointers name n sizes) = (_, sizes)
dimension_row_of _ = (_, end_of-Dimension)

pub object_is : (pointers : Vec Pointer Global) (name : Name) (sizes : Vec Dimension Global) → view_declarator (d.Object pointers name sizes) ≡ t.ObjectDeclarator (view_pointers pointers) name (view_dimensions sizes)
object_is pointers name sizes =
    let stars = pointer_row_of (d.Object pointers name sizes) in
    let row = dimension_row_of (d.Object pointers name sizes) in
    ap (λ p. t.ObjectDeclarator p name (view_dimension_row row.1)) (pointer_row_is stars.0 stars.1 pointers.items (items_hidden-the_row-Pointer-2 pointers))
    ∙ ap (t.ObjectDeclarator (view_pointers pointers) name) (dimension_row_is row.0 row.1 sizes.items (items_hidden-the_row-Dimension-3 sizes))

pub function_is : (pointers : Vec Pointer Global) (name : Name) (parameters : Box Parameters Global) → view_declarator (d.Function pointers name parameters) ≡ t.FunctionDeclarator (view_pointers pointers) name (view_parameters parameters.value)
function_is pointers name parameters =
    let stars = pointer_row_of (d.Function pointers name parameters) in
    ap (λ p. t.FunctionDeclarator p name (view_parameters parameters.value)) (pointer_row_is stars.0 stars.1 pointers.items (items_hidden-the_row-Pointer-2 pointers))

abbrev parameter_row_of : Parameters → (n : Count) × Row_of-NextParameter n
parameter_row_of (r.Filled' left p first shape row right) = (_, row)
parameter_row_of _ = (_, end_of-NextParameter)

pub parameters_is : (left : Span) (first : Box Parameter Global) (more : Vec NextParameter Global) (right : Span) → view_parameters (r.Filled left first more right) ≡ t.SomeParameters left (view_parameter first.value) (view_next_parameters more) right
parameters_is left first more right =
    let row = parameter_row_of (r.Filled left first more right) in
    ap (λ m. t.SomeParameters left (view_parameter first.value) m right) (parameter_row_is row.0 row.1 more.items (items_hidden-the_row-NextParameter-4 more))

pub parameter_is : (x : Parameter) → view_parameter x ≡ t.Parametric (view_specs (out-Parameter x).specs) (view_pointers (out-Parameter x).pointers) (out-Parameter x).name (view_array (out-Parameter x).array)
parameter_is (Parameter' m specs n pointers name array) =
    rw (outs-Parameter' m specs n pointers name array) (rw (spec_row_is _ specs _ (sym (items_shown-the_row-Spec-6 m specs)), pointer_row_is _ pointers _ (sym (items_shown-the_row-Pointer-2 n pointers))) refl)

pub next_parameter_is : (x : NextParameter) → view_next_parameter x ≡ ((out-NextParameter x).comma, view_parameter (out-NextParameter x).parameter.value)
next_parameter_is (NextParameter' comma p parameter) = rw (outs-NextParameter' comma p parameter) refl
