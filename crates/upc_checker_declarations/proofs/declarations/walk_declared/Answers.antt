use Rattle.std.proofs.Common.{List, [], ◌∷◌, ◌++◌, map, sym, ap, ◌∙◌, subst}
use Rattle.std.proofs.lemmas.List.{map-append}
use Rattle.std.proofs.lemmas.Result.{err_from_is_err_and}
use Rattle.upc_tree.specs.Declaration.{DeclaredAs}
use Rattle.upc_tree.specs.Expression.{Declarator, ObjectDeclarator, FunctionDeclarator}
use Rattle.upc_tree.specs.layer.Lists.{pointers_of, dimensions_of}
use Rattle.upc_tree.specs.layer.View.{view_declarator, view_pointer, view_dimension, view_parameters}
use Rattle.upc_tree.specs.layer.ViewStatement as trees
use Rattle.upc_tree.proofs.Rows.{object_is, function_is}
use Rattle.typing_rules.specs.Faults.{first_fault}
use Rattle.typed_tree.specs.Tree.{DeclaredObject}
use Rattle.typed_tree.specs.layer.ViewEnv.{view_env}
use Rattle.typed_tree.specs.ViewStatements.{view_object}
use Rattle.upc_checker_declarations.specs.Declarations as pure
use Rattle.upc_checker_declarations.specs.Declarations.{Behind}
use Rattle.upc_checker_scopes.specs.layer.Ends.{Stops, Comes, Meets}
use Rattle.upc_checker_scopes.specs.layer.Views.{view_setting, state_of}
use Rattle.upc_checker_types.specs.layer.ViewShapes.{view_shaped}
use Rattle.upc_checker_declarations.proofs.declarations.walk_declared.Goals as goal

pub returns-in_err-object-in-Object : goal.returns-in_err-object-in-Object
returns-in_err-object-in-Object c =
    let ξ = view_setting c.args.setting in
    let Γ = view_env c.args.env.now in
    let s = state_of c.args.tags.now c.args.known.now in
    let objects = map view_object c.args.objects.now.items in
    let before : Behind = record { scope = Γ; objects = objects } in
    let initial = trees.view_initial c.args.declared.now.initial.value in
    let w = λ (d : Declarator). pure.walk_declared ξ c.args.place (view_shaped c.args.t.now) before (DeclaredAs d initial) s in
    let stars = c.as_slice-pointers.ensures.value in
    let sizes = c.as_slice-sizes.ensures.value in
    let is = ap view_declarator (sym c.deref.ensures ∙ c.in-Object.is) ∙ object_is c.in-Object.pointers c.in-Object.name c.in-Object.sizes in
    let d = ap (λ xs. ObjectDeclarator (pointers_of (map view_pointer xs)) c.in-Object.name (dimensions_of (map view_dimension c.as_slice-sizes.result.now))) stars
    ∙ ap (λ ys. ObjectDeclarator (pointers_of (map view_pointer c.in-Object.pointers.items)) c.in-Object.name (dimensions_of (map view_dimension ys))) sizes ∙ sym is in
    let e = c.in_err-object-in-Object.field-0.0 in
    let p = err_from_is_err_and c.from_residual.result c.from_residual.ensures.1 in
    rw (p.1, p.2) (subst (λ (d : Declarator). Stops (first_fault (w d).seen) e) d (rw c.deref-in-Object.ensures at (c.in_err-object-in-Object.ensures objects)))

pub returns-in_ok-push-in-Object : goal.returns-in_ok-push-in-Object
returns-in_ok-push-in-Object c =
    let ξ = view_setting c.args.setting in
    let Γ = view_env c.args.env.now in
    let s = state_of c.args.tags.now c.args.known.now in
    let objects = map view_object c.args.objects.now.items in
    let before : Behind = record { scope = Γ; objects = objects } in
    let initial = trees.view_initial c.args.declared.now.initial.value in
    let w = λ (d : Declarator). pure.walk_declared ξ c.args.place (view_shaped c.args.t.now) before (DeclaredAs d initial) s in
    let stars = c.as_slice-pointers.ensures.value in
    let sizes = c.as_slice-sizes.ensures.value in
    let is = ap view_declarator (sym c.deref.ensures ∙ c.in-Object.is) ∙ object_is c.in-Object.pointers c.in-Object.name c.in-Object.sizes in
    let d = ap (λ xs. ObjectDeclarator (pointers_of (map view_pointer xs)) c.in-Object.name (dimensions_of (map view_dimension c.as_slice-sizes.result.now))) stars
    ∙ ap (λ ys. ObjectDeclarator (pointers_of (map view_pointer c.in-Object.pointers.items)) c.in-Object.name (dimensions_of (map view_dimension ys))) sizes ∙ sym is in
    let x = c.in_ok-object-in-Object.object in
    let after = state_of c.walk_object.new.tags c.walk_object.new.known in
    let with = λ (xs : List DeclaredObject). let b : Behind = record { scope = view_env c.walk_object.new.env; objects = xs } in b in
    let h = subst (λ (d : Declarator). Comes (w d) after (with (objects ++ (view_object x ∷ [])))) d (rw c.deref-in-Object.ensures at (c.in_ok-object-in-Object.ensures objects)) in
    let all = ap (map view_object) c.in_ok-push-in-Object.ensures.items ∙ map-append view_object c.args.objects.now.items (x ∷ []) in
    record { fine = h.fine; state = h.state; value = h.value ∙ ap with (sym all) }

pub returns-in-Function : goal.returns-in-Function
returns-in-Function c =
    let ξ = view_setting c.args.setting in
    let Γ = view_env c.args.env.now in
    let s = state_of c.args.tags.now c.args.known.now in
    let objects = map view_object c.args.objects.now.items in
    let before : Behind = record { scope = Γ; objects = objects } in
    let initial = trees.view_initial c.args.declared.now.initial.value in
    let w = λ (d : Declarator). pure.walk_declared ξ c.args.place (view_shaped c.args.t.now) before (DeclaredAs d initial) s in
    let stars = c.as_slice-pointers-in-Function.ensures.value in
    let is = ap view_declarator (sym c.deref.ensures ∙ c.in-Function.is) ∙ function_is c.in-Function.pointers c.in-Function.name c.in-Function.parameters in
    let d = ap (λ xs. FunctionDeclarator (pointers_of (map view_pointer xs)) c.in-Function.name (view_parameters c.in-Function.parameters.value)) stars ∙ sym is in
    let after = state_of c.walk_prototype.new.tags c.walk_prototype.new.known in
    let seen = λ (u : Unit {0}). let b : Behind = record { scope = view_env c.walk_prototype.new.env; objects = objects } in b in
    subst (λ (d : Declarator). Meets seen (w d) after c.walk_prototype.result) d (rw (c.deref-in-Function.ensures, c.deref-in-Function-2.ensures) at (c.walk_prototype.ensures c.args.place objects))
