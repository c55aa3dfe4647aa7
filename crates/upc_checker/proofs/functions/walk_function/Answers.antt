use Rattle.std.proofs.Common.{Bool, false, List, map, Err, ap, ◌∙◌, subst}
use Rattle.std.proofs.lemmas.Result.{err_from_is_err_and}
use Rattle.upc_text.specs.declared.place.Place.{Place}
use Rattle.upc_tree.specs.declared.expression.Spec.{Spec}
use Rattle.upc_tree.specs.declared.expression.Pointer.{Pointer}
use Rattle.upc_tree.specs.layer.Lists.{specs_of, pointers_of}
use Rattle.upc_tree.specs.layer.View as views
use Rattle.upc_tree.specs.layer.View.{view_spec, view_pointer}
use Rattle.upc_tree.specs.layer.ViewStatement as trees
use Rattle.typing_rules.specs.Faults.{first_fault}
use Rattle.typed_tree.specs.layer.ViewEnv.{view_env}
use Rattle.typed_tree.specs.ViewStatements.{view_function}
use Rattle.upc_checker_scopes.specs.layer.Ends.{Stops, Comes, Meets}
use Rattle.upc_checker_types.specs.Shapes.{Specifying}
use Rattle.upc_checker_scopes.specs.Places.{specs_place}
use Rattle.upc_checker_expressions.specs.Expressions.{walk_specifiers, walk_pointers}
use Rattle.upc_checker_types.specs.Specifiers.{Shaped, specified_type}
use Rattle.upc_checker.specs.Units as pure
use Rattle.upc_checker.specs.Units.{Made}
use Rattle.upc_checker_scopes.specs.layer.Views.{view_setting, state_of}
use Rattle.upc_checker_types.specs.layer.ViewShapes.{view_shaped, view_specified}
use Rattle.upc_checker_scopes.specs.Walk.{enclosed}
use Rattle.upc_checker_scopes.proofs.Walks.{goes, stops}
use Rattle.upc_checker.proofs.functions.walk_function.Goals as goal

pub returns-in_err-found : goal.returns-in_err-found
returns-in_err-found c = λ objects.
    let ξ = view_setting c.args.setting in
    let Γ = view_env c.args.env.now in
    let s = state_of c.args.tags.now c.args.known.now in
    let fun = c.args.function.now in
    let before : Made = record { scope = Γ; objects = objects; functions = map view_function c.args.functions.now.items } in
    let specs = λ (xs : List Spec). specs_of (map view_spec xs) in
    let stars = λ (xs : List Pointer). pointers_of (map view_pointer xs) in
    let place = c.specs_place-place.ensures ∙ ap (λ xs. specs_place (specs xs)) c.as_slice-specs.ensures.value in
    let how = pure.in_definition (specs_place (specs fun.specs.items)) in
    let stands = c.in_definition.ensures ∙ ap pure.in_definition place in
    let wf = λ (h : Specifying) (xs : List Spec). walk_specifiers ξ Γ h (specs xs) in
    let wp = λ (t : Shaped) (xs : List Pointer). walk_pointers ξ Γ false t (stars xs) in
    let id = λ (m : Made). m in
    let e = c.in_err-found.field-0.0 in
    let hf = subst (λ (xs : List Spec). Stops (first_fault (wf how xs s).seen) e) c.as_slice-specs.ensures.value
    (subst (λ (h : Specifying). Stops (first_fault (wf h c.as_slice-specs.result.now s).seen) e) stands c.in_err-found.ensures) in
    let p = err_from_is_err_and c.from_residual.result c.from_residual.ensures.1 in
    rw (p.1, p.2) (stops id (wf how fun.specs.items) _ s s e hf)

pub returns-in_err-t : goal.returns-in_err-t
returns-in_err-t c = λ objects.
    let ξ = view_setting c.args.setting in
    let Γ = view_env c.args.env.now in
    let s = state_of c.args.tags.now c.args.known.now in
    let fun = c.args.function.now in
    let before : Made = record { scope = Γ; objects = objects; functions = map view_function c.args.functions.now.items } in
    let specs = λ (xs : List Spec). specs_of (map view_spec xs) in
    let stars = λ (xs : List Pointer). pointers_of (map view_pointer xs) in
    let place = c.specs_place-place.ensures ∙ ap (λ xs. specs_place (specs xs)) c.as_slice-specs.ensures.value in
    let how = pure.in_definition (specs_place (specs fun.specs.items)) in
    let stands = c.in_definition.ensures ∙ ap pure.in_definition place in
    let wf = λ (h : Specifying) (xs : List Spec). walk_specifiers ξ Γ h (specs xs) in
    let wp = λ (t : Shaped) (xs : List Pointer). walk_pointers ξ Γ false t (stars xs) in
    let id = λ (m : Made). m in
    let s1 = state_of c.walk_specifiers.new.tags c.walk_specifiers.new.known in
    let found = view_specified c.in_ok-found.found in
    let hf = subst (λ (xs : List Spec). Comes (wf how xs s) s1 found) c.as_slice-specs.ensures.value
    (subst (λ (h : Specifying). Comes (wf h c.as_slice-specs.result.now s) s1 found) stands c.in_ok-found.ensures) in
    let shape = specified_type found in
    let e = c.in_err-t.field-0.0 in
    let ht = subst (λ (xs : List Pointer). Stops (first_fault (wp shape xs s1).seen) e) c.as_slice-pointers.ensures.value
    (subst (λ (t : Shaped). Stops (first_fault (wp t c.as_slice-pointers.result.now s1).seen) e) c.specified_type-shaped.ensures c.in_err-t.ensures) in
    let p = err_from_is_err_and c.from_residual-in_err-t.result c.from_residual-in_err-t.ensures.1 in
    rw (p.1, p.2) (goes id (wf how fun.specs.items) _ s s1 s1 found (Err e) hf (stops id (wp shape fun.pointers.items) _ s1 s1 e ht))

pub returns : goal.returns
returns c = λ objects.
    let ξ = view_setting c.args.setting in
    let Γ = view_env c.args.env.now in
    let s = state_of c.args.tags.now c.args.known.now in
    let fun = c.args.function.now in
    let before : Made = record { scope = Γ; objects = objects; functions = map view_function c.args.functions.now.items } in
    let specs = λ (xs : List Spec). specs_of (map view_spec xs) in
    let stars = λ (xs : List Pointer). pointers_of (map view_pointer xs) in
    let place = c.specs_place-place.ensures ∙ ap (λ xs. specs_place (specs xs)) c.as_slice-specs.ensures.value in
    let how = pure.in_definition (specs_place (specs fun.specs.items)) in
    let stands = c.in_definition.ensures ∙ ap pure.in_definition place in
    let wf = λ (h : Specifying) (xs : List Spec). walk_specifiers ξ Γ h (specs xs) in
    let wp = λ (t : Shaped) (xs : List Pointer). walk_pointers ξ Γ false t (stars xs) in
    let id = λ (m : Made). m in
    let s1 = state_of c.walk_specifiers.new.tags c.walk_specifiers.new.known in
    let found = view_specified c.in_ok-found.found in
    let hf = subst (λ (xs : List Spec). Comes (wf how xs s) s1 found) c.as_slice-specs.ensures.value
    (subst (λ (h : Specifying). Comes (wf h c.as_slice-specs.result.now s) s1 found) stands c.in_ok-found.ensures) in
    let shape = specified_type found in
    let s2 = state_of c.walk_pointers.new.tags c.walk_pointers.new.known in
    let t = view_shaped c.in_ok-t.t in
    let ht = subst (λ (xs : List Pointer). Comes (wp shape xs s1) s2 t) c.as_slice-pointers.ensures.value
    (subst (λ (u : Shaped). Comes (wp u c.as_slice-pointers.result.now s1) s2 t) c.specified_type-shaped.ensures c.in_ok-t.ensures) in
    let end = state_of c.walk_pointers.new.tags c.walk_definition.new.known in
    let seen = λ (u : Unit {0}). let m : Made = record { scope = view_env c.walk_definition.new.env; objects = objects; functions = map view_function c.walk_definition.new.functions.items } in m in
    let r = c.walk_definition.result in
    let wd = λ (at : Place) (forms : Bool). enclosed (pure.walk_definition ξ c.args.strict before at forms t.ctype fun.name (views.view_parameters fun.parameters.value) (trees.view_compound fun.body.value)) in
    let at = specs_place (specs fun.specs.items) in
    let hd = subst (λ (b : Bool). Meets seen (wd at b s2) end r) c.definition_forms-forms.ensures
    (subst (λ (at : Place). Meets seen (wd at c.definition_forms-forms.result s2) end r) place (c.walk_definition.ensures objects)) in
    goes seen (wf how fun.specs.items) _ s s1 end found r hf (goes seen (wp shape fun.pointers.items) _ s1 s2 end t r ht hd)
