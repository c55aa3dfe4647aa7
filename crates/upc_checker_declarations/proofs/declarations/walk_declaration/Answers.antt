use Rattle.std.proofs.Common.{Bool, List, [], map, Result, Ok, Err, ap, ◌∙◌, subst}
use Rattle.std.proofs.lemmas.Result.{err_from_is_err_and}
use Rattle.upc_text.specs.declared.faults.Stop.{Stop}
use Rattle.upc_text.specs.declared.place.Place.{Place}
use Rattle.upc_tree.specs.declared.expression.Spec.{Spec}
use Rattle.upc_tree.specs.layer.Lists.{specs_of}
use Rattle.upc_tree.specs.layer.View.{view_spec}
use Rattle.upc_tree.specs.layer.ViewStatement as trees
use Rattle.typing_rules.specs.Faults.{first_fault}
use Rattle.typing_rules.specs.Nodes.{Specifies}
use Rattle.typed_tree.specs.Scopes.{is_file}
use Rattle.typed_tree.specs.layer.ViewEnv.{view_env}
use Rattle.typed_tree.specs.ViewStatements.{view_object}
use Rattle.upc_checker_declarations.specs.Declarations as pure
use Rattle.upc_checker_declarations.specs.Declarations.{Behind}
use Rattle.upc_checker_scopes.specs.layer.Ends.{Stops, Comes}
use Rattle.upc_checker_types.specs.Shapes.{Specifying}
use Rattle.upc_checker_scopes.specs.Places.{specs_place}
use Rattle.upc_checker_expressions.specs.Expressions.{walk_specifiers}
use Rattle.upc_checker_types.specs.Specifiers.{Shaped, specified_type, specifiers_form}
use Rattle.upc_checker_scopes.specs.layer.Views.{view_setting, state_of, state_with}
use Rattle.upc_checker_types.specs.layer.ViewShapes.{view_shaped, view_specified}
use Rattle.upc_checker_scopes.specs.layer.ViewTags.{view_tags}
use Rattle.upc_checker_scopes.specs.Walk.{judge}
use Rattle.upc_checker_scopes.proofs.Walks.{goes, stops, gives}
use Rattle.upc_checker_declarations.proofs.declarations.walk_declaration.Goals as goal

pub returns-in_err-found : goal.returns-in_err-found
returns-in_err-found c =
    let ξ = view_setting c.args.setting in
    let Γ = view_env c.args.env.now in
    let s = state_of c.args.tags.now c.args.known.now in
    let list = trees.view_declared_list c.args.declaration.now.declared in
    let specs = λ (xs : List Spec). specs_of (map view_spec xs) in
    let items = c.args.declaration.now.specs.items in
    let value = c.as_slice-specs.ensures.value in
    let place = c.specs_place-place.ensures ∙ ap (λ xs. specs_place (specs xs)) value in
    let how = pure.specifying (specs_place (specs items)) Γ list in
    let stands = c.specifying-how.ensures ∙ ap (λ (at : Place). pure.specifying at Γ list) place in
    let wf = λ (h : Specifying) (xs : List Spec). walk_specifiers ξ Γ h (specs xs) in
    let id = λ (b : Behind). b in
    let e = c.in_err-found.field-0.0 in
    let hf = subst (λ (xs : List Spec). Stops (first_fault (wf how xs s).seen) e) value
    (subst (λ (h : Specifying). Stops (first_fault (wf h c.as_slice-specs.result.now s).seen) e) stands c.in_err-found.ensures) in
    let p = err_from_is_err_and c.from_residual.result c.from_residual.ensures.1 in
    rw (p.1, p.2) (stops id (wf how items) _ s s e hf)

pub returns-in_err-objects : goal.returns-in_err-objects
returns-in_err-objects c =
    let ξ = view_setting c.args.setting in
    let Γ = view_env c.args.env.now in
    let s = state_of c.args.tags.now c.args.known.now in
    let list = trees.view_declared_list c.args.declaration.now.declared in
    let specs = λ (xs : List Spec). specs_of (map view_spec xs) in
    let items = c.args.declaration.now.specs.items in
    let value = c.as_slice-specs.ensures.value in
    let place = c.specs_place-place.ensures ∙ ap (λ xs. specs_place (specs xs)) value in
    let how = pure.specifying (specs_place (specs items)) Γ list in
    let stands = c.specifying-how.ensures ∙ ap (λ (at : Place). pure.specifying at Γ list) place in
    let wf = λ (h : Specifying) (xs : List Spec). walk_specifiers ξ Γ h (specs xs) in
    let id = λ (b : Behind). b in
    let s1 = state_of c.walk_specifiers.new.tags c.walk_specifiers.new.known in
    let found = view_specified c.in_ok-found.found in
    let hf = subst (λ (xs : List Spec). Comes (wf how xs s) s1 found) value (subst (λ (h : Specifying). Comes (wf h c.as_slice-specs.result.now s) s1 found) stands c.in_ok-found.ensures) in
    let at = specs_place (specs items) in
    let first : Behind = record { scope = Γ; objects = [] } in
    let wo = λ (at : Place) (t : Shaped). pure.walk_declared_list ξ at t first list in
    let t = specified_type found in
    let e = c.in_err-objects.field-0.0 in
    let ho = subst (λ (t : Shaped). Stops (first_fault (wo at t s1).seen) e) c.specified_type-t.ensures
    (subst (λ (at : Place). Stops (first_fault (wo at (view_shaped c.specified_type-t.result) s1).seen) e) place c.in_err-objects.ensures) in
    let p = err_from_is_err_and c.from_residual-in_err-objects.result c.from_residual-in_err-objects.ensures.1 in
    rw (p.1, p.2) (goes id (wf how items) _ s s1 s1 found (Err e) hf (stops id (wo at t) _ s1 s1 e ho))

pub returns-in_err-judge_specifiers : goal.returns-in_err-judge_specifiers
returns-in_err-judge_specifiers c =
    let ξ = view_setting c.args.setting in
    let Γ = view_env c.args.env.now in
    let s = state_of c.args.tags.now c.args.known.now in
    let list = trees.view_declared_list c.args.declaration.now.declared in
    let specs = λ (xs : List Spec). specs_of (map view_spec xs) in
    let items = c.args.declaration.now.specs.items in
    let value = c.as_slice-specs.ensures.value in
    let place = c.specs_place-place.ensures ∙ ap (λ xs. specs_place (specs xs)) value in
    let how = pure.specifying (specs_place (specs items)) Γ list in
    let stands = c.specifying-how.ensures ∙ ap (λ (at : Place). pure.specifying at Γ list) place in
    let wf = λ (h : Specifying) (xs : List Spec). walk_specifiers ξ Γ h (specs xs) in
    let id = λ (b : Behind). b in
    let s1 = state_of c.walk_specifiers.new.tags c.walk_specifiers.new.known in
    let found = view_specified c.in_ok-found.found in
    let hf = subst (λ (xs : List Spec). Comes (wf how xs s) s1 found) value (subst (λ (h : Specifying). Comes (wf h c.as_slice-specs.result.now s) s1 found) stands c.in_ok-found.ensures) in
    let at = specs_place (specs items) in
    let first : Behind = record { scope = Γ; objects = [] } in
    let wo = λ (at : Place) (t : Shaped). pure.walk_declared_list ξ at t first list in
    let t = specified_type found in
    let s2 = state_of c.walk_declared_list.new.tags c.walk_declared_list.new.known in
    let b2 : Behind = record { scope = view_env c.walk_declared_list.new.env; objects = map view_object c.in_ok-objects.objects.items } in
    let ho = subst (λ (t : Shaped). Comes (wo at t s1) s2 b2) c.specified_type-t.ensures
    (subst (λ (at : Place). Comes (wo at (view_shaped c.specified_type-t.result) s1) s2 b2) place c.in_ok-objects.ensures) in
    let wj = λ (at : Place) (file : Bool). judge ξ at (Specifies (specifiers_form file found)) in
    let tags = view_tags c.walk_declared_list.new.tags in
    let e = c.in_err-judge_specifiers.field-0.0 in
    let hj = subst (λ (file : Bool). Stops (first_fault (wj at file s2).seen) e) c.is_file-file.ensures
    (subst (λ (at : Place). Stops (first_fault (wj at c.is_file-file.result s2).seen) e) place (c.in_err-judge_specifiers.ensures tags)) in
    let p = err_from_is_err_and c.from_residual-in_err-judge_specifiers.result c.from_residual-in_err-judge_specifiers.ensures.1 in
    rw (p.1, p.2) (goes id (wf how items) _ s s1 s2 found (Err e) hf (goes id (wo at t) _ s1 s2 s2 b2 (Err e) ho (stops id (wj at (is_file Γ)) _ s2 s2 e hj)))

pub returns : goal.returns
returns c =
    let ξ = view_setting c.args.setting in
    let Γ = view_env c.args.env.now in
    let s = state_of c.args.tags.now c.args.known.now in
    let list = trees.view_declared_list c.args.declaration.now.declared in
    let specs = λ (xs : List Spec). specs_of (map view_spec xs) in
    let items = c.args.declaration.now.specs.items in
    let value = c.as_slice-specs.ensures.value in
    let place = c.specs_place-place.ensures ∙ ap (λ xs. specs_place (specs xs)) value in
    let how = pure.specifying (specs_place (specs items)) Γ list in
    let stands = c.specifying-how.ensures ∙ ap (λ (at : Place). pure.specifying at Γ list) place in
    let wf = λ (h : Specifying) (xs : List Spec). walk_specifiers ξ Γ h (specs xs) in
    let id = λ (b : Behind). b in
    let s1 = state_of c.walk_specifiers.new.tags c.walk_specifiers.new.known in
    let found = view_specified c.in_ok-found.found in
    let hf = subst (λ (xs : List Spec). Comes (wf how xs s) s1 found) value (subst (λ (h : Specifying). Comes (wf h c.as_slice-specs.result.now s) s1 found) stands c.in_ok-found.ensures) in
    let at = specs_place (specs items) in
    let first : Behind = record { scope = Γ; objects = [] } in
    let wo = λ (at : Place) (t : Shaped). pure.walk_declared_list ξ at t first list in
    let t = specified_type found in
    let s2 = state_of c.walk_declared_list.new.tags c.walk_declared_list.new.known in
    let b2 : Behind = record { scope = view_env c.walk_declared_list.new.env; objects = map view_object c.in_ok-objects.objects.items } in
    let ho = subst (λ (t : Shaped). Comes (wo at t s1) s2 b2) c.specified_type-t.ensures
    (subst (λ (at : Place). Comes (wo at (view_shaped c.specified_type-t.result) s1) s2 b2) place c.in_ok-objects.ensures) in
    let wj = λ (at : Place) (file : Bool). judge ξ at (Specifies (specifiers_form file found)) in
    let tags = view_tags c.walk_declared_list.new.tags in
    let s3 = state_with tags c.judge_specifiers.new.known in
    let hj = subst (λ (file : Bool). Comes (wj at file s2) s3 (tt {0})) c.is_file-file.ensures
    (subst (λ (at : Place). Comes (wj at c.is_file-file.result s2) s3 (tt {0})) place (c.in_ok-judge_specifiers.ensures tags)) in
    let r : Result Behind Stop = Ok b2 in
    goes id (wf how items) _ s s1 s3 found r hf (goes id (wo at t) _ s1 s2 s3 b2 r ho (goes id (wj at (is_file Γ)) _ s2 s3 s3 (tt {0}) r hj (gives s3 b2)))
