use Rattle.std.proofs.Common.{false, List, map, Result, Ok, Err, refl, sym, ap, subst}
use Rattle.std.proofs.lemmas.Result.{err_from_is_err_and}
use Rattle.upc_text.specs.declared.faults.Stop.{Stop}
use Rattle.upc_text.specs.declared.place.Place.{Place}
use Rattle.upc_tree.specs.declared.span.Name.{Name}
use Rattle.upc_tree.specs.Declaration.{Initial}
use Rattle.upc_tree.specs.layer.Lists.{pointers_of}
use Rattle.upc_tree.specs.layer.View.{view_pointer, view_parameters}
use Rattle.upc_tree.specs.layer.ViewStatement as trees
use Rattle.upc_types.specs.Types.{CType}
use Rattle.upc_types.specs.View as types
use Rattle.typing_rules.specs.Faults.{first_fault}
use Rattle.typing_rules.specs.Library.{int}
use Rattle.typing_rules.specs.Meanings.{Signature, Function}
use Rattle.typed_tree.specs.Scopes.{Setting, Env, inside, with_entry}
use Rattle.typed_tree.specs.layer.ViewEnv.{view_env}
use Rattle.typed_tree.specs.ViewStatements.{view_initial}
use Rattle.upc_checker_declarations.specs.Declarations as pure
use Rattle.upc_checker_declarations.specs.Declarations.{Behind}
use Rattle.upc_checker_scopes.specs.layer.Ends.{Stops, Comes, Meets}
use Rattle.upc_checker_types.specs.Members.{Declared}
use Rattle.upc_checker_scopes.specs.Places.{pointers_place}
use Rattle.upc_checker_expressions.specs.Expressions.{walk_pointers, walk_parameters}
use Rattle.upc_checker_types.specs.Specifiers.{Shaped}
use Rattle.upc_checker_scopes.specs.layer.Views.{view_setting, state_of, state_with}
use Rattle.upc_checker_types.specs.layer.ViewShapes.{view_shaped}
use Rattle.upc_checker_scopes.specs.layer.ViewTags.{view_tags}
use Rattle.upc_checker_scopes.specs.Walk.{Walk, andthen, give, enclosed}
use Rattle.upc_checker_scopes.proofs.Walks.{goes, stops}
use Rattle.upc_checker_scopes.proofs.Turns.{goes_by, stops_by}
use Rattle.upc_checker_declarations.proofs.declarations.walk_prototype.Goals as goal

-- What is walked after the parameters.
abbrev rest : Setting → Behind → Name → Initial → Shaped → Place → List CType → Walk Behind
rest ξ before name initial p at ts =
    let Γ = before.scope in
    let signature : Signature = record { result = p.ctype; parameters = ts } in
    let behind = with_entry name.number (Function signature) Γ in
    andthen (pure.declares_function ξ Γ at name.number p.forms signature) (λ u.
    andthen (pure.walk_initial ξ behind at false int initial) (λ i.
    let b : Behind = record { scope = behind; objects = before.objects } in
    give b))

pub returns-in_err-p : goal.returns-in_err-p
returns-in_err-p c = λ _ objects.
    let ξ = view_setting c.args.setting in
    let Γ = view_env c.args.env.now in
    let s = state_of c.args.tags.now c.args.known.now in
    let stars = pointers_of (map view_pointer c.args.pointers.now) in
    let t = view_shaped c.args.t.now in
    let wp = λ (t : Shaped). walk_pointers ξ Γ false t stars in
    let ws = enclosed (walk_parameters ξ (inside Γ) (view_parameters c.args.parameters.now)) in
    let id = λ (b : Behind). b in
    let types_of = λ (d : Declared). d.types in
    let e = c.in_err-p.field-0.0 in
    let hp = subst (λ (t : Shaped). Stops (first_fault (wp t s).seen) e) c.in_ok-t.ensures c.in_err-p.ensures in
    let p = err_from_is_err_and c.from_residual-in_err-p.result c.from_residual-in_err-p.ensures.1 in
    rw (p.1, p.2) (stops id (wp t) _ s s e hp)

pub returns-in_err-parameters : goal.returns-in_err-parameters
returns-in_err-parameters c = λ _ objects.
    let ξ = view_setting c.args.setting in
    let Γ = view_env c.args.env.now in
    let s = state_of c.args.tags.now c.args.known.now in
    let stars = pointers_of (map view_pointer c.args.pointers.now) in
    let t = view_shaped c.args.t.now in
    let wp = λ (t : Shaped). walk_pointers ξ Γ false t stars in
    let ws = enclosed (walk_parameters ξ (inside Γ) (view_parameters c.args.parameters.now)) in
    let id = λ (b : Behind). b in
    let types_of = λ (d : Declared). d.types in
    let s1 = state_of c.walk_pointers.new.tags c.walk_pointers.new.known in
    let p1 = view_shaped c.in_ok-p.p in
    let hp = subst (λ (t : Shaped). Comes (wp t s) s1 p1) c.in_ok-t.ensures c.in_ok-p.ensures in
    let e = c.in_err-parameters.field-0.0 in
    let p = err_from_is_err_and c.from_residual-in_err-parameters.result c.from_residual-in_err-parameters.ensures.1 in
    rw (p.1, p.2) (goes id (wp t) _ s s1 s1 p1 (Err e) hp (stops id ws _ s1 s1 e (stops_by ws types_of s1 e c.in_err-parameters.ensures)))

pub returns-in_err-declares_function : goal.returns-in_err-declares_function
returns-in_err-declares_function c = λ _ objects.
    let ξ = view_setting c.args.setting in
    let Γ = view_env c.args.env.now in
    let s = state_of c.args.tags.now c.args.known.now in
    let stars = pointers_of (map view_pointer c.args.pointers.now) in
    let t = view_shaped c.args.t.now in
    let wp = λ (t : Shaped). walk_pointers ξ Γ false t stars in
    let ws = enclosed (walk_parameters ξ (inside Γ) (view_parameters c.args.parameters.now)) in
    let id = λ (b : Behind). b in
    let types_of = λ (d : Declared). d.types in
    let s1 = state_of c.walk_pointers.new.tags c.walk_pointers.new.known in
    let p1 = view_shaped c.in_ok-p.p in
    let hp = subst (λ (t : Shaped). Comes (wp t s) s1 p1) c.in_ok-t.ensures c.in_ok-p.ensures in
    let tags = view_tags c.walk_pointers.new.tags in
    let s2 = state_with tags c.prototype_types.new.known in
    let ts = map types.view c.in_ok-parameters.parameters.items in
    let before : Behind = record { scope = Γ; objects = objects } in
    let initial = trees.view_initial c.args.initial.now in
    let go = rest ξ before c.args.name initial p1 in
    let at = c.pointers_place-at.result in
    let place = pointers_place stars c.args.name in
    let signature : Signature = record { result = p1.ctype; parameters = ts } in
    let wd = pure.declares_function ξ Γ at c.args.name.number p1.forms signature in
    let e = c.in_err-declares_function.field-0.0 in
    let r : Result Behind Stop = Err e in
    let h0 = stops id wd _ s2 s2 e (c.in_err-declares_function.ensures tags) in
    let h1 = subst (λ (at : Place). Meets id (go at ts s2) s2 r) c.pointers_place-at.ensures h0 in
    let p = err_from_is_err_and c.from_residual-in_err-declares_function.result c.from_residual-in_err-declares_function.ensures.1 in
    rw (p.1, p.2) (goes id (wp t) _ s s1 s2 p1 r hp (goes_by id ws types_of (go place) s1 s2 s2 ts r c.in_ok-parameters.ensures h1))

pub returns-in_err-walk_initial : goal.returns-in_err-walk_initial
returns-in_err-walk_initial c = λ _ objects.
    let ξ = view_setting c.args.setting in
    let Γ = view_env c.args.env.now in
    let s = state_of c.args.tags.now c.args.known.now in
    let stars = pointers_of (map view_pointer c.args.pointers.now) in
    let t = view_shaped c.args.t.now in
    let wp = λ (t : Shaped). walk_pointers ξ Γ false t stars in
    let ws = enclosed (walk_parameters ξ (inside Γ) (view_parameters c.args.parameters.now)) in
    let id = λ (b : Behind). b in
    let types_of = λ (d : Declared). d.types in
    let s1 = state_of c.walk_pointers.new.tags c.walk_pointers.new.known in
    let p1 = view_shaped c.in_ok-p.p in
    let hp = subst (λ (t : Shaped). Comes (wp t s) s1 p1) c.in_ok-t.ensures c.in_ok-p.ensures in
    let tags = view_tags c.walk_pointers.new.tags in
    let s2 = state_with tags c.prototype_types.new.known in
    let ts = map types.view c.in_ok-parameters.parameters.items in
    let before : Behind = record { scope = Γ; objects = objects } in
    let initial = trees.view_initial c.args.initial.now in
    let go = rest ξ before c.args.name initial p1 in
    let at = c.pointers_place-at.result in
    let place = pointers_place stars c.args.name in
    let signature : Signature = record { result = p1.ctype; parameters = ts } in
    let wd = pure.declares_function ξ Γ at c.args.name.number p1.forms signature in
    let s3 = state_with tags c.declares_function.new.known in
    let behind = with_entry c.args.name.number (Function signature) Γ in
    let wi = λ (Δ : Env) (t : CType). pure.walk_initial ξ Δ at false t initial in
    let env = c.in_ok-enter_function.ensures.ok in
    let e = c.in_err-walk_initial.field-0.0 in
    let r : Result Behind Stop = Err e in
    let hi = subst (λ (Δ : Env). Stops (first_fault (wi Δ (types.view c.int_type.result) s3).seen) e) env c.in_err-walk_initial.ensures in
    let hj = subst (λ (t : CType). Stops (first_fault (wi behind t s3).seen) e) c.int_type.ensures hi in
    let h0 = goes id wd _ s2 s3 s3 (tt {0}) r (c.in_ok-declares_function.ensures tags) (stops id (wi behind int) _ s3 s3 e hj) in
    let h1 = subst (λ (at : Place). Meets id (go at ts s2) s3 r) c.pointers_place-at.ensures h0 in
    let p = err_from_is_err_and c.from_residual-in_err-walk_initial.result c.from_residual-in_err-walk_initial.ensures.1 in
    rw (p.1, p.2) (goes id (wp t) _ s s1 s3 p1 r hp (goes_by id ws types_of (go place) s1 s2 s3 ts r c.in_ok-parameters.ensures h1))

pub returns : goal.returns
returns c = λ _ objects.
    let ξ = view_setting c.args.setting in
    let Γ = view_env c.args.env.now in
    let s = state_of c.args.tags.now c.args.known.now in
    let stars = pointers_of (map view_pointer c.args.pointers.now) in
    let t = view_shaped c.args.t.now in
    let wp = λ (t : Shaped). walk_pointers ξ Γ false t stars in
    let ws = enclosed (walk_parameters ξ (inside Γ) (view_parameters c.args.parameters.now)) in
    let id = λ (b : Behind). b in
    let types_of = λ (d : Declared). d.types in
    let s1 = state_of c.walk_pointers.new.tags c.walk_pointers.new.known in
    let p1 = view_shaped c.in_ok-p.p in
    let hp = subst (λ (t : Shaped). Comes (wp t s) s1 p1) c.in_ok-t.ensures c.in_ok-p.ensures in
    let tags = view_tags c.walk_pointers.new.tags in
    let s2 = state_with tags c.prototype_types.new.known in
    let ts = map types.view c.in_ok-parameters.parameters.items in
    let before : Behind = record { scope = Γ; objects = objects } in
    let initial = trees.view_initial c.args.initial.now in
    let go = rest ξ before c.args.name initial p1 in
    let at = c.pointers_place-at.result in
    let place = pointers_place stars c.args.name in
    let signature : Signature = record { result = p1.ctype; parameters = ts } in
    let wd = pure.declares_function ξ Γ at c.args.name.number p1.forms signature in
    let s3 = state_with tags c.declares_function.new.known in
    let behind = with_entry c.args.name.number (Function signature) Γ in
    let wi = λ (Δ : Env) (t : CType). pure.walk_initial ξ Δ at false t initial in
    let env = c.in_ok-enter_function.ensures.ok in
    let s4 = state_of c.walk_initial.new.tags c.walk_initial.new.known in
    let i = view_initial c.in_ok-walk_initial.field-0 in
    let hi = subst (λ (Δ : Env). Comes (wi Δ (types.view c.int_type.result) s3) s4 i) env c.in_ok-walk_initial.ensures in
    let hj = subst (λ (t : CType). Comes (wi behind t s3) s4 i) c.int_type.ensures hi in
    let with = λ (Δ : Env). let b : Behind = record { scope = Δ; objects = objects } in b in
    let seen = λ (u : Unit {0}). with (view_env c.enter_function.new.env) in
    let r : Result (Unit {0}) Stop = Ok (tt {0}) in
    let h0 = goes seen wd _ s2 s3 s4 (tt {0}) r (c.in_ok-declares_function.ensures tags)
    (goes seen (wi behind int) _ s3 s4 s4 i r hj (record { fine = refl; state = refl; value = ap with (sym env) })) in
    let h1 = subst (λ (at : Place). Meets seen (go at ts s2) s4 r) c.pointers_place-at.ensures h0 in
    goes seen (wp t) _ s s1 s4 p1 r hp (goes_by seen ws types_of (go place) s1 s2 s4 ts r c.in_ok-parameters.ensures h1)
