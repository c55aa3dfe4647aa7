use Rattle.std.proofs.Common.{◌≡◌, Bool, true, List, map, Result, Ok, Err, sym, ap, ◌∙◌, subst}
use Rattle.std.proofs.lemmas.Result.{err_from_is_err_and}
use Rattle.upc_text.specs.declared.faults.Stop.{Stop}
use Rattle.upc_tree.specs.layer.View as views
use Rattle.upc_tree.specs.layer.ViewStatement as trees
use Rattle.upc_types.specs.View.{view}
use Rattle.typing_rules.specs.Meanings.{Signature, Function}
use Rattle.typed_tree.specs.Scopes.{Env, State, Within, inside, with_entry, with_function}
use Rattle.typed_tree.specs.layer.ViewEnv.{view_env, view_detached}
use Rattle.typed_tree.specs.ViewStatements.{view_function}
use Rattle.upc_checker_scopes.specs.layer.Ends.{Stops, Comes, Meets}
use Rattle.upc_checker_scopes.specs.layer.Views.{view_setting, state_of, state_with}
use Rattle.upc_checker_scopes.specs.layer.ViewTags.{view_tags}
use Rattle.upc_checker_scopes.specs.Walk.{enclosed, update}
use Rattle.upc_checker_scopes.proofs.Walks.{goes, stops, looks, updates, encloses}
use Rattle.upc_checker_types.specs.Members.{Declared}
use Rattle.upc_checker_expressions.specs.Expressions.{walk_parameters}
use Rattle.upc_checker.specs.code.Parts.{body_part, earlier_in}
use Rattle.upc_checker.specs.Units as pure
use Rattle.upc_checker.specs.Units.{Made, Earlier, with_outer_entry}
use Rattle.upc_checker.specs.code.ViewEarlier.{view_earlier}
use Rattle.upc_checker.proofs.functions.walk_definition.Goals as goal

pub returns-in_err-own : goal.returns-in_err-own
returns-in_err-own c = λ objects.
    let ξ = view_setting c.args.setting in
    let Γ = view_env c.args.env.now in
    let s = state_of c.args.tags.now c.args.known.now in
    let fun = c.args.function.now in
    let ps = views.view_parameters fun.parameters.value in
    let name = fun.name in
    let body = trees.view_compound fun.body.value in
    let before : Made = record { scope = Γ; objects = objects; functions = map view_function c.args.functions.now.items } in
    let w = pure.walk_definition ξ c.args.strict before c.args.place c.args.forms (view c.args.gives) name ps body in
    let id = λ (m : Made). m in
    let wp = walk_parameters ξ (inside Γ) ps in
    let tags = view_tags c.own_parameters.new.tags in
    let s1 = state_with tags c.own_parameters.new.known in
    let e = c.in_err-own.field-0.0 in
    let r : Result Made Stop = Err e in
    let p = err_from_is_err_and c.from_residual.result c.from_residual.ensures.1 in
    rw (p.1, p.2) (encloses id w s s1 r (stops id wp _ s s1 e (rw (c.enclosed-inner.ensures, c.deref.ensures) at c.in_err-own.ensures)))

pub returns : goal.returns
returns c = λ objects.
    let ξ = view_setting c.args.setting in
    let Γ = view_env c.args.env.now in
    let s = state_of c.args.tags.now c.args.known.now in
    let fun = c.args.function.now in
    let ps = views.view_parameters fun.parameters.value in
    let name = fun.name in
    let body = trees.view_compound fun.body.value in
    let before : Made = record { scope = Γ; objects = objects; functions = map view_function c.args.functions.now.items } in
    let w = pure.walk_definition ξ c.args.strict before c.args.place c.args.forms (view c.args.gives) name ps body in
    let id = λ (m : Made). m in
    let wp = walk_parameters ξ (inside Γ) ps in
    let tags = view_tags c.own_parameters.new.tags in
    let s1 = state_with tags c.own_parameters.new.known in
    let own = c.in_ok-own.own in
    let ts = map view own.types.items in
    let d : Declared = record { types = ts; scope = view_detached own.scope (Within Γ) } in
    let hp = rw (c.enclosed-inner.ensures, c.deref.ensures) at c.in_ok-own.ensures in
    let signature : Signature = record { result = view c.args.gives; parameters = ts } in
    let was = earlier_in ξ Γ s1 name.number signature in
    let said = c.said_before-was.ensures tags in
    let s2 = with_function name.number signature true s1 in
    let known = c.in_ok-declare_definition.ensures.known tags in
    let entry = c.in_ok-declare_definition.ensures.scope in
    let inner = with_outer_entry name.number signature d.scope in
    let scope : view_env c.within-scope.result ≡ inner = c.within-scope.ensures ∙ ap (λ (Θ : Env). view_detached own.scope (Within Θ)) entry in
    let end = state_with tags c.walk_defined.new.known in
    let r = c.walk_defined.result in
    let with = λ (Θ : Env) (u : Unit {0}). let m : Made = record { scope = Θ; objects = objects; functions = map view_function c.walk_defined.new.functions.items } in m in
    let seen = with (with_entry name.number (Function signature) Γ) in
    let part = λ (x : Earlier) (Θ : Env) (t : State). body_part ξ c.args.strict before c.args.place c.args.forms name signature x body Θ t in
    let hd = subst (λ (t : State). Meets seen (part was inner t) end r) known
    (subst (λ (Θ : Env). Meets seen (part was Θ (state_with tags c.declare_definition.new.known)) end r) scope
    (subst (λ (x : Earlier). Meets seen (part x (view_env c.within-scope.result) (state_with tags c.declare_definition.new.known)) end r) said (c.walk_defined.ensures Γ objects))) in
    let h : Meets seen (w s) end r = goes seen wp _ s s1 end d r hp
    (goes seen (pure.earlier ξ Γ name.number signature) _ s1 s1 end was r (looks (λ (t : State). earlier_in ξ Γ t name.number signature) s1)
    (goes seen (update (with_function name.number signature true)) _ s1 s2 end (tt {0}) r (updates (with_function name.number signature true) s1) hd)) in
    subst (λ (Θ : Env). Meets (with Θ) (enclosed w s) (state_of c.args.tags.now c.walk_defined.new.known) r) (sym entry) (encloses seen w s end r h)
