use Rattle.std.proofs.Common.{List, map, Result, Ok, Err, subst, Vec, Global}
use Rattle.std.proofs.lemmas.Result.{err_from_is_err_and}
use Rattle.upc_text.specs.declared.faults.Stop.{Stop}
use Rattle.upc_tree.specs.layer.View.{view_parameters}
use Rattle.upc_types.specs.declared.ctype.CType.{CType as RustType}
use Rattle.upc_types.specs.Types.{CType}
use Rattle.upc_types.specs.View.{view}
use Rattle.typed_tree.specs.Scopes.{Env, Tag, inside}
use Rattle.typed_tree.specs.layer.ViewEnv.{view_env}
use Rattle.upc_checker_scopes.specs.layer.Ends.{Meets}
use Rattle.upc_checker_types.specs.Members.{Declared}
use Rattle.upc_checker_expressions.specs.Expressions.{walk_parameters}
use Rattle.upc_checker_scopes.specs.layer.Views.{view_setting, state_of, state_with}
use Rattle.upc_checker_scopes.specs.Walk.{enclosed}
use Rattle.upc_checker_scopes.proofs.Walks.{goes, stops, gives, encloses}
use Rattle.upc_checker_declarations.proofs.declarations.prototype_types.Goals as goal

pub returns-in_err-all : goal.returns-in_err-all
returns-in_err-all c =
    let ξ = view_setting c.args.setting in
    let ps = view_parameters c.args.parameters.now in
    let s = state_of c.args.tags.now c.args.known.now in
    let after = state_of c.walk_parameters.new.tags c.walk_parameters.new.known in
    let e = c.in_err-all.field-0.0 in
    let id = λ (d : Declared). d in
    let r : Result Declared Stop = Err e in
    let h = subst (λ (tags : List Tag). Meets id (walk_parameters ξ (view_env c.in_ok-scope.scope) ps (state_with tags c.args.known.now)) after r) c.enclosed-inner.ensures c.in_err-all.ensures in
    let h' = subst (λ (Γ : Env). Meets id (walk_parameters ξ Γ ps s) after r) c.in_ok-scope.ensures h in
    let w = walk_parameters ξ (inside (view_env c.args.env.now)) ps in
    let p = err_from_is_err_and c.from_residual-in_err-all.result c.from_residual-in_err-all.ensures.1 in
    rw (p.1, p.2) (stops (λ (ts : List CType). ts) (enclosed w) _ s s e (encloses id w s after r h'))

pub returns : goal.returns
returns c =
    let ξ = view_setting c.args.setting in
    let ps = view_parameters c.args.parameters.now in
    let s = state_of c.args.tags.now c.args.known.now in
    let after = state_of c.walk_parameters.new.tags c.walk_parameters.new.known in
    let id = λ (d : Declared). d in
    let d : Declared = record { types = map view c.in_ok-all.all.items; scope = view_env c.walk_parameters.new.scope } in
    let r : Result Declared Stop = Ok d in
    let h = subst (λ (tags : List Tag). Meets id (walk_parameters ξ (view_env c.in_ok-scope.scope) ps (state_with tags c.args.known.now)) after r) c.enclosed-inner.ensures c.in_ok-all.ensures in
    let h' = subst (λ (Γ : Env). Meets id (walk_parameters ξ Γ ps s) after r) c.in_ok-scope.ensures h in
    let w = walk_parameters ξ (inside (view_env c.args.env.now)) ps in
    let end = state_of c.args.tags.now c.walk_parameters.new.known in
    let types = λ (ts : Vec RustType Global). map view ts.items in
    goes types (enclosed w) _ s end end d (Ok c.in_ok-all.all) (encloses id w s after r h') (gives end d.types)
