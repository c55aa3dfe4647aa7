use Rattle.std.proofs.Common.{[], map, Result, None, Ok}
use Rattle.std.proofs.lemmas.Result.{err_from_is_err_and}
use Rattle.upc_text.specs.declared.faults.Stop.{Stop}
use Rattle.upc_tree.specs.layer.ViewStatement as trees
use Rattle.typed_tree.specs.layer.ViewEnv.{view_env}
use Rattle.typed_tree.specs.ViewStatements.{view_object, view_value}
use Rattle.upc_checker_declarations.specs.Declarations as declarations
use Rattle.upc_checker_heads.specs.Heads as pure
use Rattle.upc_checker_scopes.specs.layer.Views.{view_setting, state_of}
use Rattle.upc_checker_scopes.proofs.Walks.{goes, stops, gives}
use Rattle.upc_checker_heads.proofs.heads.walk_first.Goals as goal

pub returns-in_err-first-in-Expression : goal.returns-in_err-first-in-Expression
returns-in_err-first-in-Expression c =
    let ξ = view_setting c.args.setting in
    let Γ = view_env c.args.env.now in
    let s = state_of c.args.tags.now c.args.known.now in
    let e = c.in_err-first-in-Expression.field-0.0 in
    let p = err_from_is_err_and c.from_residual.result c.from_residual.ensures.1 in
    let id = λ (x : pure.Begun). x in
    rw (c.in-Expression.is, p.1, p.2)
    (stops id (pure.walk_value ξ Γ (trees.view_value c.in-Expression.value)) _ s s e c.in_err-first-in-Expression.ensures)

pub returns-in_ok-first-in-Expression : goal.returns-in_ok-first-in-Expression
returns-in_ok-first-in-Expression c =
    let ξ = view_setting c.args.setting in
    let Γ = view_env c.args.env.now in
    let s = state_of c.args.tags.now c.args.known.now in
    let y : pure.Begun = record { scope = Γ; objects = []; first = view_value c.in_ok-first-in-Expression.first } in
    let made : Result pure.Begun Stop = Ok y in
    let t = (state_of c.walk_value.new.tags c.walk_value.new.known) in
    rw (c.in-Expression.is, c.new-objects.ensures.items) (goes (λ (b : pure.Begun). b) (pure.walk_value ξ Γ (trees.view_value c.in-Expression.value)) _ s t t (view_value c.in_ok-first-in-Expression.first) made c.in_ok-first-in-Expression.ensures (gives t y))

pub returns-in_err-objects-in-Declaration : goal.returns-in_err-objects-in-Declaration
returns-in_err-objects-in-Declaration c =
    let ξ = view_setting c.args.setting in
    let Γ = view_env c.args.env.now in
    let s = state_of c.args.tags.now c.args.known.now in
    let e = c.in_err-objects-in-Declaration.field-0.0 in
    let p = err_from_is_err_and c.from_residual-in_err-objects-in-Declaration.result c.from_residual-in_err-objects-in-Declaration.ensures.1 in
    let id = λ (x : pure.Begun). x in
    rw (c.in-Declaration.is, p.1, p.2)
    (stops id (declarations.walk_declaration ξ Γ (trees.view_declaration c.in-Declaration.declaration.value)) _ s s e (rw c.deref.ensures at c.in_err-objects-in-Declaration.ensures))

pub returns-in_ok-objects-in-Declaration : goal.returns-in_ok-objects-in-Declaration
returns-in_ok-objects-in-Declaration c =
    let ξ = view_setting c.args.setting in
    let Γ = view_env c.args.env.now in
    let s = state_of c.args.tags.now c.args.known.now in
    let b : declarations.Behind = record { scope = view_env c.walk_declaration.new.env; objects = map view_object c.in_ok-objects-in-Declaration.objects.items } in
    let y : pure.Begun = record { scope = b.scope; objects = b.objects; first = None } in
    let made : Result pure.Begun Stop = Ok y in
    let t = (state_of c.walk_declaration.new.tags c.walk_declaration.new.known) in
    rw c.in-Declaration.is (goes (λ (b : pure.Begun). b) (declarations.walk_declaration ξ Γ (trees.view_declaration c.in-Declaration.declaration.value)) _ s t t b made (rw c.deref.ensures at c.in_ok-objects-in-Declaration.ensures) (gives t y))
