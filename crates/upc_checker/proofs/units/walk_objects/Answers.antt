use Rattle.std.proofs.Common.{◌+◌, List, ◌++◌, map, Result, Ok, sym, ap, ◌∙◌}
use Rattle.std.proofs.lemmas.List.{map-append}
use Rattle.std.proofs.lemmas.Result.{err_from_is_err_and}
use Rattle.upc_text.specs.declared.faults.Stop.{Stop}
use Rattle.upc_tree.specs.layer.ViewStatement as trees
use Rattle.typed_tree.specs.Tree.{DeclaredObject}
use Rattle.typed_tree.specs.layer.ViewEnv.{view_env}
use Rattle.typed_tree.specs.ViewStatements.{view_object}
use Rattle.upc_checker_declarations.specs.Declarations.{Behind, walk_declaration}
use Rattle.upc_checker.specs.Units.{Made}
use Rattle.upc_checker_scopes.specs.layer.Views.{view_setting, state_of}
use Rattle.upc_checker_scopes.proofs.Walks.{goes, stops, gives}
use Rattle.upc_checker.proofs.units.walk_objects.Goals as goal

pub returns-in_err-more : goal.returns-in_err-more
returns-in_err-more c = λ strict functions.
    let ξ = view_setting c.args.setting in
    let Γ = view_env c.args.env.now in
    let s = state_of c.args.tags.now c.args.known.now in
    let before : Made = record { scope = Γ; objects = map view_object c.args.objects.now.items; functions = functions } in
    let w = walk_declaration ξ Γ (trees.view_declaration c.args.declaration.now) in
    let id = λ (m : Made). m in
    let p = err_from_is_err_and c.from_residual.result c.from_residual.ensures.1 in
    rw (p.1, p.2) (stops id w _ s s c.in_err-more.field-0.0 c.in_err-more.ensures)

pub returns : goal.returns
returns c = λ strict functions.
    let ξ = view_setting c.args.setting in
    let Γ = view_env c.args.env.now in
    let s = state_of c.args.tags.now c.args.known.now in
    let before : Made = record { scope = Γ; objects = map view_object c.args.objects.now.items; functions = functions } in
    let w = walk_declaration ξ Γ (trees.view_declaration c.args.declaration.now) in
    let id = λ (m : Made). m in
    let t = state_of c.walk_declaration.new.tags c.walk_declaration.new.known in
    let more = map view_object c.in_ok-more.more.items in
    let b : Behind = record { scope = view_env c.walk_declaration.new.env; objects = more } in
    let with = λ (xs : List DeclaredObject). let m : Made = record { scope = b.scope; objects = xs; functions = functions } in m in
    let made = with (before.objects ++ more) in
    let r : Result Made Stop = Ok made in
    let h = goes id w _ s t t b r c.in_ok-more.ensures (gives t made) in
    let all = ap (map view_object) c.in_ok-append.ensures.items ∙ map-append view_object c.args.objects.now.items c.in_ok-more.more.items in
    record { fine = h.fine; state = h.state; value = h.value ∙ ap with (sym all) }
