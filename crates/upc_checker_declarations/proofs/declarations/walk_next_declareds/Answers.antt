use Rattle.std.proofs.Common.{◌+◌, List, map, drop, subst}
use Rattle.std.proofs.lemmas.Result.{err_from_is_err_and}
use Rattle.upc_tree.specs.declared.declaration.NextDeclared.{NextDeclared}
use Rattle.upc_tree.specs.layer.Lists.{next_declareds_of}
use Rattle.upc_tree.specs.layer.ViewStatement.{view_next_declared, view_declared}
use Rattle.typed_tree.specs.layer.ViewEnv.{view_env}
use Rattle.typed_tree.specs.ViewStatements.{view_object}
use Rattle.upc_checker_declarations.specs.Declarations as pure
use Rattle.upc_checker_declarations.specs.Declarations.{Behind}
use Rattle.upc_checker_scopes.specs.layer.Views.{view_setting, state_of}
use Rattle.upc_checker_types.specs.layer.ViewShapes.{view_shaped}
use Rattle.upc_checker_scopes.proofs.Walks.{Same}
use Rattle.upc_checker_scopes.proofs.Turns.{fold_goes, fold_stops}
use Rattle.upc_checker_declarations.proofs.declarations.walk_next_declareds.Goals as goal
use Rattle.upc_values.proofs.Membership.{left_from}

pub returns-in_err-walk_declared : goal.returns-in_err-walk_declared
returns-in_err-walk_declared c =
    let ξ = view_setting c.args.setting in
    let t = view_shaped c.args.t.now in
    let w = λ (b : Behind) (xs : List NextDeclared). pure.walk_next_declareds ξ c.args.place t b (next_declareds_of (map view_next_declared xs)) in
    let first : Behind = record { scope = view_env c.args.env.now; objects = map view_object c.args.objects.now.items } in
    let whole = w first c.args.more.now (state_of c.args.tags.now c.args.known.now) in
    let b : Behind = record { scope = view_env c.loop-part.env; objects = map view_object c.loop-part.objects.items } in
    let s = state_of c.loop-part.tags c.loop-part.known in
    let part = c.part-item.result in
    let next = left_from c.args.more.now c.loop-part.part-index part c.loop-part-test.true c.part-item.is in
    let h = subst (λ (xs : List NextDeclared). Same whole (w b xs s)) next c.loop-part.invariant in
    let one = pure.walk_declared ξ c.args.place t b (view_declared part.declared.value) in
    let e = c.in_err-walk_declared.field-0.0 in
    let p = err_from_is_err_and c.from_residual.result c.from_residual.ensures.1 in
    rw (p.1, p.2) (fold_stops (λ (b : Behind). b) whole one _ s s e h (rw c.deref.ensures at c.in_err-walk_declared.ensures))

pub loop-part-preserved : goal.loop-part-preserved
loop-part-preserved c =
    let ξ = view_setting c.args.setting in
    let t = view_shaped c.args.t.now in
    let w = λ (b : Behind) (xs : List NextDeclared). pure.walk_next_declareds ξ c.args.place t b (next_declareds_of (map view_next_declared xs)) in
    let first : Behind = record { scope = view_env c.args.env.now; objects = map view_object c.args.objects.now.items } in
    let whole = w first c.args.more.now (state_of c.args.tags.now c.args.known.now) in
    let b : Behind = record { scope = view_env c.loop-part.env; objects = map view_object c.loop-part.objects.items } in
    let s = state_of c.loop-part.tags c.loop-part.known in
    let part = c.part-item.result in
    let next = left_from c.args.more.now c.loop-part.part-index part c.loop-part-test.true c.part-item.is in
    let h = subst (λ (xs : List NextDeclared). Same whole (w b xs s)) next c.loop-part.invariant in
    let one = pure.walk_declared ξ c.args.place t b (view_declared part.declared.value) in
    let rest = drop (c.loop-part.part-index + 1) c.args.more.now in
    let a : Behind = record { scope = view_env c.walk_declared.new.env; objects = map view_object c.walk_declared.new.objects.items } in
    fold_goes whole one (λ (b : Behind). w b rest) s (state_of c.walk_declared.new.tags c.walk_declared.new.known) a h (rw c.deref.ensures at c.in_ok-walk_declared.ensures)
