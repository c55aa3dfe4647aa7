use Rattle.std.proofs.Common.{◌+◌, Bool, true, false, List, map, drop, sym, subst}
use Rattle.std.proofs.lemmas.Result.{err_from_is_err_and}
use Rattle.upc_tree.specs.declared.unit.External.{External}
use Rattle.upc_tree.specs.layer.ViewStatement as trees
use Rattle.typed_tree.specs.layer.ViewEnv.{view_env}
use Rattle.upc_checker.specs.Units as pure
use Rattle.upc_checker.specs.Units.{Made}
use Rattle.upc_checker_scopes.specs.layer.Views.{view_setting, state_of}
use Rattle.upc_checker.specs.code.ViewMade.{view_made}
use Rattle.upc_checker_scopes.proofs.Walks.{Same}
use Rattle.upc_checker_scopes.proofs.Turns.{fold_goes, fold_stops}
use Rattle.upc_checker.proofs.units.walk_externals.Goals as goal
use Rattle.upc_values.proofs.Membership.{left_from}

pub returns-in_err-walk_external : goal.returns-in_err-walk_external
returns-in_err-walk_external c =
    let ξ = view_setting c.args.setting in
    let w = λ (b : Bool) (m : Made) (xs : List External). pure.walk_externals ξ b m (map trees.view_external xs) in
    let whole = w false (view_made (view_env c.args.env.now) c.args.made.now) c.args.externals.now (state_of c.args.tags.now c.args.known.now) in
    let m = view_made (view_env c.loop-part.env) c.loop-part.made in
    let s = state_of c.loop-part.tags c.loop-part.known in
    let part = c.part-item.result in
    let next = left_from c.args.externals.now c.loop-part.part-index part c.loop-part-test.true c.part-item.is in
    let h = subst (λ (xs : List External). Same whole (w c.loop-part.strict m xs s)) next c.loop-part.invariant in
    let one = pure.walk_external ξ c.loop-part.strict m (trees.view_external part) in
    let p = err_from_is_err_and c.from_residual.result c.from_residual.ensures.1 in
    rw (p.1, p.2) (fold_stops (λ (m : Made). m) whole one _ s s c.in_err-walk_external.field-0.0 h c.in_err-walk_external.ensures)

pub loop-part-preserved : goal.loop-part-preserved
loop-part-preserved c =
    let ξ = view_setting c.args.setting in
    let w = λ (b : Bool) (m : Made) (xs : List External). pure.walk_externals ξ b m (map trees.view_external xs) in
    let whole = w false (view_made (view_env c.args.env.now) c.args.made.now) c.args.externals.now (state_of c.args.tags.now c.args.known.now) in
    let m = view_made (view_env c.loop-part.env) c.loop-part.made in
    let s = state_of c.loop-part.tags c.loop-part.known in
    let part = c.part-item.result in
    let next = left_from c.args.externals.now c.loop-part.part-index part c.loop-part-test.true c.part-item.is in
    let h = subst (λ (xs : List External). Same whole (w c.loop-part.strict m xs s)) next c.loop-part.invariant in
    let one = pure.walk_external ξ c.loop-part.strict m (trees.view_external part) in
    let rest = drop (c.loop-part.part-index + 1) c.args.externals.now in
    let t = state_of c.walk_external.new.tags c.walk_external.new.known in
    let a = view_made (view_env c.walk_external.new.env) c.walk_external.new.made in
    let strict = pure.strict_from c.loop-part.strict (trees.view_external part) in
    let after = fold_goes whole one (λ (m : Made). w strict m rest) s t a h c.in_ok-walk_external.ensures in
    subst (λ (b : Bool). Same whole (w b a rest t)) (sym c.strict_from-strict.ensures) after
