use Rattle.std.proofs.Common.{ℕ, List, map, Result, Ok, Err, ap, ◌∙◌, subst}
use Rattle.std.proofs.lemmas.Result.{err_from_is_err_and}
use Rattle.upc_text.specs.declared.faults.Stop.{Stop}
use Rattle.upc_tree.specs.declared.unit.External.{External}
use Rattle.upc_tree.specs.layer.ViewStatement.{view_external}
use Rattle.typed_tree.specs.declared.tree.Object.{Object}
use Rattle.typing_rules.specs.Faults.{first_fault}
use Rattle.typed_tree.specs.Scopes.{Setting, State, Tag, begin}
use Rattle.typed_tree.specs.layer.ViewEnv.{view_env}
use Rattle.typed_tree.specs.ViewStatements.{view_object}
use Rattle.upc_checker_scopes.specs.layer.Ends.{Stops, Comes}
use Rattle.upc_checker.specs.Limits.{limit_by}
use Rattle.upc_checker.specs.Units as pure
use Rattle.upc_checker_scopes.specs.layer.Views.{state_of, state_with}
use Rattle.upc_checker.specs.code.ViewMade.{view_made}
use Rattle.upc_checker.specs.code.ViewUnits.{view_checked, KeepsLimits}
use Rattle.upc_checker.proofs.Outcomes.{answers_fault, answers_limit, accepted}
use Rattle.upc_checker.proofs.whole.check_source.Goals as goal

pub returns-in_err-made : goal.returns-in_err-made
returns-in_err-made c =
    let w = λ (d : List ℕ) (xs : List External) (s : State).
    let ξ : Setting = record { names = c.args.names.now; threads = c.args.threads; defined = d; most = 65535 } in
    pure.walk_unit ξ (map view_external xs) s in
    let items = c.args.unit.now.externals.items in
    let slice = c.as_slice-externals.result.now in
    let d = c.in_ok-defined.defined.names.items in
    let known = c.nothing_known-known.result in
    let defined = c.in_ok-defined.ensures ∙ ap (λ (xs : List External). pure.defined_in (map view_external xs)) c.as_slice-externals.ensures.value in
    let all = pure.defined_in (map view_external items) in
    let e = c.in_err-made.field-0.0 in
    let h = subst (λ (d : List ℕ). Stops (first_fault (w d items begin).seen) e) defined
    (subst (λ (xs : List External). Stops (first_fault (w d xs begin).seen) e) c.as_slice-externals.ensures.value
    (subst (λ (s : State). Stops (first_fault (w d slice s).seen) e) c.nothing_known-known.ensures
    (subst (λ (tags : List Tag). Stops (first_fault (w d slice (state_with tags known)).seen) e) c.new-tags.ensures c.in_err-made.ensures))) in
    let p = err_from_is_err_and c.from_residual-in_err-made.result c.from_residual-in_err-made.ensures.1 in
    rw (p.1, p.2) (answers_fault view_checked c.args.threads (w all items begin) e h)

pub returns-in_err-keeps_limits : goal.returns-in_err-keeps_limits
returns-in_err-keeps_limits c =
    let w = λ (d : List ℕ) (xs : List External) (s : State).
    let ξ : Setting = record { names = c.args.names.now; threads = c.args.threads; defined = d; most = 65535 } in
    pure.walk_unit ξ (map view_external xs) s in
    let items = c.args.unit.now.externals.items in
    let slice = c.as_slice-externals.result.now in
    let d = c.in_ok-defined.defined.names.items in
    let known = c.nothing_known-known.result in
    let defined = c.in_ok-defined.ensures ∙ ap (λ (xs : List External). pure.defined_in (map view_external xs)) c.as_slice-externals.ensures.value in
    let all = pure.defined_in (map view_external items) in
    let after = state_of c.walk_unit.new.tags c.walk_unit.new.known in
    let m = view_made (view_env c.walk_unit.new.env) c.in_ok-made.made in
    let h = subst (λ (d : List ℕ). Comes (w d items begin) after m) defined
    (subst (λ (xs : List External). Comes (w d xs begin) after m) c.as_slice-externals.ensures.value
    (subst (λ (s : State). Comes (w d slice s) after m) c.nothing_known-known.ensures
    (subst (λ (tags : List Tag). Comes (w d slice (state_with tags known)) after m) c.new-tags.ensures c.in_ok-made.ensures))) in
    let e = c.in_err-keeps_limits.field-0.0 in
    let r : Result (Unit {0}) Stop = Err e in
    let k = subst (λ (xs : List Object). KeepsLimits (limit_by after.structs after.above (map view_object xs)) r) c.as_slice.ensures.value c.in_err-keeps_limits.ensures in
    let p = err_from_is_err_and c.from_residual-in_err-keeps_limits.result c.from_residual-in_err-keeps_limits.ensures.1 in
    rw (p.1, p.2) (answers_limit view_checked c.args.threads (w all items begin) after m e h k)

pub returns : goal.returns
returns c =
    let w = λ (d : List ℕ) (xs : List External) (s : State).
    let ξ : Setting = record { names = c.args.names.now; threads = c.args.threads; defined = d; most = 65535 } in
    pure.walk_unit ξ (map view_external xs) s in
    let items = c.args.unit.now.externals.items in
    let slice = c.as_slice-externals.result.now in
    let d = c.in_ok-defined.defined.names.items in
    let known = c.nothing_known-known.result in
    let defined = c.in_ok-defined.ensures ∙ ap (λ (xs : List External). pure.defined_in (map view_external xs)) c.as_slice-externals.ensures.value in
    let all = pure.defined_in (map view_external items) in
    let after = state_of c.walk_unit.new.tags c.walk_unit.new.known in
    let m = view_made (view_env c.walk_unit.new.env) c.in_ok-made.made in
    let h = subst (λ (d : List ℕ). Comes (w d items begin) after m) defined
    (subst (λ (xs : List External). Comes (w d xs begin) after m) c.as_slice-externals.ensures.value
    (subst (λ (s : State). Comes (w d slice s) after m) c.nothing_known-known.ensures
    (subst (λ (tags : List Tag). Comes (w d slice (state_with tags known)) after m) c.new-tags.ensures c.in_ok-made.ensures))) in
    let r : Result (Unit {0}) Stop = Ok (tt {0}) in
    let k = subst (λ (xs : List Object). KeepsLimits (limit_by after.structs after.above (map view_object xs)) r) c.as_slice.ensures.value c.in_ok-keeps_limits.ensures in
    accepted c.args.threads (w all items begin) after m (tt {0}) h k
