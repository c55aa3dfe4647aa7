use Rattle.std.proofs.Common.{false, List, [], map, Result, Ok, Err, ap, ◌∙◌, subst}
use Rattle.std.specs.List.{list_any}
use Rattle.std.proofs.lemmas.Result.{err_from_is_err_and}
use Rattle.upc_text.specs.declared.faults.Stop.{Stop}
use Rattle.upc_text.specs.declared.place.Place.{Place}
use Rattle.upc_tree.specs.layer.ViewStatement as trees
use Rattle.typed_tree.specs.declared.tree.Object.{Object}
use Rattle.typed_tree.specs.declared.tree.Function.{Function}
use Rattle.typing_rules.specs.Faults.{first_fault}
use Rattle.typing_rules.specs.Nodes.{File}
use Rattle.typing_rules.specs.Rules.{lowest}
use Rattle.typed_tree.specs.Scopes.{Env, file}
use Rattle.typed_tree.specs.layer.ViewEnv.{view_env}
use Rattle.typed_tree.specs.ViewStatements.{view_function, view_object}
use Rattle.upc_checker_scopes.specs.layer.Ends.{Stops, Comes}
use Rattle.upc_checker.specs.Units as pure
use Rattle.upc_checker.specs.Units.{Made}
use Rattle.upc_checker_scopes.specs.layer.Views.{view_setting, state_of}
use Rattle.upc_checker.specs.code.ViewMade.{view_made}
use Rattle.upc_checker_scopes.specs.Walk.{judge, facts_in}
use Rattle.upc_checker_scopes.proofs.Walks.{goes, stops, gives, judge_goes, judge_stops}
use Rattle.upc_checker.proofs.units.walk_unit.Goals as goal

pub returns-in_err-walk_externals : goal.returns-in_err-walk_externals
returns-in_err-walk_externals c =
    let ξ = view_setting c.args.setting in
    let s = state_of c.args.tags.now c.args.known.now in
    let unit = map trees.view_external c.args.externals.now in
    let start = λ (Γ : Env) (xs : List Object) (fs : List Function). let m : Made = record { scope = Γ; objects = map view_object xs; functions = map view_function fs } in m in
    let w = λ (m : Made). pure.walk_externals ξ false m unit in
    let Γ = view_env c.args.env.now in
    let id = λ (m : Made). m in
    let e = c.in_err-walk_externals.field-0.0 in
    let h = subst (λ (Δ : Env). Stops (first_fault (w (start Δ [] []) s).seen) e) c.requires
    (subst (λ (fs : List Function). Stops (first_fault (w (start Γ [] fs) s).seen) e) c.new-2.ensures.items
    (subst (λ (xs : List Object). Stops (first_fault (w (start Γ xs c.new-2.result.items) s).seen) e) c.new.ensures.items c.in_err-walk_externals.ensures)) in
    let p = err_from_is_err_and c.from_residual.result c.from_residual.ensures.1 in
    rw (p.1, p.2) (stops id (w (start file [] [])) _ s s e h)

pub returns-in_err-judged : goal.returns-in_err-judged
returns-in_err-judged c =
    let ξ = view_setting c.args.setting in
    let s = state_of c.args.tags.now c.args.known.now in
    let unit = map trees.view_external c.args.externals.now in
    let start = λ (Γ : Env) (xs : List Object) (fs : List Function). let m : Made = record { scope = Γ; objects = map view_object xs; functions = map view_function fs } in m in
    let w = λ (m : Made). pure.walk_externals ξ false m unit in
    let Γ = view_env c.args.env.now in
    let id = λ (m : Made). m in
    let t = state_of c.walk_externals.new.tags c.walk_externals.new.known in
    let m = view_made (view_env c.walk_externals.new.env) c.walk_externals.new.made in
    let h = subst (λ (Δ : Env). Comes (w (start Δ [] []) s) t m) c.requires
    (subst (λ (fs : List Function). Comes (w (start Γ [] fs) s) t m) c.new-2.ensures.items
    (subst (λ (xs : List Object). Comes (w (start Γ xs c.new-2.result.items) s) t m) c.new.ensures.items c.in_ok-walk_externals.ensures)) in
    let φ = facts_in ξ t in
    let main = list_any pure.is_main_function m.functions in
    let rule = c.file.ensures φ ∙ ap (λ b. lowest φ (File b)) (c.has_main-main.ensures ∙ ap (λ fs. list_any pure.is_main_function (map view_function fs)) c.as_slice.ensures.value) in
    let at = c.source_place.result in
    let e = c.in_err-judged.field-0.0 in
    let j = subst (λ (at : Place). Stops (first_fault (judge ξ at (File main) t).seen) e) c.source_place.ensures (judge_stops ξ at (File main) t c.file.result e rule c.in_err-judged.ensures.err) in
    let p = err_from_is_err_and c.from_residual-in_err-judged.result c.from_residual-in_err-judged.ensures.1 in
    rw (p.1, p.2) (goes id (w (start file [] [])) _ s t t m (Err e) h (stops id (judge ξ (pure.source_place unit) (File main)) _ t t e j))

pub returns : goal.returns
returns c =
    let ξ = view_setting c.args.setting in
    let s = state_of c.args.tags.now c.args.known.now in
    let unit = map trees.view_external c.args.externals.now in
    let start = λ (Γ : Env) (xs : List Object) (fs : List Function). let m : Made = record { scope = Γ; objects = map view_object xs; functions = map view_function fs } in m in
    let w = λ (m : Made). pure.walk_externals ξ false m unit in
    let Γ = view_env c.args.env.now in
    let id = λ (m : Made). m in
    let t = state_of c.walk_externals.new.tags c.walk_externals.new.known in
    let m = view_made (view_env c.walk_externals.new.env) c.walk_externals.new.made in
    let h = subst (λ (Δ : Env). Comes (w (start Δ [] []) s) t m) c.requires
    (subst (λ (fs : List Function). Comes (w (start Γ [] fs) s) t m) c.new-2.ensures.items
    (subst (λ (xs : List Object). Comes (w (start Γ xs c.new-2.result.items) s) t m) c.new.ensures.items c.in_ok-walk_externals.ensures)) in
    let φ = facts_in ξ t in
    let main = list_any pure.is_main_function m.functions in
    let rule = c.file.ensures φ ∙ ap (λ b. lowest φ (File b)) (c.has_main-main.ensures ∙ ap (λ fs. list_any pure.is_main_function (map view_function fs)) c.as_slice.ensures.value) in
    let at = c.source_place.result in
    let r : Result Made Stop = Ok m in
    let j = subst (λ (at : Place). Comes (judge ξ at (File main) t) t (tt {0})) c.source_place.ensures (judge_goes ξ at (File main) t c.file.result rule c.in_ok-judged.ensures.ok) in
    goes id (w (start file [] [])) _ s t t m r h (goes id (judge ξ (pure.source_place unit) (File main)) _ t t t (tt {0}) r j (gives t m))
