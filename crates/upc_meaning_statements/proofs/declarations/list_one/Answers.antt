use Rattle.std.proofs.Common.{◌≡◌, ℤ, pos, [], ◌∷◌, ◌+◌, map, refl, sym, ap, ◌∙◌, arith}
use Rattle.std.proofs.lemmas.Int.{ints}
use mir.Syntax.{w128}
use mir.Val.{to_z}
use Rattle.upc_types.specs.View.{view}
use Rattle.typed_tree.specs.Tree.{exprs_of, place_of}
use Rattle.typed_tree.specs.ViewTree.{view_expr}
use Rattle.typed_tree.specs.ViewStatements.{view_object}
use Rattle.source_meaning.specs.Types.{conversion}
use Rattle.source_meaning.specs.Expressions.{behind, type_of}
use Rattle.upc_meaning_state.specs.layer.Came.{state_seen}
use Rattle.upc_meaning_settings.specs.layer.Settings.{running_seen}
use Rattle.upc_meaning_work.specs.layer.Seen.{more_works}
use Rattle.upc_meaning_work.specs.layer.Items.{Value, Convert, Keep, Listed}
use Rattle.upc_meaning_work.specs.layer.ViewItems.{view_standing}
use Rattle.upc_meaning_work.proofs.Declaring.{listed_goes, listed_ends}
use Rattle.upc_meaning_work.specs.layer.Evaluations.{seen}
use Rattle.upc_meaning_statements.proofs.declarations.list_one.Goals as goal

pub returns-in-Ends : goal.returns-in-Ends
returns-in-Ends c =
    let ρ = running_seen c.args.setting in
    let s = seen c.args.evaluation.now in
    let x = view_object c.args.object.now in
    let u = view c.element_type-t.result.now in
    let p = c.object-start.result in
    let σ = state_seen c.args.evaluation.now.progress in
    let wide : to_z w128 c.args.index ≡ pos c.args.index = omega (arith, ints) in
    listed_ends ρ (view_standing c.args.standing) s s x c.args.index (view_expr c.args.e.now)
    (exprs_of (map view_expr c.args.more.now)) u p c.in-Ends.end σ c.element_type-t.ensures c.object-start.ensures
    (ap (λ (i : ℤ). behind ρ x.at u p i σ) (sym wide) ∙ (rw c.in-Ends.is at c.in_ok-end.ensures))

pub returns-in_ok-push_initial-in-Gives : goal.returns-in_ok-push_initial-in-Gives
returns-in_ok-push_initial-in-Gives c =
    let ρ = running_seen c.args.setting in
    let κ = view_standing c.args.standing in
    let x = view_object c.args.object.now in
    let a = view_expr c.args.e.now in
    let more = exprs_of (map view_expr c.args.more.now) in
    let u = view c.element_type-t.result.now in
    let p = c.object-start.result in
    let σ = state_seen c.args.evaluation.now.progress in
    let wide : to_z w128 c.args.index ≡ pos c.args.index = omega (arith, ints) in
    listed_goes ρ κ (seen c.args.evaluation.now) (seen c.push_initial.new.evaluation) x c.args.index (c.args.index +
    1) a more u p c.in-Gives.place c.element_type-t.ensures refl c.object-start.ensures
    (ap (λ (i : ℤ). behind ρ x.at u p i σ) (sym wide) ∙ (rw c.in-Gives.is at c.in_ok-end.ensures))
    (c.in_ok-push_initial-in-Gives.ensures
    ∙ ap (more_works (Value κ.strict a ∷ Convert (conversion (type_of a) u) (place_of a) ∷ Keep κ.strict x.at u ∷ []))
    (c.in_ok-push_one-in-Gives.ensures
    ∙ ap (more_works (Listed κ x (c.args.index + 1) more ∷ [])) c.in_ok-push_value-in-Gives.ensures))
