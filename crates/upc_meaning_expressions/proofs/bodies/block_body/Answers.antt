use Rattle.std.proofs.Common.{List, [], ◌∷◌, map, sym, ap, ◌∙◌}
use Rattle.upc_types.specs.declared.ctype.CType.{CType}
use Rattle.upc_types.specs.View.{view}
use Rattle.typed_tree.specs.declared.tree.Statement.{Statement}
use Rattle.typed_tree.specs.Tree.{Stands, Block}
use Rattle.typed_tree.specs.ViewStatements.{view_function, view_items}
use Rattle.source_meaning.specs.Statements.{Next, Standing}
use Rattle.source_meaning.specs.Threads.{received}
use Rattle.upc_meaning_state.specs.layer.Came.{state_seen}
use Rattle.upc_meaning_settings.specs.layer.Settings.{running_seen}
use Rattle.upc_meaning_work.specs.layer.Seen.{more_works, with_flow, with_state}
use Rattle.upc_meaning_work.specs.layer.Items.{Parts, Leave}
use Rattle.upc_meaning_work.specs.layer.ViewItems.{view_standing}
use Rattle.upc_meaning_work.proofs.Enters.{body_goes, body_refused, body_stops}
use Rattle.upc_meaning_work.specs.layer.Evaluations.{seen}
use Rattle.upc_meaning_expressions.proofs.bodies.block_body.Goals as goal

pub returns-in-Ends : goal.returns-in-Ends
returns-in-Ends c =
    let s = seen c.args.evaluation.now in
    let items = view_items c.args.items.now in
    let is = c.requires.block
    ∙ ap (λ (b : Statement). Stands b.place (Block c.args.strict items)) (sym c.deref.ensures) in
    body_refused (running_seen c.args.setting) s s (view_function c.args.function.now) c.args.args.now
    c.deref.result.now.place c.args.strict items c.in-Ends.end (state_seen c.open_body.new.self) is
    (rw c.in-Ends.is at c.in_ok-end.ensures)

pub returns-in-Ends-2 : goal.returns-in-Ends-2
returns-in-Ends-2 c =
    let ρ = running_seen c.args.setting in
    let s = seen c.args.evaluation.now in
    let vs = c.args.args.now in
    let at = c.deref.result.now.place in
    let items = view_items c.args.items.now in
    let τ = state_seen c.open_body.new.self in
    let is = c.requires.block
    ∙ ap (λ (b : Statement). Stands b.place (Block c.args.strict items)) (sym c.deref.ensures) in
    body_stops ρ s s (view_function c.args.function.now) vs at c.args.strict items c.in-Ends-2.end τ
    (state_seen c.receive.new.self) is (rw c.in-Gives.is at c.in_ok-end.ensures)
    (ap (λ (xs : List CType). received ρ at 0 (map view xs) vs τ) (sym c.as_slice.ensures.value)
    ∙ (rw c.in-Ends-2.is at c.in_ok-end-in-Gives.ensures))

pub returns-in_ok-push_two-in-Gives-2 : goal.returns-in_ok-push_two-in-Gives-2
returns-in_ok-push_two-in-Gives-2 c =
    let ρ = running_seen c.args.setting in
    let s = seen c.args.evaluation.now in
    let vs = c.args.args.now in
    let at = c.deref.result.now.place in
    let items = view_items c.args.items.now in
    let τ = state_seen c.open_body.new.self in
    let υ = state_seen c.receive.new.self in
    let is = c.requires.block
    ∙ ap (λ (b : Statement). Stands b.place (Block c.args.strict items)) (sym c.deref.ensures) in
    let within = c.in_ok-standing-in-Gives-2 in
    body_goes ρ s (seen c.push_two.new.self) (view_function c.args.function.now) vs at c.args.strict items τ υ is
    (rw c.in-Gives.is at c.in_ok-end.ensures)
    (ap (λ (xs : List CType). received ρ at 0 (map view xs) vs τ) (sym c.as_slice.ensures.value)
    ∙ (rw c.in-Gives-2.is at c.in_ok-end-in-Gives.ensures))
    (c.in_ok-push_two-in-Gives-2.ensures
    ∙ ap (more_works (Parts (view_standing within.standing) items ∷ Leave ∷ [])) c.leave_so.ensures
    ∙ ap (λ (κ : Standing). more_works (Parts κ items ∷ Leave ∷ []) (with_flow Next (with_state υ s))) within.ensures)
