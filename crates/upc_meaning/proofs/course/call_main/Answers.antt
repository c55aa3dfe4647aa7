use Rattle.std.proofs.Common.{◌≡◌, ◌-◌, ◌∷◌, [], refl, rules}
use Rattle.thread_steps.specs.Blocks.{begin_call}
use Rattle.thread_steps.specs.States.{Val}
use Rattle.upc_meaning_state.specs.layer.Came.{state_seen}
use Rattle.upc_meaning_settings.specs.layer.Settings.{running_seen}
use Rattle.upc_meaning_work.specs.layer.Courses.{view_main}
use Rattle.upc_meaning_work.specs.layer.Seen.{more_works, with_state}
use Rattle.upc_meaning_work.specs.layer.Items.{End}
use Rattle.upc_meaning_work.proofs.Courses.{main_goes, main_refused}
use Rattle.upc_meaning_work.specs.layer.Evaluations.{seen}
use Rattle.upc_meaning.proofs.course.call_main.Goals as goal

pub returns-in-Ends : goal.returns-in-Ends
returns-in-Ends c =
    let ρ = running_seen c.args.setting in
    main_refused ρ (view_main c.args.main) (state_seen c.args.evaluation.now.progress) c.main_place-place.result
    c.in-Ends.end (state_seen c.begin_call.new.self) (c.main_place-place.ensures ρ)
    (rw c.in-Ends.is at c.in_ok-end.ensures)

pub returns-in_ok-push_one-in-Gives : goal.returns-in_ok-push_one-in-Gives
returns-in_ok-push_one-in-Gives c =
    let ρ = running_seen c.args.setting in
    let σ = state_seen c.args.evaluation.now.progress in
    let τ = state_seen c.begin_call.new.self in
    let at = c.main_place-place.result in
    let h : begin_call at σ ≡ Val tt τ = rw c.in-Gives.is at c.in_ok-end.ensures in
    let same : seen c.push_one.new.self ≡ more_works (End at ∷ []) (with_state τ (seen c.args.evaluation.now)) =
    search rules in
    rw (main_goes ρ (view_main c.args.main) σ at τ (seen c.args.evaluation.now) (seen c.push_one.new.self)
    (c.push_one.new.self.free - 1) (c.main_place-place.ensures ρ) h c.requires.fresh same refl) c.enter_main.ensures
