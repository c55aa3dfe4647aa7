use Rattle.std.proofs.Common.{◌∙◌, ap}
use Rattle.typed_tree.specs.Beginnings.{view_beginning}
use Rattle.typed_tree.specs.ViewProgram.{view_program}
use Rattle.source_meaning.specs.Running.{Running}
use Rattle.source_meaning.specs.Threads.{main_of}
use Rattle.upc_meaning_state.specs.layer.Came.{state_seen}
use Rattle.upc_meaning_settings.specs.layer.Settings.{running_seen}
use Rattle.upc_meaning_work.specs.layer.Courses.{view_main}
use Rattle.upc_meaning_work.proofs.Programs.{has_told, told_actions, told_ticks, told_end}
use Rattle.upc_meaning.proofs.course.replay_whole.Goals as goal

pub returns-clause-actions : goal.returns-clause-actions
returns-clause-actions c =
    let p = c.args.program.now in
    let x = view_program p in
    let b = view_beginning p.beginning in
    let e = c.in_ok-end.end in
    let τ = state_seen c.run_thread.new.evaluation.progress in
    let seen = c.setting_of-setting.ensures.seen in
    let of = c.main_of.ensures ∙ ap main_of (ap (λ (ρ : Running). ρ.functions) seen) in
    let begins = ap state_seen c.beginning-evaluation.ensures.progress ∙ c.in_ok-progress.ensures in
    let h = has_told x b c.args.thread c.args.budget c.args.replies.now e τ (running_seen c.setting_of-setting.result)
    (view_main c.main_of.result) (state_seen c.beginning-evaluation.result.progress) seen of begins
    c.in_ok-end.ensures in
    c.actions_of.ensures ∙ told_actions x b c.args.thread c.args.budget c.args.replies.now e τ p.begins h

pub returns-clause-ticks : goal.returns-clause-ticks
returns-clause-ticks c =
    let p = c.args.program.now in
    let x = view_program p in
    let b = view_beginning p.beginning in
    let e = c.in_ok-end.end in
    let τ = state_seen c.run_thread.new.evaluation.progress in
    let seen = c.setting_of-setting.ensures.seen in
    let of = c.main_of.ensures ∙ ap main_of (ap (λ (ρ : Running). ρ.functions) seen) in
    let begins = ap state_seen c.beginning-evaluation.ensures.progress ∙ c.in_ok-progress.ensures in
    let h = has_told x b c.args.thread c.args.budget c.args.replies.now e τ (running_seen c.setting_of-setting.result)
    (view_main c.main_of.result) (state_seen c.beginning-evaluation.result.progress) seen of begins
    c.in_ok-end.ensures in told_ticks x b c.args.thread c.args.budget c.args.replies.now e τ p.begins h

pub returns-clause-end : goal.returns-clause-end
returns-clause-end c =
    let p = c.args.program.now in
    let x = view_program p in
    let b = view_beginning p.beginning in
    let e = c.in_ok-end.end in
    let τ = state_seen c.run_thread.new.evaluation.progress in
    let seen = c.setting_of-setting.ensures.seen in
    let of = c.main_of.ensures ∙ ap main_of (ap (λ (ρ : Running). ρ.functions) seen) in
    let begins = ap state_seen c.beginning-evaluation.ensures.progress ∙ c.in_ok-progress.ensures in
    let h = has_told x b c.args.thread c.args.budget c.args.replies.now e τ (running_seen c.setting_of-setting.result)
    (view_main c.main_of.result) (state_seen c.beginning-evaluation.result.progress) seen of begins
    c.in_ok-end.ensures in told_end x b c.args.thread c.args.budget c.args.replies.now e τ p.begins h
