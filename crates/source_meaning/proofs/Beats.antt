-- A Beat is wanted at a multiple of 1,024 ticks.
use Rattle.std.proofs.Common.{◌≡◌, ◌+◌, ◌*◌, ℤ, refl, subst}
use Rattle.upc_values.specs.declared.action.Action.TheVariants.{Beat}
use Rattle.upc_values.specs.declared.record.ToldEnd.TheVariants.{Wants, Ended, OutOfTicks}
use Rattle.upc_values.specs.Records.{beats}
use Rattle.typed_tree.specs.Programs.{Checked, start_of}
use Rattle.thread_steps.specs.States.{Res, Val, Over, Unfinished}
use Rattle.thread_steps.proofs.Beating as b
use Rattle.source_meaning.specs.Running.{running}
use Rattle.source_meaning.specs.Threads.{course, initial_state, thread_outcome, outcome_of}
use Rattle.source_meaning.specs.Laws.{AllBeatInTime}
use Rattle.source_meaning.proofs.Kept.{course_kept}
use Rattle.source_meaning.proofs.Finished.{begun_depth}
use Rattle.source_meaning.proofs.Replies.{none_wanted}

in_time : (r : Res ℤ) → b.Ends 0 r → (outcome_of r).«end» ≡ Wants Beat
    → (outcome_of r).ticks ≡ 1024 * (beats (outcome_of r).actions + 1)
in_time (Val v σ) h e = absurd (none_wanted (Ended v) Beat tt e)
in_time (Over x σ) h e = subst (λ y. b.IsDue y σ) e h
in_time Unfinished h e = absurd (none_wanted OutOfTicks Beat tt e)

pub all_beat_in_time : (program : Checked) → AllBeatInTime program
unfolding thread_outcome
all_beat_in_time program = record {
  each = λ thread budget. record {
    ticks = λ rs e.
        let ρ = running program thread budget in
        let σ = initial_state program rs in
        in_time (course ρ σ)
        ((course_kept ρ b.Beating (b.beating ρ.thread)).by σ
        (record {
          beaten = refl;
          deep = begun_depth (start_of program).private_shapes
              (start_of program).private_initials;
        }))
        e;
  };
}
