-- A thread notifies and waits in turn.
use Rattle.std.proofs.Common.{ℤ, [], ◌∷◌, ◌++◌, refl, subst}
use Rattle.upc_values.specs.declared.record.ToldEnd.{ToldEnd}
use Rattle.upc_values.specs.declared.record.ToldEnd.TheVariants.{Wants, Misfit, Ended, Exit, Fault, OutOfTicks}
use Rattle.typed_tree.specs.Programs.{Checked, start_of}
use Rattle.thread_steps.specs.States.{Thread, State, Res, Val, Over, Unfinished}
use Rattle.thread_steps.specs.layer.Fronts.{IsInTurn}
use Rattle.thread_steps.proofs.Turning as t
use Rattle.source_meaning.specs.Running.{running}
use Rattle.source_meaning.specs.Threads.{course, initial_state, thread_outcome, outcome_of}
use Rattle.source_meaning.specs.Laws.{IsFinished, KeepsTurns, AllKeepTurns}
use Rattle.source_meaning.proofs.Kept.{course_kept}
use Rattle.source_meaning.proofs.Finished.{begun_depth, is_total}
use Rattle.source_meaning.proofs.Replies.{same_action, none_wanted}

ended_so : (e : ToldEnd) (υ : State) → t.IsFine e υ → KeepsTurns (outcome_of (Over e υ))
ended_so (Wants b) υ h = record {
  wants = λ a e. subst (λ y. IsInTurn (υ.actions ++ y ∷ [])) (same_action b a e) h;
  settled = λ s. absurd s;
}
ended_so (Misfit k) υ h = record { wants = λ a e. absurd (none_wanted (Misfit k) a tt e); settled = λ s. h }
ended_so (Ended v) υ h = record { wants = λ a e. absurd (none_wanted (Ended v) a tt e); settled = λ s. h }
ended_so (Exit v) υ h = record { wants = λ a e. absurd (none_wanted (Exit v) a tt e); settled = λ s. h }
ended_so (Fault code at) υ h = record { wants = λ a e. absurd (none_wanted (Fault code at) a tt e); settled = λ s. h }
ended_so OutOfTicks υ h = record { wants = λ a e. absurd (none_wanted OutOfTicks a tt e); settled = λ s. h }

keeps : (τ : Thread) (r : Res ℤ) → t.Ends τ 0 r → IsFinished r → KeepsTurns (outcome_of r)
keeps τ (Val v υ) h done = record {
  wants = λ a e. absurd (none_wanted (Ended v) a tt e);
  settled = λ s. (υ.notified, h.turn);
}
keeps τ (Over e υ) h done = ended_so e υ h
keeps τ Unfinished h done = absurd done

pub all_keep_turns : (program : Checked) → AllKeepTurns program
unfolding thread_outcome
all_keep_turns program = record {
  each = λ thread budget replies some.
      let ρ = running program thread budget in
      let σ = initial_state program replies in
      keeps ρ.thread (course ρ σ)
      ((course_kept ρ (t.InTurn ρ.thread) (t.turning ρ.thread)).by σ
      (record {
        turn = refl;
        noted = refl;
        deep = begun_depth (start_of program).private_shapes
            (start_of program).private_initials;
      }))
      ((is_total program).finished thread budget replies some);
}
