-- Each thread of a program goes through collective calls as their definition says.
use Rattle.std.proofs.Common.{ℤ, List, [], sym, subst}
use Rattle.upc_values.specs.declared.action.Reply.{Reply}
use Rattle.typed_tree.specs.Programs.{Checked, start_of}
use Rattle.thread_steps.specs.States.{Thread, Res, Val, Over, Unfinished}
use Rattle.source_meaning.specs.Running.{running}
use Rattle.source_meaning.specs.Threads.{course, initial_state, thread_outcome, outcome_of}
use Rattle.source_meaning.proofs.Finished.{begun_depth}
use Rattle.collective_laws_words.specs.layer.Steps.{steps_by, GoesTogether}
use Rattle.collective_laws_source.specs.code.Laws.{AllGoTogether}
use Rattle.collective_laws_source.proofs.Steps.{Together, closed_together, goes_together, steps_are}
use Rattle.collective_laws_source.proofs.Calls.{Leads}
use Rattle.collective_laws_source.proofs.Courses.{course_kept}
use Rattle.collective_laws_source.proofs.Going.{Going, going}

ends_together : (program : Checked) (replies : List Reply) (τ : Thread) (r : Res ℤ)
    → Leads τ 0 (initial_state program replies) r
    → GoesTogether τ.threads τ.shapes τ.number (steps_by (outcome_of r).actions replies)
ends_together program replies τ (Val v υ) h =
    goes_together τ.threads τ.shapes τ.number (steps_by υ.actions replies)
    (subst (Together τ.threads τ.shapes τ.number) (sym (steps_are υ.actions replies h.did υ.replies h.is.0 h.is.1))
    (closed_together τ.threads τ.shapes τ.number h.did h.closed))
ends_together program replies τ (Over e υ) h =
    goes_together τ.threads τ.shapes τ.number (steps_by υ.actions replies)
    (subst (Together τ.threads τ.shapes τ.number) (sym (steps_are υ.actions replies h.did υ.replies h.is.0 h.is.1))
    h.together)
ends_together program replies τ Unfinished h = goes_together τ.threads τ.shapes τ.number [] tt

pub all_go_together : (program : Checked) → AllGoTogether program
unfolding thread_outcome
all_go_together program = record {
  each = λ thread budget replies some.
      let ρ = running program thread budget in
      let σ = initial_state program replies in
      ends_together program replies ρ.thread (course ρ σ)
      ((course_kept ρ (Going ρ.thread) (going ρ.thread)).by σ
      (begun_depth (start_of program).private_shapes (start_of program).private_initials));
}
