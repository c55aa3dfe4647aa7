-- Compiled code is for a run of its program, and has the outcomes of the program's threads.
use Rattle.std.proofs.Common.{◌≡◌, ◌≤◌, ℕ, List, refl, sym, subst}
use Rattle.typed_tree.specs.declared.program.Program.{Program}
use Rattle.typed_tree.specs.Beginnings.{view_beginning}
use Rattle.typed_tree.specs.Programs.{Checked, start_of}
use Rattle.typed_tree.specs.ViewProgram.{view_program}
use Rattle.source_meaning.specs.Laws.{opening_of}
use Rattle.source_meaning.specs.Threads.{thread_outcome}
use Rattle.stack_code.specs.layer.Codes.{Codes}
use Rattle.stack_code.specs.layer.Names.{NamesOnly}
use Rattle.stack_code_laws.specs.layer.Asking.{IsCodeFor}
use Rattle.gen_stmt.specs.layer.Meanings.{MeansProgram}
use Rattle.upc_task.specs.declared.limits.Limits.{Limits}
use Rattle.upc_task.specs.layer.Sources.{GivesOutcomes}
use Rattle.upc_rounds.specs.layer.Openings as rounds
use Rattle.upc_rounds_base.proofs.Openings.{kept_opening}
use Rattle.upc_values.specs.declared.action.Reply.{Reply}
use Rattle.upc_values.specs.declared.journal.Journal.{Journal}
use Rattle.upc_values.specs.Outcomes.{Outcome}
use Rattle.upc_values.specs.Openings.{IsOpening}
use Rattle.upc_values.specs.Sound.{IsSound}
use Rattle.upc_values.specs.Ends.{AreSpent}
use Rattle.upc_values.specs.Waits.{WaitsFollow}
use Rattle.upc_values.specs.Locks.{LocksExclude}
use Rattle.collective_laws.proofs.Laws.{collectives_hold}
use Rattle.order_builder.proofs.Satisfying.{sound-consistent}
use Rattle.program_runs.specs.Runs.{IsRunOf}
use Rattle.upc_rounds_base.proofs.Begun.{same_opening}

module _ (program : Program) where
  abbrev pub parts : Checked
  parts = view_program program

  -- What a run begins with is what the meaning begins with.
  pub openings_agree : rounds.opening_of program ≡ opening_of parts
  openings_agree = same_opening program.threads (view_beginning program.beginning) (start_of parts) program.begins

  -- Code with the threads and shapes of the program that names no other shared object is for a run of the program.
  pub fits_run : (codes : Codes) → codes.threads ≡ program.threads → codes.shapes ≡ (opening_of parts).shapes
      → NamesOnly (opening_of parts).declared codes → IsCodeFor (rounds.opening_of program) codes
  fits_run codes threads shapes names =
      subst (λ o. IsCodeFor o codes) (sym openings_agree)
      (record { threads = threads; shapes = shapes; names = names })

  -- Code that means the program has the outcomes of the program's threads.
  pub gives_outcomes : (codes : Codes) (limits : Limits) → MeansProgram codes parts → 1 ≤ limits.budget
      → GivesOutcomes codes limits (λ t. thread_outcome parts t limits.budget)
  gives_outcomes codes limits means some t lt replies =
      (means t limits.budget replies (thread_outcome parts t limits.budget replies) some).1 refl

  -- What each thread of the program does, by budget and number.
  abbrev pub meaning : (budget t : ℕ) → List Reply → Outcome
  meaning budget t = thread_outcome parts t budget

  -- A journal that is sound for what the program keeps is a run of it.
  pub is_run : (l : Limits) (j : Journal) → IsSound (rounds.opening_of program) meaning j
      → (j.threads ≡ l.threads) × (j.budget ≡ l.budget) × (j.actions ≡ l.actions)
      → WaitsFollow l.threads j.history → LocksExclude j.history → AreSpent l.budget j.strands → 1 ≤ l.budget
      → IsRunOf parts l j
  is_run l j ran limits waits locks spent some =
      let sound : IsSound (opening_of parts) meaning j = subst (λ o. IsSound o meaning j) openings_agree ran in
      let begins : IsOpening (opening_of parts) =
      subst IsOpening openings_agree (kept_opening (rounds.opening_of program) program.opening) in
      record {
        threads = limits.0;
        budget = limits.1;
        actions = limits.2;
        sound = sound;
        orders = sound-consistent (opening_of parts) meaning j sound;
        waits = waits;
        locks = locks;
        spent = spent;
        collectives = (collectives_hold parts).holds j begins sound (subst (λ b. 1 ≤ b) (sym limits.1) some);
      }
