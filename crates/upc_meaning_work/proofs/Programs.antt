-- What a program keeps, and the outcome of a thread of it.
use Rattle.std.proofs.Common.{◌≡◌, ℕ, List, Option, sym, ap, ◌∙◌}
use Rattle.std.proofs.Math.Logic.{∥∥₁_elim}
use Rattle.std.specs.Coded.{Coded, Coded-set, codes}
use Rattle.upc_values.specs.Outcomes.{Outcome}
use Rattle.upc_values.specs.declared.action.Action.{Action}
use Rattle.upc_values.specs.declared.action.Reply.{Reply}
use Rattle.upc_values.specs.declared.record.ToldEnd.{ToldEnd}
use Rattle.typed_tree.specs.Beginnings.{Beginning}
use Rattle.typed_tree.specs.Programs.{Checked, start_of}
use Rattle.typed_tree.specs.Tree.{Function}
use Rattle.thread_steps.specs.States.{State}
use Rattle.source_meaning.specs.Running.{Running}
use Rattle.source_meaning.specs.Threads.{main_of, outcome_of, thread_outcome}
use Rattle.source_meaning.specs.layer.Parts.{told}
pub use Rattle.source_meaning.proofs.Beginnings.{shapes_fit, privates_begin}
use Rattle.upc_meaning_work.specs.layer.Courses.{comes_to, running_with, state_with}

module _ (x : Checked) (b : Beginning) (thread budget : ℕ) (replies : List Reply) (e : ToldEnd) (τ : State) where
  -- The thread has this outcome where the program begins with this.
  abbrev pub HasTold : Type 0
  HasTold = outcome_of (comes_to (running_with x b thread budget) (main_of x.functions) (state_with b replies)) ≡ told e τ

  so_told : b ≡ start_of x → HasTold → thread_outcome x thread budget replies ≡ told e τ
  unfolding thread_outcome comes_to
  so_told is h =
      ap (λ (y : Beginning). outcome_of (comes_to (running_with x y thread budget) (main_of x.functions) (state_with y replies)))
      (sym is) ∙ h

  pub has_told : (ρ : Running) (main : Option Function) (σ : State) → ρ ≡ running_with x b thread budget
      → main ≡ main_of x.functions → σ ≡ state_with b replies → outcome_of (comes_to ρ main σ) ≡ told e τ → HasTold
  has_told ρ main σ same of begins h =
      ap (λ m. outcome_of (comes_to (running_with x b thread budget) m (state_with b replies))) (sym of)
      ∙ ap (λ υ. outcome_of (comes_to (running_with x b thread budget) main υ)) (sym begins)
      ∙ ap (λ r. outcome_of (comes_to r main σ)) (sym same) ∙ h

  pub told_actions : ∥ b ≡ start_of x ∥₁ → HasTold → τ.actions ≡ (thread_outcome x thread budget replies).actions
  told_actions is h =
      let coded : Coded (List Action) = hlevel codes in
      ∥∥₁_elim is (Coded-set coded _ _) (λ same. ap (λ (o : Outcome). o.actions) (sym (so_told same h)))

  pub told_end : ∥ b ≡ start_of x ∥₁ → HasTold → e ≡ (thread_outcome x thread budget replies).«end»
  told_end is h =
      let coded : Coded ToldEnd = hlevel codes in
      ∥∥₁_elim is (Coded-set coded _ _) (λ same. ap (λ (o : Outcome). o.«end») (sym (so_told same h)))

  pub told_ticks : ∥ b ≡ start_of x ∥₁ → HasTold → τ.ticks ≡ (thread_outcome x thread budget replies).ticks
  told_ticks is h =
      let coded : Coded ℕ = hlevel codes in
      ∥∥₁_elim is (Coded-set coded _ _) (λ same. ap (λ (o : Outcome). o.ticks) (sym (so_told same h)))
