-- No thread is unfinished.
use Rattle.std.proofs.Common.{◌≡◌, ℕ, List, [], ◌∷◌, refl, Option, Some, None, arith}
use Rattle.std.specs.Prelude.{fold, Result, Ok, Err}
use Rattle.block_layout.specs.declared.kind.Kind.{Kind}
use Rattle.block_layout.specs.declared.kind.Shape.{Shape}
use Rattle.block_layout.specs.declared.place.LocalPtr.{LocalPtr}
use Rattle.upc_values.specs.declared.scalar.Value.{Value}
use Rattle.typed_tree.specs.Programs.{Checked, start_of}
use Rattle.private_store.specs.Live.{Live}
use Rattle.private_store.specs.Cells.{stored}
use Rattle.private_store.specs.Beginnings.{private_cell, begun, begun_cell, if_stored, blank}
use Rattle.thread_steps.specs.States.{Res, Val, Over, Unfinished}
use Rattle.thread_steps.proofs.Depths.{depth, SameDepth, stored_depth}
use Rattle.thread_steps.proofs.Lasting.{IsSpent, Enough, Lasts, lasting}
use Rattle.source_meaning.specs.Running.{running}
use Rattle.source_meaning.specs.Threads.{course, initial_state, thread_outcome, outcome_of}
use Rattle.upc_values.specs.declared.record.ToldEnd.{ToldEnd}
use Rattle.upc_values.specs.declared.record.ToldEnd.TheVariants.{OutOfTicks}
use Rattle.thread_steps.specs.States.{Thread, State}
use Rattle.std.proofs.Common.{ℤ, subst}
use Rattle.source_meaning.specs.Laws.{IsFinished, IsTotal, KeepsBudget, AllKeepBudgets}
use Rattle.source_meaning.proofs.Kept.{course_kept}

-- No call is active before main.
pub begun_depth : (shapes : List Shape) (initials : List (LocalPtr × Value)) → depth (begun shapes initials) ≡ 0
begun_depth shapes initials = from initials (blank shapes) refl
  where
    cell_depth : (kind : Option Kind) (x : LocalPtr × Value) (s : Live) → depth s ≡ 0 → depth (begun_cell kind x s) ≡ 0
    cell_depth None x s e = e
    cell_depth (Some kind) x s e = by_result (stored x.0 kind x.1 s) (stored_depth x.0 kind x.1 s)
      where
        by_result : (r : Result Live ℕ) → SameDepth s r → depth (if_stored r s) ≡ 0
        by_result (Ok t) same = omega arith
        by_result (Err code) same = e

    from : (xs : List (LocalPtr × Value)) (s : Live) → depth s ≡ 0
        → depth (fold (λ t x. begun_cell (private_cell shapes x.0) x t) s xs) ≡ 0
    from [] s e = e
    from (x ∷ xs) s e = from xs (begun_cell (private_cell shapes x.0) x s) (cell_depth (private_cell shapes x.0) x s e)

finished : {A : Type 0} (τ : _) (d start : ℕ) (r : Res A) → Enough τ A d start r → IsFinished r
finished τ d start (Val v σ) e = tt
finished τ d start (Over x σ) e = tt
finished τ d start Unfinished e = e.by

pub is_total : (program : Checked) → IsTotal program
is_total program = record {
  finished = λ thread budget replies some.
      let ρ = running program thread budget in
      let σ = initial_state program replies in
      finished ρ.thread 0 σ.ticks (course ρ σ)
      ((course_kept ρ (Lasts ρ.thread) (lasting ρ.thread)).by σ (omega arith) some
      (begun_depth (start_of program).private_shapes (start_of program).private_initials));
}

-- ---- the budget

abbrev IsNotSpent : ToldEnd → Type 0
IsNotSpent OutOfTicks = ⊥
IsNotSpent e = Unit {0}

is_spent : (τ : Thread) (e : ToldEnd) (σ : State) → IsSpent τ e σ → e ≡ OutOfTicks → σ.ticks ≡ τ.budget
is_spent τ e σ spent same = subst (λ x. IsSpent τ x σ) same spent

keeps : (τ : Thread) (d start : ℕ) (r : Res ℤ) → Enough τ ℤ d start r → KeepsBudget τ.budget (outcome_of r)
keeps τ d start (Val v σ) e =
    let lt = e.by.1 in
    record { ticks = omega arith; spent = λ same. absurd (subst IsNotSpent same tt) }
keeps τ d start (Over x σ) e = record { ticks = e.by.0; spent = λ same. is_spent τ x σ e.by.1 same }
keeps τ d start Unfinished e = absurd e.by

pub all_keep_budgets : (program : Checked) → AllKeepBudgets program
unfolding thread_outcome
all_keep_budgets program = record {
  each = λ thread budget replies some.
      let ρ = running program thread budget in
      let σ = initial_state program replies in
      keeps ρ.thread 0 σ.ticks (course ρ σ)
      ((course_kept ρ (Lasts ρ.thread) (lasting ρ.thread)).by σ (omega arith) some
      (begun_depth (start_of program).private_shapes (start_of program).private_initials));
}
