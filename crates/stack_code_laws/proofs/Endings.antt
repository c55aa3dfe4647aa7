-- Every thread of code ends, whatever it is answered, and counts no more ticks than its budget.
use Rattle.std.proofs.Common.{◌≡◌, ◌⊎◌, inl, inr, ℕ, zero, suc, ◌+◌, ◌%◌, ◌<◌, ◌≤◌, List, [], ◌∷◌, None}
use Rattle.std.proofs.Common.{Bool, true, false, refl, sym, subst, arith}
use Rattle.std.specs.Prelude.{◌==◌, slice_get}
use Rattle.upc_values.specs.declared.scalar.Value.{Value}
use Rattle.upc_values.specs.declared.action.Action.TheVariants as act
use Rattle.upc_values.specs.declared.action.Reply.{Reply}
use Rattle.upc_values.specs.declared.record.ToldEnd.{ToldEnd}
use Rattle.upc_values.specs.declared.record.ToldEnd.TheVariants.{OutOfTicks}
use Rattle.upc_values.specs.Formed.{fits}
use Rattle.upc_values.specs.Outcomes.{Outcome}
use Rattle.thread_steps.specs.States.{Thread, State, Res, Val, Over, Unfinished, bind, Doing, ◌>>◌, skip}
use Rattle.thread_steps.specs.layer.Parts.{with_tick, answered_from}
use Rattle.thread_steps.specs.States.{choose, over}
use Rattle.thread_steps.specs.Actions.{ask, answered, tick}
use Rattle.thread_steps.proofs.Depths.{depth}
use Rattle.thread_steps.proofs.Lasting.{IsSpent, Enough, Lasts, lasting}
use Rattle.stack_code.specs.declared.instruction.Instr.{Instr}
use Rattle.stack_code.specs.layer.Codes.{Codes, function_at, thread_of}
use Rattle.stack_code.specs.layer.Depths.{BeginsOnce}
use Rattle.stack_code.specs.layer.Kept.{IsCode}
use Rattle.stack_code.specs.layer.Steps.{Spot, Conf, At, Halt, step, steps}
use Rattle.stack_code.specs.layer.Outcomes.{CodeMeans, HasEnded, told_by, initial_state, beginning}
use Rattle.stack_code_laws.specs.code.Endings.{IsWithinBudget}
use Rattle.stack_code_laws.proofs.Walks.{On, IsRule, Leads, Stands, step_leads, steps_stand}
use Rattle.stack_code_laws.proofs.Weights.{ahead, ticks_or_less}

module _ (τ : Thread) where
  -- ---- a tick is counted

  -- If a value came, so many ticks are counted.
  abbrev Counts : {A : Type 0} → ℕ → Res A → Type 0
  Counts n (Val v υ) = υ.ticks ≡ n
  Counts n (Over e υ) = Unit {0}
  Counts n Unfinished = Unit {0}

  spent_counts : (n : ℕ) (b : Bool) (σ : State) → σ.ticks ≡ n → Counts n (choose b (over OutOfTicks) skip σ)
  spent_counts n true σ e = tt
  spent_counts n false σ e = e

  beat_counts : (n : ℕ) (b : Bool) (σ : State) → σ.ticks ≡ n
      → Counts n
      (bind (choose b (do ask τ None act.Beat; skip) skip σ) (λ _. choose (n == τ.budget) (over OutOfTicks) skip))
  unfolding ask
  beat_counts n false σ e = spent_counts n (n == τ.budget) σ e
  beat_counts n true σ e = by_replies σ.replies
    where
      by_fit : (b : Bool) (r : Reply) (rest : List Reply)
          → Counts n
          (bind (bind (answered b act.Beat r rest σ) (λ _. skip))
          (λ _. choose (n == τ.budget) (over OutOfTicks) skip))
      by_fit true r rest = spent_counts n (n == τ.budget) _ e
      by_fit false r rest = tt

      by_replies : (rs : List Reply)
          → Counts n
          (bind (bind (answered_from τ None act.Beat rs σ) (λ _. skip))
          (λ _. choose (n == τ.budget) (over OutOfTicks) skip))
      by_replies [] = tt
      by_replies (r ∷ rest) = by_fit (fits τ.threads τ.shapes None act.Beat r) r rest

  tick_counts : (σ : State) → Counts (σ.ticks + 1) (tick τ σ)
  unfolding tick
  tick_counts σ = beat_counts (σ.ticks + 1) ((σ.ticks + 1) % 1024 == 0) (with_tick σ) refl

  -- ---- ticks

  -- At least s ticks are counted, and fewer than the budget.
  abbrev IsWithin : ℕ → State → Type 0
  IsWithin s σ = (s ≤ σ.ticks) × (σ.ticks < τ.budget)

  -- A thread ends with no more ticks than the budget, and with just so many where they are spent.
  abbrev IsKept : ToldEnd → State → Type 0
  IsKept e σ = (σ.ticks ≤ τ.budget) × IsSpent τ e σ

  on_enough : {A : Type 0} (d s : ℕ) (σ : State) (r : Res A) → s ≤ σ.ticks → Enough τ A d σ.ticks r
      → On IsWithin IsKept s r
  on_enough d s σ (Val v υ) le e = let h = e.by.0 in (omega arith, e.by.1)
  on_enough d s σ (Over t υ) le e = e.by
  on_enough d s σ Unfinished le e = absurd e.by

  lasts_by : (A : Type 0) (m : Doing A) → ((d : ℕ) → Lasts τ τ.budget d A m) → (s : ℕ) (σ : State) → IsWithin s σ
      → On IsWithin IsKept s (m σ)
  lasts_by A m keeps s σ w =
      on_enough (depth σ.store) s σ (m σ) w.0 ((keeps (depth σ.store)).by σ (omega arith) w.1 refl)

  on_tick : (s : ℕ) (σ : State) (r : Res (Unit {0})) → s ≤ σ.ticks → Counts (σ.ticks + 1) r → On IsWithin IsKept s r
      → On IsWithin IsKept (s + 1) r
  on_tick s σ (Val v υ) le c h = (omega arith, h.1)
  on_tick s σ (Over e υ) le c h = h
  on_tick s σ Unfinished le c h = h

  lasts_rule : IsRule IsWithin IsKept τ (Lasts τ) τ.budget
  lasts_rule = record {
    kept = lasting τ;
    by = lasts_by;
    ticked = λ s σ w.
        on_tick s σ (tick τ σ) w.0 (tick_counts σ)
        (lasts_by (Unit {0}) (tick τ) (λ d. (lasting τ).of_tick τ.budget d) s σ w);
    live = λ f s σ w. w;
    faults = λ code at s σ w. let lt = w.1 in (omega arith, tt);
    ended = λ v s σ w. let lt = w.1 in (omega arith, tt);
  }

  -- ---- the end

  module _ (fs : List (List Instr)) (once : BeginsOnce fs) where
    -- After some instructions the thread has ended.
    abbrev ComesToEnd : Conf → Type 0
    ComesToEnd c = (count : ℕ) × (e : ToldEnd) × (υ : State) × (steps τ fs count c ≡ Halt e υ)

    one_more : (c : Conf) → ComesToEnd (step τ fs c) → ComesToEnd c
    one_more c h = (suc h.0, h.1, h.2, h.3)

    -- With b ticks left, and so much before it without one, the thread comes to its end.
    abbrev EndsBy : (b weight : ℕ) → Type 0
    EndsBy b weight =
        (s : ℕ) (here : Spot) (vs operands : List Value) (calls : List Spot) (σ : State) → IsWithin s σ
        → τ.budget ≤ b + s → ahead fs here calls ≤ weight → ComesToEnd (At here vs operands calls σ)

    module _ (b : ℕ) (later : (weight : ℕ) → EndsBy b weight) where
      goes_on : (weight s : ℕ) (here : Spot) (calls : List Spot) → τ.budget ≤ suc b + s
          → ahead fs here calls ≤ suc weight → EndsBy (suc b) weight → (c : Conf)
          → Leads IsWithin IsKept (slice_get (function_at fs here.function) here.place) here calls s c → ComesToEnd c
      goes_on weight s here calls fuel light next (Halt e υ) h = (0, e, υ, refl)
      goes_on weight s here calls fuel light next (At at vs operands left υ) h =
          by_tick (ticks_or_less fs calls once here s h.0 at left h.2)
        where
          by_tick : (h.0 ≡ s + 1) ⊎ ((h.0 ≡ s) × (ahead fs at left < ahead fs here calls))
              → ComesToEnd (At at vs operands left υ)
          by_tick (inl ticked) =
              later (ahead fs at left) h.0 at vs operands left υ h.1 (omega arith) (omega arith)
          by_tick (inr less) =
              let same = less.0 in
              let lt = less.1 in
              next h.0 at vs operands left υ h.1 (omega arith) (omega arith)

      ends_on : (weight : ℕ) → EndsBy (suc b) weight
      ends_on zero s here vs operands calls σ w fuel light = absurd (omega arith)
      ends_on (suc weight) s here vs operands calls σ w fuel light =
          let c = At here vs operands calls σ in
          one_more c
          (goes_on weight s here calls fuel light (ends_on weight) (step τ fs c)
          (step_leads IsWithin IsKept τ (Lasts τ) τ.budget lasts_rule fs here vs operands calls s σ w))

    ends : (b weight : ℕ) → EndsBy b weight
    ends zero weight s here vs operands calls σ w fuel light =
        let le = w.0 in
        let lt = w.1 in
        absurd (omega arith)
    ends (suc b) weight s here vs operands calls σ w fuel light =
        ends_on b (ends b) weight s here vs operands calls σ w fuel light

abbrev origin : Spot
origin = record { function = 0; place = 0 }

-- The end to which a thread of the code comes.
ending : (codes : Codes) (thread budget : ℕ) (replies : List Reply) (code : IsCode codes) → 1 ≤ budget
    → ComesToEnd (thread_of codes thread budget) codes.functions code.begins (beginning codes replies)
ending codes thread budget replies code some =
    ends (thread_of codes thread budget) codes.functions code.begins budget (ahead codes.functions origin []) 0 origin
    [] [] [] (initial_state codes replies) (omega arith, some) (omega arith) (omega arith)

-- Every thread of code has an outcome on each list of replies.
pub has_outcome : (codes : Codes) (thread budget : ℕ) (replies : List Reply) → IsCode codes → 1 ≤ budget
    → (o : Outcome) × CodeMeans codes thread budget replies o
has_outcome codes thread budget replies code some =
    let h = ending codes thread budget replies code some in
    let o = told_by h.1 h.2 in (
      o,
      record { count = h.0; ended = subst (λ c. HasEnded c o) (sym h.3) refl },
    )

-- ---- the budget

module _ (codes : Codes) (thread budget : ℕ) where
  abbrev τ : Thread
  τ = thread_of codes thread budget

  spent_is : (e : ToldEnd) (σ : State) → IsSpent τ e σ → e ≡ OutOfTicks → σ.ticks ≡ budget
  spent_is e σ spent same = subst (λ x. IsSpent τ x σ) same spent

  ended_within : (c : Conf) (o : Outcome) → Stands (IsWithin τ) (IsKept τ) c → HasEnded c o → IsWithinBudget budget o
  ended_within (At here vs operands calls σ) o h e = absurd e
  ended_within (Halt t υ) o h e =
      subst (IsWithinBudget budget) e (record { ticks = h.0; spent = λ same. spent_is t υ h.1 same })

  -- A thread of code counts no more ticks than its budget.
  pub is_within_budget : (replies : List Reply) (o : Outcome) → 1 ≤ budget → CodeMeans codes thread budget replies o
      → IsWithinBudget budget o
  is_within_budget replies o some m =
      ended_within (steps τ codes.functions m.count (beginning codes replies)) o
      (steps_stand (IsWithin τ) (IsKept τ) τ (Lasts τ) τ.budget (lasts_rule τ) codes.functions m.count
      (beginning codes replies) (0, (omega arith, some))) m.ended
