-- What an operation does with so many turns for each loop is never unfinished: where the turns and the ticks make up
-- the budget, it gives a value or ends the thread.
use Rattle.std.proofs.Common.{◌≡◌, ℕ, suc, ◌+◌, ◌%◌, ◌<◌, ◌≤◌, List, [], ◌∷◌, Option, None}
use Rattle.std.proofs.Common.{Bool, true, false, refl, ◌∙◌, arith}
use Rattle.std.specs.Prelude.{Result, Ok, Err, ◌==◌}
use Rattle.std.proofs.lemmas.Bool.Decides.{nat_tests}
use Rattle.upc_text.specs.declared.place.Place.{Place}
use Rattle.block_layout.specs.declared.kind.Kind.{Kind}
use Rattle.block_layout.specs.declared.run_error.TheConstants.{DEPTH}
use Rattle.upc_values.specs.declared.action.Action.{Action}
use Rattle.upc_values.specs.declared.action.Action.TheVariants as act
use Rattle.upc_values.specs.declared.action.Reply.{Reply}
use Rattle.upc_values.specs.declared.record.ToldEnd.{ToldEnd}
use Rattle.upc_values.specs.declared.record.ToldEnd.TheVariants.{Wants, Misfit, Ended, Exit, Fault, OutOfTicks}
use Rattle.upc_values.specs.Formed.{fits}
use Rattle.private_store.specs.Live.{Live, call_begun, returned}
use Rattle.thread_steps.specs.States.{Thread, State, Res, Val, Over, Unfinished, bind, Doing, ◌>>=◌, ◌>>◌, give, skip}
use Rattle.thread_steps.specs.layer.Parts.{is_deep, with_tick, with_store, answered_from}
use Rattle.thread_steps.specs.States.{change, choose, over, fault}
use Rattle.thread_steps.specs.Actions.{ask, answered, tick}
use Rattle.thread_steps.specs.Blocks.{begin_call, end_call, with_live}
use Rattle.thread_steps.proofs.Depths.{depth, SameDepth, called_depth, returned_depth, not_deep}
use Rattle.thread_steps.proofs.Kept.{IsBasic, IsAsking, IsKept, IsOwn, asked_notify_kept, asked_wait_kept}
use Rattle.thread_steps.proofs.Kept.{asked_called_kept}

module _ (τ : Thread) where
  -- Where the ticks are spent they are those of the budget.
  abbrev pub IsSpent : ToldEnd → State → Type 0
  IsSpent OutOfTicks σ = σ.ticks ≡ τ.budget
  IsSpent e σ = Unit {0}

  abbrev pub Goes : {A : Type 0} → (d start : ℕ) → Res A → Type 0
  Goes d start (Val v σ) = (start ≤ σ.ticks) × (σ.ticks < τ.budget) × (depth σ.store ≡ d)
  Goes d start (Over e σ) = (σ.ticks ≤ τ.budget) × IsSpent e σ
  Goes d start Unfinished = ⊥

  -- A value comes with no fewer ticks than there were, and fewer than the budget, and as many calls are active as
  -- before.
  pub record Enough (A : Type 0) (d start : ℕ) (r : Res A) : Type 0 where
    pub by : Goes d start r

  pub record Lasts (n d : ℕ) (A : Type 0) (m : Doing A) : Type 0 where
    pub by : (σ : State) → τ.budget ≤ n + σ.ticks → σ.ticks < τ.budget → depth σ.store ≡ d → Enough A d σ.ticks (m σ)

  earlier : (A : Type 0) (d s t : ℕ) (r : Res A) → t ≤ s → Enough A d s r → Enough A d t r
  earlier A d s t (Val v σ) le e = let h = e.by.0 in record { by = (omega arith, e.by.1, e.by.2) }
  earlier A d s t (Over x σ) le e = record { by = e.by }
  earlier A d s t Unfinished le e = absurd e.by

  then_lasts : (n d : ℕ) (A B : Type 0) (m : Doing A) (f : A → Doing B) → Lasts n d A m
      → ((v : A) → Lasts n d B (f v)) → Lasts n d B (m >>= f)
  then_lasts n d A B m f lm lf = record { by = λ σ fuel lt same. on_result (m σ) σ fuel (lm.by σ fuel lt same) }
    where
      on_result : (r : Res A) (σ : State) → τ.budget ≤ n + σ.ticks → Enough A d σ.ticks r
          → Enough B d σ.ticks (bind r f)
      on_result (Val v υ) σ fuel e =
          let le = e.by.0 in
          earlier B d υ.ticks σ.ticks (f v υ) le ((lf v).by υ (omega arith) e.by.1 e.by.2)
      on_result (Over x υ) σ fuel e = record { by = e.by }
      on_result Unfinished σ fuel e = absurd e.by

  -- ---- one action

  answered_enough : (d : ℕ) (b : Bool) (action : Action) (r : Reply) (rest : List Reply) (σ : State)
      → σ.ticks < τ.budget → depth σ.store ≡ d → Enough Reply d σ.ticks (answered b action r rest σ)
  answered_enough d true action r rest σ lt same = record { by = (omega arith, lt, same) }
  answered_enough d false action r rest σ lt same = record { by = (omega arith, tt) }

  ask_enough : (d : ℕ) (kind : Option Kind) (action : Action) (replies : List Reply) (σ : State)
      → σ.ticks < τ.budget → depth σ.store ≡ d → Enough Reply d σ.ticks (answered_from τ kind action replies σ)
  ask_enough d kind action [] σ lt same = record { by = (omega arith, tt) }
  ask_enough d kind action (r ∷ rest) σ lt same = answered_enough d (fits τ.threads τ.shapes kind action r) action r
      rest σ lt same

  ask_lasts : (n d : ℕ) (kind : Option Kind) (action : Action) → Lasts n d Reply (ask τ kind action)
  unfolding ask
  ask_lasts n d kind action = record { by = λ σ fuel lt same. ask_enough d kind action σ.replies σ lt same }

  -- ---- ticks

  -- The end where the count reaches the budget.
  spent_enough : (d n : ℕ) (b : Bool) (σ : State) → (n == τ.budget) ≡ b → σ.ticks ≡ n → n < τ.budget + 1
      → depth σ.store ≡ d → Enough (Unit {0}) d n (choose b (over OutOfTicks) skip σ)
  spent_enough d n true σ e t lt same = let h = spent σ.ticks n τ.budget e t in record { by = (omega arith, h) }
    where
      spent : (x n budget : ℕ) → (n == budget) ≡ true → x ≡ n → x ≡ budget
      spent x n budget e t = grind (arith, nat_tests)
  spent_enough d n false σ e t lt same = record { by = (omega arith, below σ.ticks n τ.budget e t lt, same) }
    where
      below : (x n budget : ℕ) → (n == budget) ≡ false → x ≡ n → n < budget + 1 → x < budget
      below x n budget e t lt = grind (arith, nat_tests)

  -- A Beat before it leaves the count as it is.
  beat_enough : (d n : ℕ) (b : Bool) (σ : State) → σ.ticks ≡ n → n < τ.budget + 1 → depth σ.store ≡ d
      → Enough (Unit {0}) d n
      (bind (choose b (do ask τ None act.Beat; skip) skip σ) (λ _. choose (n == τ.budget) (over OutOfTicks) skip))
  unfolding ask
  beat_enough d n false σ t lt same = spent_enough d n (n == τ.budget) σ refl t lt same
  beat_enough d n true σ t lt same = by_replies σ.replies
    where
      by_fit : (b : Bool) (r : Reply) (rest : List Reply)
          → Enough (Unit {0}) d n
          (bind (bind (answered b act.Beat r rest σ) (λ _. skip))
          (λ _. choose (n == τ.budget) (over OutOfTicks) skip))
      by_fit true r rest = spent_enough d n (n == τ.budget) _ refl t lt same
      by_fit false r rest = record { by = (omega arith, tt) }

      by_replies : (rs : List Reply)
          → Enough (Unit {0}) d n
          (bind (bind (answered_from τ None act.Beat rs σ) (λ _. skip))
          (λ _. choose (n == τ.budget) (over OutOfTicks) skip))
      by_replies [] = record { by = (omega arith, tt) }
      by_replies (r ∷ rest) = by_fit (fits τ.threads τ.shapes None act.Beat r) r rest

  tick_enough : (d : ℕ) (σ : State) → σ.ticks < τ.budget → depth σ.store ≡ d
      → Enough (Unit {0}) d (σ.ticks + 1) (tick τ σ)
  unfolding tick
  tick_enough d σ lt same = beat_enough d (σ.ticks + 1) ((σ.ticks + 1) % 1024 == 0) (with_tick σ) refl (omega arith)
      same

  tick_lasts : (n d : ℕ) → Lasts n d (Unit {0}) (tick τ)
  tick_lasts n d = record {
    by = λ σ fuel lt same. earlier (Unit {0}) d (σ.ticks + 1) σ.ticks (tick τ σ)
        (omega arith) (tick_enough d σ lt same);
  }

  -- A tick pays for one turn.
  turn_lasts : (n d : ℕ) (A : Type 0) (m : Doing A) → Lasts n d A m → Lasts (suc n) d A (tick τ >> m)
  turn_lasts n d A m l = record { by = λ σ fuel lt same. on_result (tick τ σ) σ fuel (tick_enough d σ lt same) }
    where
      on_result : (r : Res (Unit {0})) (σ : State) → τ.budget ≤ suc n + σ.ticks
          → Enough (Unit {0}) d (σ.ticks + 1) r → Enough A d σ.ticks (bind r (λ _. m))
      on_result (Val v υ) σ fuel e =
          let le = e.by.0 in
          earlier A d υ.ticks σ.ticks (m υ) (omega arith) (l.by υ (omega arith) e.by.1 e.by.2)
      on_result (Over x υ) σ fuel e = record { by = e.by }
      on_result Unfinished σ fuel e = absurd e.by

  -- ---- private objects

  store_lasts : (n d : ℕ) (at : Place) (f : Live → Result Live ℕ) → ((s : Live) → SameDepth s (f s))
      → Lasts n d (Unit {0}) (λ σ. with_store at σ (f σ.store))
  store_lasts n d at f kept = record { by = λ σ fuel lt same. on_store (f σ.store) σ lt same (kept σ.store) }
    where
      on_store : (r : Result Live ℕ) (σ : State) → σ.ticks < τ.budget → depth σ.store ≡ d → SameDepth σ.store r
          → Enough (Unit {0}) d σ.ticks (with_store at σ r)
      on_store (Ok s) σ lt same k = record { by = (omega arith, lt, k ∙ same) }
      on_store (Err code) σ lt same k = record { by = (omega arith, tt) }

  -- ---- calls

  call_lasts : (n d : ℕ) (A : Type 0) (at : Place) (m : Doing A) → (d < 1000 → Lasts n (suc d) A m)
      → Lasts n d A (begin_call at >> (m >>= (λ v. end_call >> give v)))
  unfolding begin_call end_call
  call_lasts n d A at m lm = record { by = λ σ fuel lt same. by_depth (is_deep σ) σ refl fuel lt same }
    where
      ended : (r : Res A) (s : ℕ) → Enough A (suc d) s r
          → Enough A d s (bind r (λ v. change (with_live returned) >> give v))
      ended (Val v σ) s e = record { by = (e.by.0, e.by.1, returned_depth d σ.store e.by.2) }
      ended (Over x σ) s e = record { by = e.by }
      ended Unfinished s e = absurd e.by

      by_depth : (b : Bool) (σ : State) → is_deep σ ≡ b → τ.budget ≤ n + σ.ticks → σ.ticks < τ.budget
          → depth σ.store ≡ d
          → Enough A d σ.ticks
          (bind (bind (choose b (fault DEPTH at) skip σ) (λ _. change (with_live call_begun)))
          (λ _. m >>= (λ v. change (with_live returned) >> give v)))
      by_depth true σ e fuel lt same = record { by = (omega arith, tt) }
      by_depth false σ e fuel lt same =
          let υ = with_live call_begun σ in
          ended (m υ) σ.ticks
          ((lm (not_deep d (depth σ.store) e same)).by υ fuel lt (called_depth σ.store ∙ omega arith))

  own_lasts : (n d : ℕ) (A : Type 0) (e : ToldEnd) → IsOwn e → Lasts n d A (over e)
  own_lasts n d A (Fault code at) own = record { by = λ σ fuel lt same. record { by = (omega arith, tt) } }
  own_lasts n d A (Exit v) own = record { by = λ σ fuel lt same. record { by = (omega arith, tt) } }
  own_lasts n d A OutOfTicks own = absurd own
  own_lasts n d A (Wants a) own = absurd own
  own_lasts n d A (Misfit k) own = absurd own
  own_lasts n d A (Ended v) own = absurd own

  basic_lasting : IsBasic Lasts
  basic_lasting = record {
    of_give = λ n d A v. record { by = λ σ fuel lt same. record { by = (omega arith, lt, same) } };
    of_over = own_lasts;
    of_know = λ n d A f ignores. record { by = λ σ fuel lt same. record { by = (omega arith, lt, same) } };
    of_bind = then_lasts;
    of_store = store_lasts;
  }

  asking_lasting : IsAsking τ Lasts
  asking_lasting = record {
    basic = basic_lasting;
    of_ask = ask_lasts;
    of_notified = λ n d v. record { by = λ σ fuel lt same. record { by = (omega arith, lt, same) } };
  }

  pub lasting : IsKept τ Lasts
  lasting = record {
    basic = basic_lasting;
    of_fewer = λ k n d A m le l. record { by = λ σ fuel lt same. l.by σ (omega arith) lt same };
    of_unfinished = λ d A. record { by = λ σ fuel lt same. absurd (omega arith) };
    of_ask = λ n d kind action plain. ask_lasts n d kind action;
    of_notify = λ n d at mark. asked_notify_kept τ Lasts asking_lasting n d at mark;
    of_wait = λ n d at mark. asked_wait_kept τ Lasts asking_lasting n d at mark;
    of_called = λ n d call shape at args. asked_called_kept τ Lasts asking_lasting n d call shape at args;
    of_tick = tick_lasts;
    of_turn = turn_lasts;
    of_call = call_lasts;
  }
