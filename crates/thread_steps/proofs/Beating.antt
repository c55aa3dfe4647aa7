-- A thread beats at each multiple of 1,024 ticks.
use Rattle.std.proofs.Common.{◌≡◌, ℕ, suc, ◌+◌, ◌*◌, ◌/◌, ◌%◌, ◌<◌, List, [], ◌∷◌, ◌++◌, Option, Some, None, Bool, true}
use Rattle.std.proofs.Common.{false, refl, sym, ◌∙◌, ap, arith, eqb-true, ◌≢◌}
use Rattle.std.proofs.lemmas.Bool.{eqb-false}
use Rattle.std.specs.Prelude.{Result, Ok, Err, ◌==◌, is_some}
use Rattle.upc_text.specs.declared.place.Place.{Place}
use Rattle.block_layout.specs.declared.kind.Kind.{Kind}
use Rattle.block_layout.specs.declared.kind.Shape.{Shape}
use Rattle.block_layout.specs.declared.run_error.TheConstants.{DEPTH, PHASE_ORDER, BARRIER_IN_FORALL}
use Rattle.upc_values.specs.declared.scalar.Scalar.{Scalar}
use Rattle.upc_values.specs.declared.scalar.Value.{Value}
use Rattle.upc_values.specs.declared.scalar.Value.TheVariants as value
use Rattle.upc_values.specs.declared.scalar.Mark.{Mark}
use Rattle.upc_values.specs.declared.action.Action.{Action}
use Rattle.upc_values.specs.declared.action.Action.TheVariants as act
use Rattle.upc_values.specs.declared.action.Reply.{Reply}
use Rattle.upc_values.specs.declared.library.LibraryCall.{LibraryCall}
use Rattle.upc_values.specs.declared.record.ToldEnd.{ToldEnd}
use Rattle.upc_values.specs.declared.record.ToldEnd.TheVariants.{Wants, Misfit, Ended, Exit, Fault, OutOfTicks}
use Rattle.upc_values.specs.Formed.{fits}
use Rattle.upc_values.specs.LibraryCalls.{library_call, meet_number}
use Rattle.upc_values.specs.Expansion.{Expansion, Gives, Fails, Reads, Asks, Loads, Stores, value_in}
use Rattle.upc_values.specs.Records.{beats, is_beat}
use Rattle.upc_values.proofs.Records.{beats-push}
use Rattle.private_store.specs.Live.{Live, call_begun, returned}
use Rattle.thread_steps.specs.States.{Thread, State, Res, Val, Over, Unfinished, bind, Doing, ◌>>=◌, ◌>>◌}
use Rattle.thread_steps.specs.layer.Parts.{is_deep}
use Rattle.thread_steps.specs.layer.Parts as parts
use Rattle.thread_steps.specs.States.{give, skip, know, change, choose, over, fault, fault_if}
use Rattle.thread_steps.specs.Values.{scalar_of}
use Rattle.thread_steps.specs.Actions as a
use Rattle.thread_steps.specs.Accesses as x
use Rattle.thread_steps.specs.Blocks.{begin_call, end_call, with_live}
use Rattle.thread_steps.specs.Library as l
use Rattle.thread_steps.proofs.Depths.{depth, SameDepth, called_depth, returned_depth, not_deep}
use Rattle.thread_steps.proofs.Kept.{IsBasic, IsKept, Ignores, IsOwn, IsPlain, basic_choose_kept, basic_fault_if_kept}
use Rattle.thread_steps.proofs.Kept.{basic_unless_refused_kept, basic_load_private_kept, basic_save_private_kept}
use Rattle.thread_steps.proofs.Orderly.{IsOrderly, Turns, library_orderly}

beats_one : (y : Action) → is_beat y ≡ false → beats (y ∷ []) ≡ 0
beats_one act.Beat e = absurd (grind arith)
beats_one y e = refl

beats_other : (xs : List Action) (y : Action) → is_beat y ≡ false → beats (xs ++ y ∷ []) ≡ beats xs
beats_other [] y e = beats_one y e
beats_other (act.Beat ∷ xs) y e = ap (λ n. n + 1) (beats_other xs y e)
beats_other (z ∷ xs) y e = beats_other xs y e

plain_beat : (y : Action) → IsPlain y → is_beat y ≡ false
plain_beat act.Beat p = absurd p
plain_beat y p = refl

turns_beat : (b : Bool) (y : Action) (c : Bool) → Turns b y c → is_beat y ≡ false
turns_beat b act.Beat c h = absurd h
turns_beat b y c h = refl

-- At a Beat the ticks are a multiple of 1,024, of which each before it had its Beat.
abbrev pub IsDue : ToldEnd → State → Type 0
IsDue (Wants act.Beat) σ = σ.ticks ≡ 1024 * (beats σ.actions + 1)
IsDue e σ = Unit {0}

-- Each multiple of 1,024 ticks had its Beat.
pub record Beaten (d : ℕ) (σ : State) : Type 0 where
  pub beaten : σ.ticks / 1024 ≡ beats σ.actions
  pub deep : depth σ.store ≡ d

abbrev pub Ends : {A : Type 0} → ℕ → Res A → Type 0
Ends d (Val v σ) = Beaten d σ
Ends d (Over e σ) = IsDue e σ
Ends d Unfinished = Unit {0}

pub record Beating (n d : ℕ) (A : Type 0) (m : Doing A) : Type 0 where
  pub by : (σ : State) → Beaten d σ → Ends d (m σ)

not_due : (y : Action) (σ : State) → is_beat y ≡ false → IsDue (Wants y) σ
not_due act.Beat σ e = absurd (grind arith)
not_due y σ e = tt

then_beating : (n d : ℕ) (A B : Type 0) (m : Doing A) (f : A → Doing B) → Beating n d A m
    → ((v : A) → Beating n d B (f v)) → Beating n d B (m >>= f)
then_beating n d A B m f bm bf = record { by = λ σ h. on_result (m σ) (bm.by σ h) }
  where
    on_result : (r : Res A) → Ends d r → Ends d (bind r f)
    on_result (Val v σ) h = (bf v).by σ h
    on_result (Over e σ) h = h
    on_result Unfinished h = tt

give_beating : (n d : ℕ) (A : Type 0) (v : A) → Beating n d A (give v)
give_beating n d A v = record { by = λ σ h. h }

own_beating : (n d : ℕ) (A : Type 0) (e : ToldEnd) → IsOwn e → Beating n d A (over e)
own_beating n d A (Fault code at) own = record { by = λ σ h. tt }
own_beating n d A (Exit v) own = record { by = λ σ h. tt }
own_beating n d A OutOfTicks own = absurd own
own_beating n d A (Wants y) own = absurd own
own_beating n d A (Misfit k) own = absurd own
own_beating n d A (Ended v) own = absurd own

store_beating : (n d : ℕ) (at : Place) (f : Live → Result Live ℕ) → ((s : Live) → SameDepth s (f s))
    → Beating n d (Unit {0}) (λ σ. parts.with_store at σ (f σ.store))
store_beating n d at f kept = record { by = λ σ h. on_store (f σ.store) σ h (kept σ.store) }
  where
    on_store : (r : Result Live ℕ) (σ : State) → Beaten d σ → SameDepth σ.store r → Ends d (parts.with_store at σ r)
    on_store (Ok s) σ h k = record { beaten = h.beaten; deep = k ∙ h.deep }
    on_store (Err code) σ h k = tt

basic_beating : IsBasic Beating
basic_beating = record {
  of_give = give_beating;
  of_over = own_beating;
  of_know = λ n d A f ignores. record { by = λ σ h. h };
  of_bind = then_beating;
  of_store = store_beating;
}

module _ (τ : Thread) where
  -- ---- actions that are no Beat

  module _ (d : ℕ) (kind : Option Kind) (y : Action) (other : is_beat y ≡ false) where
    answered_beating : (t : Bool) (r : Reply) (rest : List Reply) (σ : State) → Beaten d σ
        → Ends d (a.answered t y r rest σ)
    answered_beating true r rest σ h =
        record { beaten = h.beaten ∙ sym (beats_other σ.actions y other); deep = h.deep }
    answered_beating false r rest σ h = tt

    from_beating : (rs : List Reply) (σ : State) → Beaten d σ → Ends d (parts.answered_from τ kind y rs σ)
    from_beating [] σ h = not_due y σ other
    from_beating (r ∷ rest) σ h = answered_beating (fits τ.threads τ.shapes kind y r) r rest σ h

    ask_beating : (n : ℕ) → Beating n d Reply (a.ask τ kind y)
    unfolding a.ask
    ask_beating n = record { by = λ σ h. from_beating σ.replies σ h }

  does_beating : (n d : ℕ) (at : Place) (y : Action) → is_beat y ≡ false → Beating n d (Unit {0}) (a.does τ at y)
  does_beating n d at y other =
      then_beating n d Reply (Unit {0}) (a.ask τ None y) _ (ask_beating d None y other n)
      (λ r. basic_unless_refused_kept Beating basic_beating n d at r)

  -- ---- ticks

  due : (n k : ℕ) → ((n + 1) % 1024 == 0) ≡ true → n / 1024 ≡ k → n + 1 ≡ 1024 * (k + 1)
  due n k e h = let whole : (n + 1) % 1024 ≡ 0 = eqb-true ((n + 1) % 1024) 0 e in omega arith

  behind : (n k : ℕ) → ((n + 1) % 1024 == 0) ≡ true → n / 1024 ≡ k → (n + 1) / 1024 ≡ k + 1
  behind n k e h = let whole : (n + 1) % 1024 ≡ 0 = eqb-true ((n + 1) % 1024) 0 e in omega arith

  between : (n k : ℕ) → ((n + 1) % 1024 == 0) ≡ false → n / 1024 ≡ k → (n + 1) / 1024 ≡ k
  between n k e h = let part : (n + 1) % 1024 ≢ 0 = eqb-false ((n + 1) % 1024) 0 e in omega arith

  spent_beating : (d : ℕ) (t : Bool) (σ : State) → Beaten d σ → Ends d (choose t (over OutOfTicks) skip σ)
  spent_beating d true σ h = tt
  spent_beating d false σ h = h

  beat_beating : (d : ℕ) (t : Bool) (σ : State) → ((σ.ticks + 1) % 1024 == 0) ≡ t → Beaten d σ
      → Ends d
      (bind (choose t (do a.ask τ None act.Beat; skip) skip (parts.with_tick σ))
      (λ _. choose (σ.ticks + 1 == τ.budget) (over OutOfTicks) skip))
  unfolding a.ask
  beat_beating d false σ e h =
      spent_beating d (σ.ticks + 1 == τ.budget) (parts.with_tick σ)
      (record { beaten = between σ.ticks (beats σ.actions) e h.beaten; deep = h.deep })
  beat_beating d true σ e h = by_replies σ.replies
    where
      by_fit : (t : Bool) (r : Reply) (rest : List Reply)
          → Ends d
          (bind (bind (a.answered t act.Beat r rest (parts.with_tick σ)) (λ _. skip))
          (λ _. choose (σ.ticks + 1 == τ.budget) (over OutOfTicks) skip))
      by_fit true r rest =
          spent_beating d (σ.ticks + 1 == τ.budget)
          (record (parts.with_tick σ) { actions = σ.actions ++ act.Beat ∷ []; replies = rest })
          (record {
            beaten = behind σ.ticks (beats σ.actions) e h.beaten ∙ sym (beats-push σ.actions);
            deep = h.deep;
          })
      by_fit false r rest = tt

      by_replies : (rs : List Reply)
          → Ends d
          (bind (bind (parts.answered_from τ None act.Beat rs (parts.with_tick σ)) (λ _. skip))
          (λ _. choose (σ.ticks + 1 == τ.budget) (over OutOfTicks) skip))
      by_replies [] = due σ.ticks (beats σ.actions) e h.beaten
      by_replies (r ∷ rest) = by_fit (fits τ.threads τ.shapes None act.Beat r) r rest

  tick_beating : (n d : ℕ) → Beating n d (Unit {0}) (a.tick τ)
  unfolding a.tick
  tick_beating n d = record { by = λ σ h. beat_beating d ((σ.ticks + 1) % 1024 == 0) σ refl h }

  -- ---- barriers

  noted_beating : (n d : ℕ) (v : Bool) → Beating n d (Unit {0}) (change (parts.with_notified v))
  noted_beating n d v = record { by = λ σ h. record { beaten = h.beaten; deep = h.deep } }

  unless_beating : (n d : ℕ) (test : State → Bool) (code : ℕ) (at : Place) → Ignores test
      → Beating n d (Unit {0}) (fault_if test code at)
  unless_beating n d test code at ignores = basic_fault_if_kept Beating basic_beating n d test code at ignores

  notify_beating : (n d : ℕ) (at : Place) (mark : Mark) → Beating n d (Unit {0}) (a.notify τ at mark)
  unfolding a.notify
  notify_beating n d at mark =
      then_beating n d (Unit {0}) (Unit {0}) (fault_if a.is_controlled BARRIER_IN_FORALL at) _
      (unless_beating n d a.is_controlled BARRIER_IN_FORALL at (λ σ as_ rs. refl)) (λ u.
      then_beating n d (Unit {0}) (Unit {0}) (fault_if parts.is_notified PHASE_ORDER at) _
      (unless_beating n d parts.is_notified PHASE_ORDER at (λ σ as_ rs. refl)) (λ v.
      then_beating n d (Unit {0}) (Unit {0}) (a.does τ at (act.Notify mark)) _
      (does_beating n d at (act.Notify mark) refl) (λ w.
      noted_beating n d true)))

  wait_beating : (n d : ℕ) (at : Place) (mark : Mark) → Beating n d (Unit {0}) (a.wait τ at mark)
  unfolding a.wait
  wait_beating n d at mark =
      then_beating n d (Unit {0}) (Unit {0}) (fault_if a.is_controlled BARRIER_IN_FORALL at) _
      (unless_beating n d a.is_controlled BARRIER_IN_FORALL at (λ σ as_ rs. refl)) (λ u.
      then_beating n d (Unit {0}) (Unit {0}) (fault_if parts.is_not_notified PHASE_ORDER at) _
      (unless_beating n d parts.is_not_notified PHASE_ORDER at (λ σ as_ rs. refl)) (λ v.
      then_beating n d (Unit {0}) (Unit {0}) (a.does τ at (act.Wait mark)) _
      (does_beating n d at (act.Wait mark) refl) (λ w.
      noted_beating n d false)))

  meet_beating : (n d : ℕ) (at : Place) → Beating n d (Unit {0}) (a.meet τ at)
  unfolding a.meet
  meet_beating n d at =
      then_beating n d (Unit {0}) (Unit {0}) (fault_if a.is_controlled BARRIER_IN_FORALL at) _
      (unless_beating n d a.is_controlled BARRIER_IN_FORALL at (λ σ as_ rs. refl)) (λ u.
      unless_beating n d parts.is_notified PHASE_ORDER at (λ σ as_ rs. refl))

  -- ---- calls of the library

  expanded_beating : {A : Type 0} (n d : ℕ) (b : Bool) (at : Place) (e : Expansion A) → IsOrderly false b e
      → Beating n d A (x.expanded τ at e)
  expanded_beating {A = A} n d b at (Gives v) h = give_beating n d A v
  expanded_beating {A = A} n d b at (Fails code) h = own_beating n d A (Fault code at) tt
  expanded_beating {A = A} n d b at (Reads k kind after) h =
      then_beating n d Scalar A (x.read τ kind false k) _
      (then_beating n d Reply Scalar (a.ask τ (Some kind) (act.Read k false)) _
      (ask_beating d (Some kind) (act.Read k false) refl n) (λ r. give_beating n d Scalar (value_in r))) (λ v.
      expanded_beating n d b at (after v) (h v))
  expanded_beating {A = A} n d b at (Asks y after) h =
      then_beating n d Reply A (a.ask τ None y) _ (ask_beating d None y (turns_beat b y h.0 h.1) n) (λ r.
      expanded_beating n d h.0 at (after r) (h.2 r))
  expanded_beating {A = A} n d b at (Loads q kind after) h =
      then_beating n d Value A (x.load_private kind at q) _
      (basic_load_private_kept Beating basic_beating n d kind at q) (λ v.
      expanded_beating n d b at (after (scalar_of v)) (h (scalar_of v)))
  expanded_beating {A = A} n d b at (Stores q kind v after) h =
      then_beating n d (Unit {0}) A (x.save_private kind at q (value.Scalar v)) _
      (basic_save_private_kept Beating basic_beating n d kind at q (value.Scalar v)) (λ u.
      expanded_beating n d b at after h)

  run_beating : {A : Type 0} (n d : ℕ) (at : Place) (e : Expansion A) → IsOrderly false false e
      → Beating n d A (x.library_steps τ at e)
  unfolding x.library_steps
  run_beating n d at e h = expanded_beating n d false at e h

  called_beating : (n d : ℕ) (call : LibraryCall) (shape : ℕ) (at : Place) (args : List Value)
      → Beating n d Value (l.called_library τ call shape at args)
  called_beating n d call shape at args =
      then_beating n d (Unit {0}) Value (choose (is_some (meet_number call)) (a.meet τ at) skip) _
      (basic_choose_kept Beating basic_beating n d (is_some (meet_number call)) (a.meet τ at) skip
      (meet_beating n d at) (give_beating n d (Unit {0}) tt)) (λ u.
      then_beating n d (ℕ → Option Shape) Value (know parts.private_shapes) _ (record { by = λ σ h. h }) (λ private.
      then_beating n d Scalar Value
      (x.library_steps τ at (library_call τ.threads τ.shapes τ.number private call shape args)) _
      (run_beating n d at _
      (library_orderly false τ.threads τ.shapes τ.number private call shape args (λ e. refl)).by) (λ v.
      give_beating n d Value (value.Scalar v))))

  -- ---- calls

  call_beating : (n d : ℕ) (A : Type 0) (at : Place) (m : Doing A) → (d < 1000 → Beating n (suc d) A m)
      → Beating n d A (begin_call at >> (m >>= (λ v. end_call >> give v)))
  unfolding begin_call end_call
  call_beating n d A at m bm = record { by = λ σ h. by_depth (is_deep σ) σ refl h }
    where
      back : (r : Res A) → Ends (suc d) r → Ends d (bind r (λ v. change (with_live returned) >> give v))
      back (Val v σ) h = record { beaten = h.beaten; deep = returned_depth d σ.store h.deep }
      back (Over e σ) h = h
      back Unfinished h = tt

      by_depth : (b : Bool) (σ : State) → is_deep σ ≡ b → Beaten d σ
          → Ends d (bind (bind (choose b (fault DEPTH at) skip σ) (λ _. change (with_live call_begun)))
          (λ _. m >>= (λ v. change (with_live returned) >> give v)))
      by_depth true σ e h = tt
      by_depth false σ e h =
          let υ = with_live call_begun σ in
          back (m υ) ((bm (not_deep d (depth σ.store) e h.deep)).by υ
          (record { beaten = h.beaten; deep = called_depth σ.store ∙ ap suc h.deep }))

  counted : (k n d : ℕ) (A : Type 0) (m : Doing A) → Beating n d A m → Beating k d A m
  counted k n d A m b = record { by = λ σ h. b.by σ h }

  pub beating : IsKept τ Beating
  beating = record {
    basic = basic_beating;
    of_fewer = λ k n d A m le b. counted k n d A m b;
    of_unfinished = λ d A. record { by = λ σ h. tt };
    of_ask = λ n d kind y plain. ask_beating d kind y (plain_beat y plain) n;
    of_notify = notify_beating;
    of_wait = wait_beating;
    of_called = called_beating;
    of_tick = tick_beating;
    of_turn = λ n d A m b. counted (suc n) n d A _ (then_beating n d (Unit {0}) A (a.tick τ) _ (tick_beating n d)
        (λ u. b));
    of_call = call_beating;
  }
