-- Whatever a thread does goes together, and where it goes on no collective call is left open.
use Rattle.std.proofs.Common.{◌≡◌, ℕ, suc, ◌%◌, ◌<◌, List, [], ◌∷◌, ◌++◌, Option, None}
use Rattle.std.proofs.Common.{Bool, true, false, refl, ◌∙◌, ap}
use Rattle.std.specs.Prelude.{Result, Ok, Err, ◌==◌, is_some}
use Rattle.upc_text.specs.declared.place.Place.{Place}
use Rattle.block_layout.specs.declared.kind.Kind.{Kind}
use Rattle.block_layout.specs.declared.kind.Shape.{Shape}
use Rattle.block_layout.specs.declared.run_error.TheConstants.{DEPTH, PHASE_ORDER, BARRIER_IN_FORALL}
use Rattle.upc_values.specs.declared.scalar.Scalar.{Scalar}
use Rattle.upc_values.specs.declared.scalar.Value.{Value}
use Rattle.upc_values.specs.declared.scalar.Value.TheVariants as value
use Rattle.upc_values.specs.declared.scalar.Mark.{Mark}
use Rattle.upc_values.specs.declared.action.Action.{Action}
use Rattle.upc_values.specs.declared.action.Action.TheVariants as act
use Rattle.upc_values.specs.declared.action.Reply.{Reply}
use Rattle.upc_values.specs.declared.library.LibraryCall.{LibraryCall}
use Rattle.upc_values.specs.declared.record.ToldEnd.TheVariants.{OutOfTicks}
use Rattle.upc_values.specs.Formed.{fits}
use Rattle.upc_values.specs.LibraryCalls.{library_call, meet_number}
use Rattle.upc_values.specs.Expansion.{Expansion}
use Rattle.private_store.specs.Live.{Live, call_begun, returned}
use Rattle.thread_steps.specs.States.{Thread, State, Res, Val, Over, Unfinished, bind, Doing, ◌>>=◌, ◌>>◌}
use Rattle.thread_steps.specs.layer.Parts.{is_deep}
use Rattle.thread_steps.specs.layer.Parts as parts
use Rattle.thread_steps.specs.States.{give, skip, know, change, choose, over, fault, fault_if}
use Rattle.thread_steps.specs.Actions as a
use Rattle.thread_steps.specs.Accesses as x
use Rattle.thread_steps.specs.Blocks.{begin_call, end_call, with_live}
use Rattle.thread_steps.specs.Library as l
use Rattle.thread_steps.proofs.Depths.{depth, SameDepth, called_depth, returned_depth, not_deep}
use Rattle.thread_steps.proofs.Kept.{IsBasic, Ignores, basic_choose_kept, basic_fault_if_kept}
use Rattle.thread_steps.proofs.Kept.{basic_unless_refused_kept}
use Rattle.collective_laws_words.specs.layer.Steps.{Step}
use Rattle.collective_laws_source.proofs.Quiet.{BeginsNone}
use Rattle.collective_laws_source.proofs.Operations.{IsPlain, IsKept}
use Rattle.collective_laws_source.proofs.Steps.{IsClosed, none_closed, closed_then, quiet_closed, Did, none_did}
use Rattle.collective_laws_source.proofs.Steps.{first_did, then_did}
use Rattle.collective_laws_source.proofs.Calls.{Comes, Stops, Leads, Runs, library_runs}

plain_begins_none : (y : Action) → IsPlain y → BeginsNone y
plain_begins_none (act.Meet number args) plain = absurd plain
plain_begins_none y plain = tt

module _ (τ : Thread) where
  -- Whatever it is done after, it goes together, and with a value it leaves no collective call open.
  pub record Going (n d : ℕ) (A : Type 0) (m : Doing A) : Type 0 where
    pub by : (σ : State) → depth σ.store ≡ d → Leads τ d σ (m σ)

  here : (d : ℕ) (σ : State) → depth σ.store ≡ d → Comes τ d σ σ
  here d σ same = record {
    deep = same;
    did = [];
    is = none_did σ;
    closed = none_closed τ.threads τ.shapes τ.number;
  }

  stops : (σ : State) → Stops τ σ σ
  stops σ = record { did = []; is = none_did σ; together = tt }

  after_leads : {A : Type 0} (d : ℕ) (σ υ : State) (did : List Step) → Did σ υ did
      → IsClosed τ.threads τ.shapes τ.number did → (r : Res A) → Leads τ d υ r → Leads τ d σ r
  after_leads d σ υ did is closed (Val v ω) h = record {
    deep = h.deep;
    did = did ++ h.did;
    is = then_did σ υ ω did h.did is h.is;
    closed = closed_then τ.threads τ.shapes τ.number did h.did closed h.closed;
  }
  after_leads d σ υ did is closed (Over e ω) h = record {
    did = did ++ h.did;
    is = then_did σ υ ω did h.did is h.is;
    together = closed.before h.did h.together;
  }
  after_leads d σ υ did is closed Unfinished h = tt

  then_going : (n d : ℕ) (A B : Type 0) (m : Doing A) (f : A → Doing B) → Going n d A m
      → ((v : A) → Going n d B (f v)) → Going n d B (m >>= f)
  then_going n d A B m f gm gf = record { by = λ σ same. on_result σ (m σ) (gm.by σ same) }
    where
      on_result : (σ : State) (r : Res A) → Leads τ d σ r → Leads τ d σ (bind r f)
      on_result σ (Val v υ) h = after_leads d σ υ h.did h.is h.closed (f v υ) ((gf v).by υ h.deep)
      on_result σ (Over e υ) h = h
      on_result σ Unfinished h = tt

  store_going : (n d : ℕ) (at : Place) (f : Live → Result Live ℕ) → ((s : Live) → SameDepth s (f s))
      → Going n d (Unit {0}) (λ σ. parts.with_store at σ (f σ.store))
  store_going n d at f kept = record { by = λ σ same. on_store (f σ.store) σ same (kept σ.store) }
    where
      on_store : (r : Result Live ℕ) (σ : State) → depth σ.store ≡ d → SameDepth σ.store r
          → Leads τ d σ (parts.with_store at σ r)
      on_store (Ok s) σ same k = record {
        deep = k ∙ same;
        did = [];
        is = none_did σ;
        closed = none_closed τ.threads τ.shapes τ.number;
      }
      on_store (Err code) σ same k = stops σ

  basic_going : IsBasic Going
  basic_going = record {
    of_give = λ n d A v. record { by = λ σ same. here d σ same };
    of_over = λ n d A e own. record { by = λ σ same. stops σ };
    of_know = λ n d A f ignores. record { by = λ σ same. here d σ same };
    of_bind = then_going;
    of_store = store_going;
  }

  skip_going : (n d : ℕ) → Going n d (Unit {0}) skip
  skip_going n d = record { by = λ σ same. here d σ same }

  -- What changes neither actions nor replies nor private objects.
  change_going : (n d : ℕ) (f : State → State) → ((σ : State) → depth (f σ).store ≡ depth σ.store)
      → ((σ : State) → Did σ (f σ) []) → Going n d (Unit {0}) (change f)
  change_going n d f deep is = record {
    by = λ σ same. record {
      deep = deep σ ∙ same;
      did = [];
      is = is σ;
      closed = none_closed τ.threads τ.shapes τ.number;
    };
  }

  -- ---- actions

  module _ (d : ℕ) (kind : Option Kind) (y : Action) (quiet : BeginsNone y) where
    ask_fit : (t : Bool) (r : Reply) (rest : List Reply) (σ : State) → depth σ.store ≡ d → σ.replies ≡ r ∷ rest
        → Leads τ d σ (a.answered t y r rest σ)
    ask_fit true r rest σ same e =
        let υ : State = record σ { actions = σ.actions ++ y ∷ []; replies = rest } in
        let s : Step = record { action = y; reply = r } in
        record {
          deep = same;
          did = s ∷ [];
          is = first_did σ υ y r rest [] e (none_did υ);
          closed = quiet_closed τ.threads τ.shapes τ.number s [] quiet (none_closed τ.threads τ.shapes τ.number);
        }
    ask_fit false r rest σ same e = stops σ

    ask_replies : (rs : List Reply) (σ : State) → depth σ.store ≡ d → σ.replies ≡ rs
        → Leads τ d σ (parts.answered_from τ kind y rs σ)
    ask_replies [] σ same e = stops σ
    ask_replies (r ∷ rest) σ same e = ask_fit (fits τ.threads τ.shapes kind y r) r rest σ same e

  ask_going : (n d : ℕ) (kind : Option Kind) (y : Action) → BeginsNone y → Going n d Reply (a.ask τ kind y)
  unfolding a.ask
  ask_going n d kind y quiet = record { by = λ σ same. ask_replies d kind y quiet σ.replies σ same refl }

  does_going : (n d : ℕ) (at : Place) (y : Action) → BeginsNone y → Going n d (Unit {0}) (a.does τ at y)
  does_going n d at y quiet =
      then_going n d Reply (Unit {0}) (a.ask τ None y) _ (ask_going n d None y quiet)
      (λ r. basic_unless_refused_kept Going basic_going n d at r)

  fault_if_going : (n d : ℕ) (test : State → Bool) (code : ℕ) (at : Place) → Ignores test
      → Going n d (Unit {0}) (fault_if test code at)
  fault_if_going n d test code at ignores = basic_fault_if_kept Going basic_going n d test code at ignores

  noted_going : (n d : ℕ) (v : Bool) → Going n d (Unit {0}) (change (parts.with_notified v))
  noted_going n d v = change_going n d (parts.with_notified v) (λ σ. refl) (λ σ. none_did σ)

  notify_going : (n d : ℕ) (at : Place) (mark : Mark) → Going n d (Unit {0}) (a.notify τ at mark)
  unfolding a.notify
  notify_going n d at mark =
      then_going n d (Unit {0}) (Unit {0}) (fault_if a.is_controlled BARRIER_IN_FORALL at) _
      (fault_if_going n d a.is_controlled BARRIER_IN_FORALL at (λ σ as_ rs. refl)) (λ u.
      then_going n d (Unit {0}) (Unit {0}) (fault_if parts.is_notified PHASE_ORDER at) _
      (fault_if_going n d parts.is_notified PHASE_ORDER at (λ σ as_ rs. refl)) (λ v.
      then_going n d (Unit {0}) (Unit {0}) (a.does τ at (act.Notify mark)) _
      (does_going n d at (act.Notify mark) tt) (λ w. noted_going n d true)))

  wait_going : (n d : ℕ) (at : Place) (mark : Mark) → Going n d (Unit {0}) (a.wait τ at mark)
  unfolding a.wait
  wait_going n d at mark =
      then_going n d (Unit {0}) (Unit {0}) (fault_if a.is_controlled BARRIER_IN_FORALL at) _
      (fault_if_going n d a.is_controlled BARRIER_IN_FORALL at (λ σ as_ rs. refl)) (λ u.
      then_going n d (Unit {0}) (Unit {0}) (fault_if parts.is_not_notified PHASE_ORDER at) _
      (fault_if_going n d parts.is_not_notified PHASE_ORDER at (λ σ as_ rs. refl)) (λ v.
      then_going n d (Unit {0}) (Unit {0}) (a.does τ at (act.Wait mark)) _
      (does_going n d at (act.Wait mark) tt) (λ w. noted_going n d false)))

  -- ---- ticks

  beat_going : (n d : ℕ) (t : Bool) → Going n d (Unit {0}) (choose t (do a.ask τ None act.Beat; skip) skip)
  beat_going n d true =
      then_going n d Reply (Unit {0}) (a.ask τ None act.Beat) _ (ask_going n d None act.Beat tt) (λ r. skip_going n d)
  beat_going n d false = skip_going n d

  spent_going : (n d : ℕ) (t : Bool) → Going n d (Unit {0}) (choose t (over OutOfTicks) skip)
  spent_going n d true = record { by = λ σ same. stops σ }
  spent_going n d false = skip_going n d

  tick_going : (n d : ℕ) → Going n d (Unit {0}) (a.tick τ)
  unfolding a.tick
  tick_going n d =
      then_going n d (Unit {0}) (Unit {0}) (change parts.with_tick) _
      (change_going n d parts.with_tick (λ σ. refl) (λ σ. none_did σ)) (λ u.
      then_going n d ℕ (Unit {0}) (know parts.ticks_of) _ (record { by = λ σ same. here d σ same }) (λ count.
      then_going n d (Unit {0}) (Unit {0}) (choose (count % 1024 == 0) (do a.ask τ None act.Beat; skip) skip) _
      (beat_going n d (count % 1024 == 0)) (λ v. spent_going n d (count == τ.budget))))

  -- ---- calls of the library

  meet_going : (n d : ℕ) (at : Place) → Going n d (Unit {0}) (a.meet τ at)
  unfolding a.meet
  meet_going n d at =
      then_going n d (Unit {0}) (Unit {0}) (fault_if a.is_controlled BARRIER_IN_FORALL at) _
      (fault_if_going n d a.is_controlled BARRIER_IN_FORALL at (λ σ as_ rs. refl)) (λ u.
      fault_if_going n d parts.is_notified PHASE_ORDER at (λ σ as_ rs. refl))

  run_going : (n d : ℕ) (at : Place) (e : Expansion Scalar) → Runs τ e → Going n d Scalar (x.library_steps τ at e)
  unfolding x.library_steps
  run_going n d at e h = record { by = λ σ same. h.by d at σ same }

  called_going : (n d : ℕ) (call : LibraryCall) (shape : ℕ) (at : Place) (args : List Value)
      → Going n d Value (l.called_library τ call shape at args)
  called_going n d call shape at args =
      then_going n d (Unit {0}) Value (choose (is_some (meet_number call)) (a.meet τ at) skip) _
      (basic_choose_kept Going basic_going n d (is_some (meet_number call)) (a.meet τ at) skip (meet_going n d at)
      (skip_going n d)) (λ u.
      then_going n d (ℕ → Option Shape) Value (know parts.private_shapes) _
      (record { by = λ σ same. here d σ same }) (λ private.
      then_going n d Scalar Value
      (x.library_steps τ at (library_call τ.threads τ.shapes τ.number private call shape args)) _
      (run_going n d at (library_call τ.threads τ.shapes τ.number private call shape args)
      (library_runs τ private call shape args))
      (λ v. basic_going.of_give n d Value (value.Scalar v))))

  -- ---- calls

  call_going : (n d : ℕ) (A : Type 0) (at : Place) (m : Doing A) → (d < 1000 → Going n (suc d) A m)
      → Going n d A (begin_call at >> (m >>= (λ v. end_call >> give v)))
  unfolding begin_call end_call
  call_going n d A at m gm = record { by = λ σ same. by_depth (is_deep σ) σ refl same }
    where
      back : (σ : State) (r : Res A) → Leads τ (suc d) σ r
          → Leads τ d σ (bind r (λ v. change (with_live returned) >> give v))
      back σ (Val v υ) h = record {
        deep = returned_depth d υ.store h.deep;
        did = h.did;
        is = h.is;
        closed = h.closed;
      }
      back σ (Over e υ) h = h
      back σ Unfinished h = tt

      -- The private objects that were there have no say in what was done.
      forget : (σ : State) (s : Live) (r : Res A) → Leads τ d (record σ { store = s }) r → Leads τ d σ r
      forget σ s (Val v υ) h = record { deep = h.deep; did = h.did; is = h.is; closed = h.closed }
      forget σ s (Over e υ) h = record { did = h.did; is = h.is; together = h.together }
      forget σ s Unfinished h = tt

      by_depth : (b : Bool) (σ : State) → is_deep σ ≡ b → depth σ.store ≡ d
          → Leads τ d σ (bind (bind (choose b (fault DEPTH at) skip σ) (λ _. change (with_live call_begun)))
          (λ _. m >>= (λ v. change (with_live returned) >> give v)))
      by_depth true σ e same = stops σ
      by_depth false σ e same =
          let υ = with_live call_begun σ in
          forget σ (call_begun σ.store) (bind (m υ) (λ v. change (with_live returned) >> give v))
          (back υ (m υ) ((gm (not_deep d (depth σ.store) e same)).by υ (called_depth σ.store ∙ ap suc same)))

  counted : (k n d : ℕ) (A : Type 0) (m : Doing A) → Going n d A m → Going k d A m
  counted k n d A m l = record { by = λ σ same. l.by σ same }

  pub going : IsKept τ Going
  going = record {
    basic = basic_going;
    of_fewer = λ k n d A m le l. counted k n d A m l;
    of_unfinished = λ d A. record { by = λ σ same. tt };
    of_ask = λ n d kind y plain. ask_going n d kind y (plain_begins_none y plain);
    of_notify = notify_going;
    of_wait = wait_going;
    of_called = called_going;
    of_tick = tick_going;
    of_turn = λ n d A m l. counted (suc n) n d A _ (then_going n d (Unit {0}) A (a.tick τ) _ (tick_going n d) (λ u. l));
    of_call = call_going;
  }
