-- What ticks, barriers, blocks and calls bring: they leave the cells of private objects with values that fit them.
use Rattle.std.proofs.Common.{◌≡◌, ℕ, suc, ◌%◌, ◌==◌, Bool, true, false, List, None, refl, subst}
use Rattle.std.specs.Prelude.{pred}
use Rattle.upc_text.specs.declared.place.Place.{Place}
use Rattle.block_layout.specs.declared.kind.Shape.{Shape}
use Rattle.block_layout.specs.declared.run_error.TheConstants.{PHASE_ORDER, BARRIER_IN_FORALL, PRIVATE_SPACE, DEPTH}
use Rattle.upc_values.specs.declared.scalar.Value.{Value}
use Rattle.upc_values.specs.declared.scalar.Mark.{Mark}
use Rattle.upc_values.specs.declared.action.Action.{Action}
use Rattle.upc_values.specs.declared.action.Action.TheVariants as act
use Rattle.upc_values.specs.declared.action.Reply.{Reply}
use Rattle.upc_values.specs.declared.action.Reply.TheVariants as reply
use Rattle.upc_values.specs.declared.record.ToldEnd.TheVariants as told
use Rattle.private_store.specs.Live.{Live, entered, left, call_begun, returned, controls}
use Rattle.thread_steps.specs.States.{Res, Val, Over, Unfinished, bind, Doing, ◌>>=◌, give}
use Rattle.private_store.specs.declared.frame.Call.{Call}
use Rattle.thread_steps.specs.States.{Thread, State, ◌>>◌, skip, know, change, choose, over, fault}
use Rattle.thread_steps.specs.layer.Parts as parts
use Rattle.thread_steps.specs.States.{fault_if, valued}
use Rattle.thread_steps.specs.Actions as a
use Rattle.thread_steps.specs.Blocks as b
use Rattle.meaning_laws.specs.layer.Values.{IsFilled, Comes, Brings}
use Rattle.meaning_laws.proofs.Calls.{left_calls, call_back, control_back}
use Rattle.meaning_laws.proofs.Steps.{between_brings}
use Rattle.meaning_laws.proofs.Steps.{Any, give_brings, skip_brings, over_brings, first_brings, choose_brings}
use Rattle.meaning_laws.proofs.Steps.{valued_brings, any_result, Answers, ask_brings}
use Rattle.meaning_laws.proofs.Stores.{entered_filled, left_filled, returned_filled, recounted_filled}

pub know_brings : {A : Type 0} (f : State → A) → Brings A Any (know f)
know_brings f = record { by = λ σ i. (tt, i, refl) }

change_brings : (f : State → State) → ((σ : State) → IsFilled σ.store → IsFilled (f σ).store)
    → ((σ : State) → (f σ).store.calls ≡ σ.store.calls) → Brings (Unit {0}) Any (change f)
change_brings f h k = record { by = λ σ i. (tt, h σ i, k σ) }

live_brings : (f : Live → Live) → ((s : Live) → IsFilled s → IsFilled (f s)) → ((s : Live) → (f s).calls ≡ s.calls)
    → Brings (Unit {0}) Any (change (b.with_live f))
live_brings f h k = change_brings (b.with_live f) (λ σ i. h σ.store i) (λ σ. k σ.store)

pub fault_if_brings : (test : State → Bool) (code : ℕ) (at : Place) → Brings (Unit {0}) Any (fault_if test code at)
fault_if_brings test code at = record { by = λ σ i. tested (test σ) σ i }
  where
    tested : (c : Bool) (σ : State) → IsFilled σ.store
        → Comes Any σ.store.calls (choose c (fault code at) skip σ)
    tested true σ i = tt
    tested false σ i = (tt, i, refl)

-- ---- blocks and calls

pub open_brings : (from : ℕ) (shapes : List Shape) (at : Place)
    → Brings (Unit {0}) Any (b.open_block from shapes at)
unfolding b.open_block
open_brings from shapes at =
    first_brings Any Any (fault_if (parts.is_too_large shapes) PRIVATE_SPACE at) _
    (fault_if_brings (parts.is_too_large shapes) PRIVATE_SPACE at) (λ u v.
    live_brings (entered from shapes) (λ s i. entered_filled from shapes s i) (λ s. refl))

pub close_brings : Brings (Unit {0}) Any b.close_block
unfolding b.close_block
close_brings = live_brings left (λ s i. left_filled s i) left_calls

-- A test, a change of the private objects, and what is done then.
tested_brings : {A : Type 0} (V : A → Type 0) (test : Doing (Unit {0})) (f : Live → Live) (rest : Doing A)
    → Brings (Unit {0}) Any test → Brings A V (change (b.with_live f) >> rest)
    → Brings A V ((test >> change (b.with_live f)) >> rest)
tested_brings V test f rest h g = record { by = λ σ i. in_result σ.store.calls (test σ) (h.by σ i) }
  where
    in_result : (calls : List Call) (r : Res (Unit {0})) → Comes Any calls r
        → Comes V calls (bind (bind r (λ u. change (b.with_live f))) (λ u. rest))
    in_result calls (Val u υ) c =
        subst (λ (cs : List Call). Comes V cs ((change (b.with_live f) >> rest) υ)) c.2 (g.by υ c.1)
    in_result calls (Over end υ) c = tt
    in_result calls Unfinished c = tt

-- What is done in a call.
pub call_brings : {A : Type 0} (V : A → Type 0) (at : Place) (m : Doing A) → Brings A V m
    → Brings A V (b.begin_call at >> (m >>= (λ v. b.end_call >> give v)))
unfolding b.begin_call b.end_call
call_brings V at m h =
    tested_brings V (fault_if parts.is_deep DEPTH at) call_begun (m >>= (λ v. change (b.with_live returned) >> give v))
    (fault_if_brings parts.is_deep DEPTH at)
    (between_brings V V call_begun returned m (λ w. w) (λ s i. i) (λ s i. returned_filled s i) call_back h (λ w g. g))

-- What is done in a controlling body.
pub controlled_brings : {A B : Type 0} (V : A → Type 0) (W : B → Type 0) (m : Doing A) (f : A → B) → Brings A V m
    → ((v : A) → V v → W (f v)) → Brings B W (b.control >> (m >>= (λ v. b.release >> give (f v))))
unfolding b.control b.release
controlled_brings V W m f h g =
    between_brings V W parts.one_more parts.one_less m f (λ s i. recounted_filled (suc (controls s)) s i)
    (λ s i. recounted_filled (pred (controls s)) s i) control_back h g

pub any_local : (n : ℕ) → Brings Value Any (b.local_object n)
unfolding b.local_object
any_local n = know_brings _

-- ---- actions

module _ (τ : Thread) where
  unless_brings : (at : Place) (r : Reply) → Brings (Unit {0}) Any (parts.unless_refused at r)
  unless_brings at reply.Done = skip_brings
  unless_brings at (reply.Value v) = skip_brings
  unless_brings at (reply.Flag v) = skip_brings
  unless_brings at (reply.Refused code) = over_brings Any (fault code at) (λ σ. tt)

  does_brings : (at : Place) (action : Action) → Brings (Unit {0}) Any (a.does τ at action)
  does_brings at action =
      first_brings (Answers τ None action) Any (a.ask τ None action) _ (ask_brings τ None action)
      (λ r h. unless_brings at r)

  asked_brings : (action : Action) → Brings (Unit {0}) Any (a.ask τ None action >> skip)
  asked_brings action =
      first_brings (Answers τ None action) Any (a.ask τ None action) _ (ask_brings τ None action) (λ r h. skip_brings)

  pub tick_brings : Brings (Unit {0}) Any (a.tick τ)
  unfolding a.tick
  tick_brings =
      first_brings Any Any (change parts.with_tick) _ (change_brings parts.with_tick (λ σ i. i) (λ σ. refl)) (λ u v.
      first_brings Any Any (know parts.ticks_of) _ (know_brings parts.ticks_of) (λ n w.
      first_brings Any Any (choose (n % 1024 == 0) (a.ask τ None act.Beat >> skip) skip) _
      (choose_brings Any (n % 1024 == 0) (a.ask τ None act.Beat >> skip) skip (asked_brings act.Beat) skip_brings)
      (λ x y.
      choose_brings Any (n == τ.budget) (over told.OutOfTicks) skip (over_brings Any (over told.OutOfTicks) (λ σ. tt))
      skip_brings)))

  pub notify_brings : (at : Place) (mark : Mark) → Brings (Unit {0}) Any (a.notify τ at mark)
  unfolding a.notify
  notify_brings at mark =
      first_brings Any Any (fault_if a.is_controlled BARRIER_IN_FORALL at) _
      (fault_if_brings a.is_controlled BARRIER_IN_FORALL at) (λ u v.
      first_brings Any Any (fault_if parts.is_notified PHASE_ORDER at) _
      (fault_if_brings parts.is_notified PHASE_ORDER at)
      (λ w x.
      first_brings Any Any (a.does τ at (act.Notify mark)) _ (does_brings at (act.Notify mark)) (λ y z.
      change_brings (parts.with_notified true) (λ σ i. i) (λ σ. refl))))

  pub wait_brings : (at : Place) (mark : Mark) → Brings (Unit {0}) Any (a.wait τ at mark)
  unfolding a.wait
  wait_brings at mark =
      first_brings Any Any (fault_if a.is_controlled BARRIER_IN_FORALL at) _
      (fault_if_brings a.is_controlled BARRIER_IN_FORALL at) (λ u v.
      first_brings Any Any (fault_if parts.is_not_notified PHASE_ORDER at) _
      (fault_if_brings parts.is_not_notified PHASE_ORDER at) (λ w x.
      first_brings Any Any (a.does τ at (act.Wait mark)) _ (does_brings at (act.Wait mark)) (λ y z.
      change_brings (parts.with_notified false) (λ σ i. i) (λ σ. refl))))

  pub fence_brings : Brings (Unit {0}) Any (a.fence τ)
  unfolding a.fence
  fence_brings = asked_brings act.Fence

  pub mine_brings : (at : Place) (v : Value) → Brings Value Any (b.mine τ at v)
  unfolding b.mine
  mine_brings at v =
      first_brings Any Any (valued at (b.has_turn τ v)) _ (valued_brings Any at (b.has_turn τ v) (any_result
      (b.has_turn τ v)))
      (λ c h. give_brings Any _ tt)
