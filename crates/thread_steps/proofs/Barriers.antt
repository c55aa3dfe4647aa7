-- A notify and a wait do one action each.
use Rattle.std.proofs.Common.{◌≡◌, ℕ, List, [], ◌∷◌, ◌++◌, None, Bool, true, false, refl, ◌⊎◌, inl, inr}
use Rattle.upc_text.specs.declared.place.Place.{Place}
use Rattle.block_layout.specs.declared.run_error.TheConstants.{PHASE_ORDER, BARRIER_IN_FORALL}
use Rattle.upc_values.specs.declared.scalar.Mark.{Mark}
use Rattle.upc_values.specs.declared.action.Action.{Action}
use Rattle.upc_values.specs.declared.action.Action.TheVariants as act
use Rattle.upc_values.specs.declared.action.Reply.{Reply}
use Rattle.upc_values.specs.declared.action.Reply.TheVariants as reply
use Rattle.upc_values.specs.Formed.{fits}
use Rattle.thread_steps.specs.States.{Thread, State, Res, Val, Over, Unfinished, bind, Doing}
use Rattle.thread_steps.specs.layer.Parts.{unless_refused, is_not_notified, is_notified, with_notified, answered_from}
use Rattle.thread_steps.specs.States.{skip, change, choose, fault}
use Rattle.thread_steps.specs.Actions.{ask, answered, does, notify, wait}
use Rattle.thread_steps.specs.Actions.{is_controlled}

-- The action was done, or the thread ended before it or by it.
abbrev pub DoneOnce : Action → State → Res (Unit {0}) → Type 0
DoneOnce a σ (Val u υ) = υ.actions ≡ σ.actions ++ a ∷ []
DoneOnce a σ (Over e υ) = (υ.actions ≡ σ.actions) ⊎ (υ.actions ≡ σ.actions ++ a ∷ [])
DoneOnce a σ Unfinished = ⊥

module _ (τ : Thread) (a : Action) (at : Place) where
  refused_once : (r : Reply) (σ υ : State) → υ.actions ≡ σ.actions ++ a ∷ [] → DoneOnce a σ (unless_refused at r υ)
  refused_once reply.Done σ υ e = e
  refused_once (reply.Value v) σ υ e = e
  refused_once (reply.Flag v) σ υ e = e
  refused_once (reply.Refused code) σ υ e = inr e

  answered_once : (b : Bool) (r : Reply) (rest : List Reply) (σ : State)
      → DoneOnce a σ (bind (answered b a r rest σ) (unless_refused at))
  answered_once true r rest σ = refused_once r σ (record σ { actions = σ.actions ++ a ∷ []; replies = rest }) refl
  answered_once false r rest σ = inl refl

  from_once : (rs : List Reply) (σ : State) → DoneOnce a σ (bind (answered_from τ None a rs σ) (unless_refused at))
  from_once [] σ = inl refl
  from_once (r ∷ rest) σ = answered_once (fits τ.threads τ.shapes None a r) r rest σ

  does_once : (σ : State) → DoneOnce a σ (does τ at a σ)
  unfolding ask
  does_once σ = from_once σ.replies σ

  noted_once : (v : Bool) (σ : State) (r : Res (Unit {0})) → DoneOnce a σ r
      → DoneOnce a σ (bind r (λ _. change (with_notified v)))
  noted_once v σ (Val u υ) h = h
  noted_once v σ (Over e υ) h = h
  noted_once v σ Unfinished h = absurd h

  unless_once : (b : Bool) (code : ℕ) (m : Doing (Unit {0})) (σ : State) → DoneOnce a σ (m σ)
      → DoneOnce a σ (bind (choose b (fault code at) skip σ) (λ _. m))
  unless_once true code m σ h = inl refl
  unless_once false code m σ h = h

module _ (τ : Thread) (at : Place) (mark : Mark) (σ : State) where
  pub notify_once : DoneOnce (act.Notify mark) σ (notify τ at mark σ)
  unfolding notify
  notify_once =
      let a = act.Notify mark in
      unless_once τ a at (is_controlled σ) BARRIER_IN_FORALL _ σ
      (unless_once τ a at (is_notified σ) PHASE_ORDER _ σ
      (noted_once τ a at true σ (does τ at a σ) (does_once τ a at σ)))

  pub wait_once : DoneOnce (act.Wait mark) σ (wait τ at mark σ)
  unfolding wait
  wait_once =
      let a = act.Wait mark in
      unless_once τ a at (is_controlled σ) BARRIER_IN_FORALL _ σ
      (unless_once τ a at (is_not_notified σ) PHASE_ORDER _ σ
      (noted_once τ a at false σ (does τ at a σ) (does_once τ a at σ)))
