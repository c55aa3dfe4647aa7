-- Calls of the library that ask for one action at most.
use Rattle.std.proofs.Common.{◌≡◌, ℕ, List, Option, Some, None, Bool, true, ap, sym, ◌∙◌, subst}
use Rattle.std.specs.Prelude.{Result, Ok, Err, is_some, IfSome}
use Rattle.upc_text.specs.declared.place.Place.{Place}
use Rattle.block_layout.specs.declared.kind.Shape.{Shape}
use Rattle.upc_values.specs.declared.action.Action.{Action}
use Rattle.upc_values.specs.declared.action.Reply.{Reply}
use Rattle.upc_values.specs.declared.record.ToldEnd.{ToldEnd}
use Rattle.upc_values.specs.declared.record.ToldEnd.TheVariants.{Fault}
use Rattle.upc_values.specs.declared.scalar.Value.{Value}
use Rattle.upc_values.specs.declared.scalar.Value.TheVariants as value
use Rattle.upc_values.specs.declared.library.LibraryCall.{LibraryCall}
use Rattle.upc_values.specs.LibraryCalls.{library_call, meet_number, asks, given_by}
use Rattle.thread_steps.specs.States.{Thread, State, Val, Over, bind, give, valued}
use Rattle.thread_steps.specs.Actions.{ask}
use Rattle.thread_steps.specs.Accesses.{library_steps, expanded}
use Rattle.thread_steps.specs.Library.{library, is_formed}
use Rattle.thread_values.specs.declared.library.LibraryStep.{LibraryStep}
use Rattle.thread_values.specs.layer.Results.{given_at_once}
use Rattle.thread_values.specs.layer.Asking.{asks_once, expansion_of, DoesSoThere}
use Rattle.thread_values.proofs.Asking.{gives}
use Rattle.thread_values.proofs.Asking as asking
use Rattle.upc_meaning_state.specs.layer.Libraries.{expanded_to, met_then}

-- ---- one action

module _ (τ : Thread) (at : Place) (a : Action) (σ υ : State) where
  pub asked : (r : Reply) (res : Result Value ℕ) → ask τ None a σ ≡ Val r υ → Some res ≡ given_at_once (given_by r)
      → expanded_to τ at (asks a) σ ≡ valued at res υ
  unfolding library_steps
  asked r res h e =
      ap (λ x. bind (bind x (λ y. expanded τ at (given_by y))) (λ v. give (value.Scalar v))) h ∙ gives τ at υ r res e

  pub asked_ends : (over : ToldEnd) → ask τ None a σ ≡ Over over υ → expanded_to τ at (asks a) σ ≡ Over over υ
  unfolding library_steps
  asked_ends over h =
      ap (λ x. bind (bind x (λ y. expanded τ at (given_by y))) (λ v. give (value.Scalar v))) h

  pub asked_gives : (r : Reply) (v : Value) → ask τ None a σ ≡ Val r υ → Some (Ok v) ≡ given_at_once (given_by r)
      → expanded_to τ at (asks a) σ ≡ Val v υ
  asked_gives r v h e = asked r (Ok v) h e

  pub asked_fails : (r : Reply) (code : ℕ) → ask τ None a σ ≡ Val r υ → Some (Err code) ≡ given_at_once (given_by r)
      → expanded_to τ at (asks a) σ ≡ Over (Fault code at) υ
  asked_fails r code h e = asked r (Err code) h e

-- ---- calls

module _ (τ : Thread) (at : Place) (σ : State) (c : LibraryCall) (shape : ℕ) (args : List Value) where
  -- A call goes on as its step says, where its arguments are its parameters'.
  pub formed : (step : LibraryStep) (b : Bool) → asks_once c ≡ true → is_formed τ.shapes c shape args ≡ true
      → ((private : ℕ → Option Shape)
      → library_call τ.threads τ.shapes τ.number private c shape args ≡ expansion_of step)
      → b ≡ is_some (meet_number c)
      → library τ c shape at args σ ≡ met_then b τ at (expansion_of step) σ
  formed step b h e go is =
      asking.formed τ at σ c shape args step h e go ∙ ap (λ x. met_then x τ at (expansion_of step) σ) (sym is)

  pub step_does : (o : Option LibraryStep) (step : LibraryStep) → o ≡ Some step
      → IfSome o (DoesSoThere τ.threads τ.shapes τ.number shape c args)
      → DoesSoThere τ.threads τ.shapes τ.number shape c args step
  step_does o step is h =
      subst (λ (x : Option LibraryStep). IfSome x (DoesSoThere τ.threads τ.shapes τ.number shape c args)) is h
