-- Calls of the library that ask for one action at most.
use Rattle.std.proofs.Common.{◌≡◌, ℕ, pos, List, Option, Some, true, false, refl, ap, ◌∙◌}
use Rattle.std.specs.Prelude.{Result, Ok, Err, is_some}
use Rattle.upc_text.specs.declared.place.Place.{Place}
use Rattle.block_layout.specs.declared.kind.Kind.TheVariants as kind
use Rattle.block_layout.specs.declared.kind.Shape.{Shape}
use Rattle.integers.specs.Integers.{converted}
use Rattle.integers.specs.Operators.{truth}
use Rattle.upc_values.specs.declared.action.Reply.{Reply}
use Rattle.upc_values.specs.declared.action.Reply.TheVariants as reply
use Rattle.upc_values.specs.declared.scalar.Scalar.TheVariants.{Int}
use Rattle.upc_values.specs.declared.scalar.Value.{Value}
use Rattle.upc_values.specs.declared.scalar.Value.TheVariants as value
use Rattle.upc_values.specs.declared.library.LibraryCall.{LibraryCall}
use Rattle.upc_values.specs.declared.library.LibraryCall.TheVariants as call
use Rattle.upc_values.specs.Scalars.{zero}
use Rattle.upc_values.specs.LibraryCalls.{library_call, meet_number, given_by}
use Rattle.thread_steps.specs.States.{Thread, State, Val, bind, give, skip, choose, valued}
use Rattle.thread_steps.specs.Actions.{meet, exit}
use Rattle.thread_steps.specs.Accesses.{library_steps, expanded}
use Rattle.thread_steps.specs.Values.{number}
use Rattle.thread_steps.specs.Library.{library, called_library, formed_call, is_formed}
use Rattle.thread_steps.specs.layer.Parts.{first_number, private_shapes, is_exit}
use Rattle.thread_steps.proofs.Thens.{then_same}
use Rattle.thread_values.specs.declared.library.LibraryStep.{LibraryStep}
use Rattle.thread_values.specs.layer.Results.{given_at_once}
use Rattle.thread_values.specs.layer.Asking.{asks_once, expansion_of}

-- What a reply gives.
pub gives : (τ : Thread) (at : Place) (σ : State) (r : Reply) (res : Result Value ℕ)
    → Some res ≡ given_at_once (given_by r)
    → bind (expanded τ at (given_by r) σ) (λ v. give (value.Scalar v)) ≡ valued at res σ
gives τ at σ reply.Done res e =
    let same : Ok (value.Scalar zero) ≡ res = cc in ap (λ (x : Result Value ℕ). valued at x σ) same
gives τ at σ (reply.Value v) res e =
    let same : Ok (value.Scalar v) ≡ res = cc in ap (λ (x : Result Value ℕ). valued at x σ) same
gives τ at σ (reply.Flag b) res e =
    let same : Ok (value.Scalar (Int (converted kind.Int (truth b)))) ≡ res = cc in
    ap (λ (x : Result Value ℕ). valued at x σ) same
gives τ at σ (reply.Refused code) res e =
    let same : Err code ≡ res = cc in ap (λ (x : Result Value ℕ). valued at x σ) same

no_exit : (c : LibraryCall) → asks_once c ≡ true → is_exit c ≡ false
no_exit call.GlobalExit h = absurd (cc)
no_exit c h = refl

module _ (τ : Thread) (at : Place) (σ : State) (c : LibraryCall) (shape : ℕ) (args : List Value) where
  -- A call whose arguments are not its parameters'.
  pub unformed : asks_once c ≡ true → is_formed τ.shapes c shape args ≡ false
      → library τ c shape at args σ ≡ Val (number (pos 0)) σ
  unfolding library
  unformed h e =
      ap (λ b. choose b (exit τ (first_number args)) (formed_call τ c shape at args) σ) (no_exit c h)
      ∙ ap (λ b. choose b (called_library τ c shape at args) (give (number (pos 0))) σ) e

  -- Any other goes on as its step says.
  pub formed : (step : LibraryStep) → asks_once c ≡ true → is_formed τ.shapes c shape args ≡ true
      → ((private : ℕ → Option Shape)
      → library_call τ.threads τ.shapes τ.number private c shape args ≡ expansion_of step)
      → library τ c shape at args σ
      ≡ bind (choose (is_some (meet_number c)) (meet τ at) skip σ)
      (λ _ υ. bind (library_steps τ at (expansion_of step) υ) (λ v. give (value.Scalar v)))
  unfolding library
  formed step h e go =
      ap (λ b. choose b (exit τ (first_number args)) (formed_call τ c shape at args) σ) (no_exit c h)
      ∙ ap (λ b. choose b (called_library τ c shape at args) (give (number (pos 0))) σ) e
      ∙ then_same (choose (is_some (meet_number c)) (meet τ at) skip σ)
      (λ _ υ. bind (library_steps τ at (library_call τ.threads τ.shapes τ.number (private_shapes υ) c shape args) υ)
      (λ v. give (value.Scalar v)))
      (λ _ υ. bind (library_steps τ at (expansion_of step) υ) (λ v. give (value.Scalar v)))
      (λ _ υ. ap (λ x. bind (library_steps τ at x υ) (λ v. give (value.Scalar v))) (go (private_shapes υ)))
