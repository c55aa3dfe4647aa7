-- Calls of the library that ask for nothing, and the one that ends the thread.
use Rattle.std.proofs.Common.{◌≡◌, ℕ, ℤ, List, Option, Some, None, true, sym, ap, ◌∙◌}
use Rattle.std.specs.Prelude.{Result, Ok, Err, if◌then◌else◌}
use Rattle.upc_text.specs.declared.place.Place.{Place}
use Rattle.block_layout.specs.declared.kind.Shape.{Shape}
use Rattle.upc_values.specs.declared.scalar.Value.{Value}
use Rattle.upc_values.specs.declared.record.ToldEnd.TheVariants.{Fault}
use Rattle.upc_values.specs.declared.library.LibraryCall.{LibraryCall}
use Rattle.upc_values.specs.LibraryCalls.{library_call}
use Rattle.thread_steps.specs.States.{Thread, State, Val, Over, choose, valued}
use Rattle.thread_steps.specs.Actions.{exit}
use Rattle.thread_steps.specs.Library.{library, formed_call}
use Rattle.thread_steps.specs.layer.Parts.{first_number, private_shapes, is_exit}
use Rattle.thread_values.specs.layer.Results.{asks_nothing, given_at_once}
use Rattle.thread_values.proofs.AtOnce as once

-- What a call gives at once, whatever the shapes, the thread and its private objects are.
abbrev pub IsAnswer : (threads : ℕ) → LibraryCall → List Value → Option (Result Value ℕ) → Type 0
IsAnswer threads c args o =
    (shapes : List Shape) (me : ℕ) (private : ℕ → Option Shape) (shape : ℕ)
    → o ≡ (if asks_nothing c then given_at_once (library_call threads shapes me private c shape args) else None)

module _ (τ : Thread) (at : Place) (σ : State) (c : LibraryCall) (shape : ℕ) (args : List Value) where
  answered : (r : Result Value ℕ) → IsAnswer τ.threads c args (Some r) → library τ c shape at args σ ≡ valued at r σ
  answered r h = once.gives_at_once τ at σ c shape args r (h τ.shapes τ.number (private_shapes σ) shape)

  pub gives_at_once : (r : Result Value ℕ) (v : Value) → r ≡ Ok v → IsAnswer τ.threads c args (Some r)
      → library τ c shape at args σ ≡ Val v σ
  gives_at_once r v is h = answered r h ∙ ap (λ (x : Result Value ℕ). valued at x σ) is

  pub fails_at_once : (r : Result Value ℕ) (code : ℕ) → r ≡ Err code → IsAnswer τ.threads c args (Some r)
      → library τ c shape at args σ ≡ Over (Fault code at) σ
  fails_at_once r code is h = answered r h ∙ ap (λ (x : Result Value ℕ). valued at x σ) is

  pub exit_is : (v : ℤ) → is_exit c ≡ true → v ≡ first_number args → library τ c shape at args σ ≡ exit τ v σ
  unfolding library
  exit_is v is same =
      ap (λ b. choose b (exit τ (first_number args)) (formed_call τ c shape at args) σ) is
      ∙ ap (λ n. exit τ n σ) (sym same)
