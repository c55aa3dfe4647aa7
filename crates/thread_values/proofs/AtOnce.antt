-- Calls of the library that ask for nothing.
use Rattle.std.proofs.Common.{◌≡◌, ℕ, pos, List, Option, Some, None, Bool, true, false, refl, ap, ◌∙◌}
use Rattle.std.specs.Prelude.{Result, Ok, Err, is_some, if◌then◌else◌}
use Rattle.upc_text.specs.declared.place.Place.{Place}
use Rattle.block_layout.specs.declared.kind.Shape.{Shape}
use Rattle.upc_values.specs.declared.scalar.Scalar.{Scalar}
use Rattle.upc_values.specs.declared.scalar.Value.{Value}
use Rattle.upc_values.specs.declared.scalar.Value.TheVariants as value
use Rattle.upc_values.specs.declared.library.LibraryCall.{LibraryCall}
use Rattle.upc_values.specs.declared.library.LibraryCall.TheVariants as call
use Rattle.upc_values.specs.Expansion.{Expansion, Gives, Fails, Reads, Asks, Loads, Stores}
use Rattle.upc_values.specs.LibraryCalls.{library_call, meet_number}
use Rattle.thread_steps.specs.States.{Thread, State, Res, bind, give, skip, choose, valued}
use Rattle.thread_steps.specs.Actions.{meet, exit}
use Rattle.thread_steps.specs.Accesses.{library_steps}
use Rattle.thread_steps.specs.Values.{number}
use Rattle.thread_steps.specs.Library.{library, called_library, formed_call, is_formed}
use Rattle.thread_steps.specs.layer.Parts.{first_number, private_shapes, is_exit}
use Rattle.thread_values.specs.layer.Results.{asks_nothing, given_at_once}

plain_call : (shapes : List Shape) (shape : ℕ) (args : List Value) (c : LibraryCall) → asks_nothing c ≡ true
    → (is_exit c ≡ false) × (is_formed shapes c shape args ≡ true) × (is_some (meet_number c) ≡ false)
plain_call shapes shape args call.ThreadOf h = (refl, refl, refl)
plain_call shapes shape args call.PhaseOf h = (refl, refl, refl)
plain_call shapes shape args call.AddressField h = (refl, refl, refl)
plain_call shapes shape args call.AffinitySize h = (refl, refl, refl)
plain_call shapes shape args c h = absurd (cc)

some_if : {X : Type 0} (b : Bool) (o : Option X) (x : X) → Some x ≡ (if b then o else None) → (b ≡ true) × (Some x ≡ o)
some_if true o x h = (refl, h)
some_if false o x h = absurd (cc)

module _ (τ : Thread) (at : Place) (σ : State) where
  going : Expansion Scalar → Res Value
  going x = bind (library_steps τ at x σ) (λ v. give (value.Scalar v))

  goes_so : (x : Expansion Scalar) (r : Result Value ℕ) → Some r ≡ given_at_once x → going x ≡ valued at r σ
  unfolding going library_steps
  goes_so (Gives v) r h = let same : Ok (value.Scalar v) ≡ r = cc in ap (λ (y : Result Value ℕ). valued at y σ) same
  goes_so (Fails code) r h = let same : Err code ≡ r = cc in ap (λ (y : Result Value ℕ). valued at y σ) same
  goes_so (Reads l k after) r h = absurd (cc)
  goes_so (Asks a after) r h = absurd (cc)
  goes_so (Loads p k after) r h = absurd (cc)
  goes_so (Stores p k v after) r h = absurd (cc)

  module _ (c : LibraryCall) (shape : ℕ) (args : List Value) where
    comes_to : Expansion Scalar
    comes_to = library_call τ.threads τ.shapes τ.number (private_shapes σ) c shape args

    behind_meet : Bool → Res Value
    behind_meet b = bind (choose b (meet τ at) skip σ) (λ _ υ.
        bind (library_steps τ at (library_call τ.threads τ.shapes τ.number (private_shapes υ) c shape args) υ)
        (λ v. give (value.Scalar v)))

    library_is : asks_nothing c ≡ true → library τ c shape at args σ ≡ going comes_to
    unfolding library going comes_to behind_meet
    library_is h =
        let p = plain_call τ.shapes shape args c h in
        ap (λ b. choose b (exit τ (first_number args)) (formed_call τ c shape at args) σ) p.0
        ∙ ap (λ b. choose b (called_library τ c shape at args) (give (number (pos 0))) σ) p.1
        ∙ ap behind_meet p.2

    -- What such a call gives, by what is found of its expansion.
    pub gives_at_once : (r : Result Value ℕ)
        → Some r ≡ (if asks_nothing c
        then given_at_once (library_call τ.threads τ.shapes τ.number (private_shapes σ) c shape args) else None)
        → library τ c shape at args σ ≡ valued at r σ
    unfolding comes_to
    gives_at_once r h =
        let s = some_if (asks_nothing c) (given_at_once comes_to) r h in
        library_is s.0 ∙ goes_so comes_to r s.1
