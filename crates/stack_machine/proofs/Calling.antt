-- Calls of the library that ask for nothing.
use Rattle.std.proofs.Common.{◌≡◌, ℕ, List, Some, None, sym, ap, ◌∙◌, subst}
use Rattle.std.specs.Prelude.{Result, Ok, Err, IfOk, if◌then◌else◌}
use Rattle.upc_text.specs.declared.place.Place.{Place}
use Rattle.upc_values.specs.declared.scalar.Value.{Value}
use Rattle.upc_values.specs.declared.record.ToldEnd.TheVariants.{Fault}
use Rattle.upc_values.specs.declared.library.LibraryCall.{LibraryCall}
use Rattle.upc_values.specs.LibraryCalls.{library_call}
use Rattle.thread_steps.specs.States.{Thread, State, Val, Over}
use Rattle.thread_steps.specs.Library.{library}
use Rattle.thread_steps.specs.layer.Parts.{private_shapes}
use Rattle.thread_values.specs.layer.Results.{asks_nothing, given_at_once}
use Rattle.thread_values.proofs.AtOnce.{gives_at_once}

module _ (τ : Thread) (at : Place) (σ : State) where
  module _ (c : LibraryCall) (shape : ℕ) (args : List Value) (threads : ℕ) (xs : List Value) (answer : Result Value ℕ) where
    -- so by the threads and the arguments that code reads
    read_off : threads ≡ τ.threads → xs ≡ args
        → Some answer ≡ (if asks_nothing c
        then given_at_once (library_call threads τ.shapes τ.number (private_shapes σ) c shape xs) else None)
        → Some answer ≡ (if asks_nothing c
        then given_at_once (library_call τ.threads τ.shapes τ.number (private_shapes σ) c shape args) else None)
    read_off e f h =
        subst (λ l. Some answer ≡ (if asks_nothing c
        then given_at_once (library_call τ.threads τ.shapes τ.number (private_shapes σ) c shape l) else None)) f
        (subst (λ n. Some answer ≡ (if asks_nothing c
        then given_at_once (library_call n τ.shapes τ.number (private_shapes σ) c shape xs) else None)) e h)

    pub err_by : (code : ℕ) → answer ≡ Err code → threads ≡ τ.threads → xs ≡ args
        → Some answer ≡ (if asks_nothing c
        then given_at_once (library_call threads τ.shapes τ.number (private_shapes σ) c shape xs) else None)
        → library τ c shape at args σ ≡ Over (Fault code at) σ
    err_by code q e f h =
        gives_at_once τ at σ c shape args (Err code) (ap Some (sym q) ∙ read_off e f h)

    pub ok_by : (v : Value) → answer ≡ Ok v → threads ≡ τ.threads → xs ≡ args
        → Some answer ≡ (if asks_nothing c
        then given_at_once (library_call threads τ.shapes τ.number (private_shapes σ) c shape xs) else None)
        → library τ c shape at args σ ≡ Val v σ
    ok_by v q e f h = gives_at_once τ at σ c shape args (Ok v) (ap Some (sym q) ∙ read_off e f h)

pub if_ok_at : {A B : Type 0} (r : Result A B) (v : A) (P : A → Type 0) → r ≡ Ok v → IfOk r P → P v
if_ok_at {A} {B} r v P e h = subst (λ (x : Result A B). IfOk x P) e h
