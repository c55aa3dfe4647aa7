-- The steps of a thread by what they make of values, for those who stand on this crate.
use Rattle.std.proofs.Common.{◌≡◌, ℕ, List, Bool, true, false, Some, Result, Ok, Err, refl, ap}
use Rattle.std.proofs.Math.IntN.{ℤ, pos}
use Rattle.std.specs.Prelude.{◌&&◌, int_le, int_lt, if◌then◌else◌}
use Rattle.upc_text.specs.declared.place.Place.{Place}
use Rattle.block_layout.specs.declared.kind.Kind.{Kind}
use Rattle.block_layout.specs.declared.kind.Kind.TheVariants as kind
use Rattle.integers.specs.declared.operator.BinOp.{BinOp}
use Rattle.integers.specs.declared.operator.UnOp.{UnOp}
use Rattle.integers.specs.Integers.{converted}
use Rattle.integers.specs.Operators.{binary_of, unary_of}
use Rattle.upc_values.specs.declared.library.LibraryCall.{LibraryCall}
use Rattle.upc_values.specs.declared.library.LibraryCall.TheVariants.{ThreadOf, PhaseOf, AddressField, AffinitySize}
use Rattle.upc_values.specs.declared.scalar.Scalar.{Scalar}
use Rattle.upc_values.specs.declared.scalar.Value.{Value}
use Rattle.upc_values.specs.declared.scalar.Value.TheVariants as value
use Rattle.upc_values.specs.Expansion.{Expansion, Gives, Fails, Reads, Asks, Loads, Stores}
use Rattle.upc_values.specs.LibraryCalls.{library_call}
use Rattle.thread_steps.specs.declared.elements.Elements.{Elements}
use Rattle.thread_steps.specs.States.{Thread, State, ◌>>=◌, give, valued, skip, choose, fault}
use Rattle.thread_steps.specs.Values.{number, number_of}
use Rattle.thread_steps.specs.Operators.{operate, apply}
use Rattle.thread_steps.specs.Pointers.{difference, order, apart, in_row}
use Rattle.thread_steps.specs.layer.Parts.{outside, private_shapes}
use Rattle.thread_steps.specs.Accesses.{library_steps}
use Rattle.thread_steps.specs.Library.{library}
use Rattle.thread_values.specs.layer.Results.{number_value, operated, applied, ordered, row_test, asks_nothing, given_at_once}

-- A number, or a run error, becomes a value, or the same run error.
given : (at : Place) (r : Result ℤ ℕ) (σ : State)
    → (valued at r >>= (λ v. give (number v))) σ ≡ valued at (number_value r) σ
given at (Ok v) σ = refl
given at (Err code) σ = refl

-- `operate` gives what `operated` says.
pub operates : (op : BinOp) (left right : Kind) (at : Place) (a b : Value) (σ : State)
    → operate op left right at a b σ ≡ valued at (operated op left right a b) σ
unfolding operate
operates op left right at a b σ =
    given at (binary_of op left (converted left (number_of a)) (converted right (number_of b))) σ

-- `apply` gives what `applied` says.
pub applies : (op : UnOp) (kind : Kind) (at : Place) (a : Value) (σ : State)
    → apply op kind at a σ ≡ valued at (applied op kind a) σ
unfolding apply
applies op kind at a σ = given at (unary_of op kind (converted kind (number_of a))) σ

-- `q - p` is the number of elements apart.
pub differs : (τ : Thread) (ε : Elements) (at : Place) (q p : Value) (σ : State)
    → difference τ ε at q p σ ≡ valued at (number_value (apart τ ε q p)) σ
unfolding difference
differs τ ε at q p σ = given at (apart τ ε q p) σ

-- `q < p` and its kin give what `ordered` says.
pub orders : (τ : Thread) (op : BinOp) (ε : Elements) (at : Place) (q p : Value) (σ : State)
    → order τ op ε at q p σ ≡ valued at (ordered op (apart τ ε q p)) σ
unfolding order
orders τ op ε at q p σ = against (apart τ ε q p)
  where
    against : (r : Result ℤ ℕ)
        → (valued at r >>= (λ x. valued at (binary_of op kind.Long x (pos 0)) >>= (λ y. give (number y)))) σ
        ≡ valued at (ordered op r) σ
    against (Ok x) = given at (binary_of op kind.Long x (pos 0)) σ
    against (Err code) = refl

-- `in_row` goes on where `row_test` does.
pub lies_in_row : (count : ℕ) (at : Place) (p : Value) (i : ℤ) (σ : State)
    → in_row count at p i σ ≡ valued at (row_test count p i) σ
lies_in_row count at p i σ = tested (int_le (pos 0) i && int_lt i (pos count))
  where
    tested : (b : Bool) → choose b skip (fault (outside p) at) σ ≡ valued at (if b then Ok tt else Err (outside p)) σ
    tested true = refl
    tested false = refl

-- An expansion that gives at once.
ended : (τ : Thread) (at : Place) (x : Expansion Scalar) (r : Result Value ℕ) (σ : State) → Some r ≡ given_at_once x
    → (library_steps τ at x >>= (λ v. give (value.Scalar v))) σ ≡ valued at r σ
unfolding library_steps
ended τ at (Gives v) r σ e =
    let same : Ok (value.Scalar v) ≡ r = cc in
    ap (λ (x : Result Value ℕ). valued at x σ) same
ended τ at (Fails code) r σ e =
    let same : Err code ≡ r = cc in
    ap (λ (x : Result Value ℕ). valued at x σ) same
ended τ at (Reads l k after) r σ e = absurd (cc)
ended τ at (Asks a after) r σ e = absurd (cc)
ended τ at (Loads p k after) r σ e = absurd (cc)
ended τ at (Stores p k v after) r σ e = absurd (cc)

-- A call of the library that asks for nothing gives what its expansion gives at once.
pub library-at_once : (τ : Thread) (call : LibraryCall) (shape : ℕ) (at : Place) (args : List Value) (σ : State)
    (r : Result Value ℕ) → asks_nothing call ≡ true
    → Some r ≡ given_at_once (library_call τ.threads τ.shapes τ.number (private_shapes σ) call shape args)
    → library τ call shape at args σ ≡ valued at r σ
unfolding library library_steps
library-at_once τ ThreadOf shape at args σ r h e =
    ended τ at (library_call τ.threads τ.shapes τ.number (private_shapes σ) ThreadOf shape args) r σ e
library-at_once τ PhaseOf shape at args σ r h e =
    ended τ at (library_call τ.threads τ.shapes τ.number (private_shapes σ) PhaseOf shape args) r σ e
library-at_once τ AddressField shape at args σ r h e =
    ended τ at (library_call τ.threads τ.shapes τ.number (private_shapes σ) AddressField shape args) r σ e
library-at_once τ AffinitySize shape at args σ r h e =
    ended τ at (library_call τ.threads τ.shapes τ.number (private_shapes σ) AffinitySize shape args) r σ e
library-at_once τ call shape at args σ r h e = absurd (cc)
