-- Memory calls by their arguments.
use Rattle.std.proofs.Common.{◌≡◌, ℕ, pos, true, false, List, [], ◌∷◌, Option, None, refl, sym, ap, ◌∙◌}
use Rattle.std.specs.Prelude.{unsigned_abs, is_some}
use Rattle.block_layout.specs.declared.kind.Shape.{Shape}
use Rattle.upc_values.specs.declared.scalar.Scalar.TheVariants.{Int, Shared, Lock}
use Rattle.upc_values.specs.declared.scalar.Value.{Value}
use Rattle.upc_values.specs.declared.scalar.Value.TheVariants as value
use Rattle.upc_values.specs.declared.library.LibraryCall.{LibraryCall}
use Rattle.upc_values.specs.declared.library.LibraryCall.TheVariants as call
use Rattle.upc_values.specs.LibraryCalls as calls
use Rattle.upc_values.specs.LibraryCalls.{library_call, gives_zero, meet_number}
use Rattle.upc_values.specs.Copying.{Area, copy, set}
use Rattle.integers.specs.Integers.{converted}
use Rattle.block_layout.specs.declared.kind.Kind.TheVariants as kind
use Rattle.upc_text.specs.declared.place.Place.{Place}
use Rattle.thread_steps.specs.States.{Thread, State, bind, give, skip, choose}
use Rattle.thread_steps.specs.Actions.{meet, exit}
use Rattle.thread_steps.specs.Accesses.{library_steps}
use Rattle.thread_steps.specs.Values.{number}
use Rattle.thread_steps.specs.Library.{library, called_library, formed_call, is_formed}
use Rattle.thread_steps.specs.layer.Parts.{first_number, private_shapes, is_exit}
use Rattle.upc_library.specs.layer.Wishes.{area_of}
use Rattle.thread_values.specs.layer.Copies.{copies, side_in, copying_of}

-- ---- the memory calls

-- What holds of the four memory calls holds of each.
pub by_copy : (P : LibraryCall → Type 0) → P call.Memcpy → P call.Memget → P call.Memput → P call.Memset
    → (c : LibraryCall) → copies c ≡ true → P c
by_copy P a b c d call.Memcpy h = a
by_copy P a b c d call.Memget h = b
by_copy P a b c d call.Memput h = c
by_copy P a b c d call.Memset h = d
by_copy P a b c d other h = absurd (cc)

pub copies_no_exit : (c : LibraryCall) → copies c ≡ true → is_exit c ≡ false
copies_no_exit c h = by_copy (λ c. is_exit c ≡ false) refl refl refl refl c h

pub copies_formed : (shapes : List Shape) (shape : ℕ) (args : List Value) (c : LibraryCall) → copies c ≡ true
    → is_formed shapes c shape args ≡ true
copies_formed shapes shape args c h = by_copy (λ c. is_formed shapes c shape args ≡ true) refl refl refl refl c h

pub copies_alone : (c : LibraryCall) → copies c ≡ true → is_some (meet_number c) ≡ true → ⊥
copies_alone c h = by_copy (λ c. is_some (meet_number c) ≡ true → ⊥) (λ e. absurd (cc)) (λ e. absurd (cc)) (λ e. absurd (cc))
    (λ e. absurd (cc)) c h

copies_apart : (c : LibraryCall) → copies c ≡ true → is_some (meet_number c) ≡ false
copies_apart c h = by_copy (λ c. is_some (meet_number c) ≡ false) refl refl refl refl c h

-- ---- by their arguments

area_is : (v : Value) → area_of (side_in v) ≡ calls.area_of v
area_is (value.Scalar (Shared p)) = refl
area_is (value.Scalar (Int n)) = refl
area_is (value.Scalar (Lock l)) = refl
area_is (value.Local p) = refl

module _ (threads : ℕ) (shapes : List Shape) (me shape : ℕ) (private : ℕ → Option Shape) where
  abbrev Means : LibraryCall → List Value → Type 0
  Means c args =
      library_call threads shapes me private c shape args ≡ gives_zero (copying_of threads shapes private c args)

  -- The shape of the private object in which an area lies.
  abbrev there : Area → Option Shape
  there a = calls.private_shape threads shapes me private a

  memcpy_means : (args : List Value) → Means call.Memcpy args
  memcpy_means [] = refl
  memcpy_means (a ∷ []) = refl
  memcpy_means (a ∷ b ∷ []) = refl
  memcpy_means (a ∷ b ∷ value.Scalar (Int n) ∷ []) =
      sym (ap (λ d. gives_zero (copy threads shapes None d (area_of (side_in b)) (unsigned_abs n))) (area_is a)
      ∙ ap (λ s. gives_zero (copy threads shapes None (calls.area_of a) s (unsigned_abs n))) (area_is b))
  memcpy_means (a ∷ b ∷ value.Scalar (Shared n) ∷ []) = refl
  memcpy_means (a ∷ b ∷ value.Scalar (Lock n) ∷ []) = refl
  memcpy_means (a ∷ b ∷ value.Local n ∷ []) = refl
  memcpy_means (a ∷ b ∷ value.Scalar (Int n) ∷ d ∷ args) = refl
  memcpy_means (a ∷ b ∷ value.Scalar (Shared n) ∷ d ∷ args) = refl
  memcpy_means (a ∷ b ∷ value.Scalar (Lock n) ∷ d ∷ args) = refl
  memcpy_means (a ∷ b ∷ value.Local n ∷ d ∷ args) = refl

  memget_means : (args : List Value) → Means call.Memget args
  memget_means [] = refl
  memget_means (a ∷ []) = refl
  memget_means (a ∷ b ∷ []) = refl
  memget_means (a ∷ b ∷ value.Scalar (Int n) ∷ []) =
      sym (ap (λ d. gives_zero (copy threads shapes (there d) d (area_of (side_in b)) (unsigned_abs n))) (area_is a)
      ∙ ap (λ s. gives_zero (copy threads shapes (there (calls.area_of a)) (calls.area_of a) s (unsigned_abs n))) (area_is b))
  memget_means (a ∷ b ∷ value.Scalar (Shared n) ∷ []) = refl
  memget_means (a ∷ b ∷ value.Scalar (Lock n) ∷ []) = refl
  memget_means (a ∷ b ∷ value.Local n ∷ []) = refl
  memget_means (a ∷ b ∷ value.Scalar (Int n) ∷ d ∷ args) = refl
  memget_means (a ∷ b ∷ value.Scalar (Shared n) ∷ d ∷ args) = refl
  memget_means (a ∷ b ∷ value.Scalar (Lock n) ∷ d ∷ args) = refl
  memget_means (a ∷ b ∷ value.Local n ∷ d ∷ args) = refl

  memput_means : (args : List Value) → Means call.Memput args
  memput_means [] = refl
  memput_means (a ∷ []) = refl
  memput_means (a ∷ b ∷ []) = refl
  memput_means (a ∷ b ∷ value.Scalar (Int n) ∷ []) =
      sym (ap (λ d. gives_zero (copy threads shapes (there (area_of (side_in b))) d (area_of (side_in b)) (unsigned_abs n))) (area_is a)
      ∙ ap (λ s. gives_zero (copy threads shapes (there s) (calls.area_of a) s (unsigned_abs n))) (area_is b))
  memput_means (a ∷ b ∷ value.Scalar (Shared n) ∷ []) = refl
  memput_means (a ∷ b ∷ value.Scalar (Lock n) ∷ []) = refl
  memput_means (a ∷ b ∷ value.Local n ∷ []) = refl
  memput_means (a ∷ b ∷ value.Scalar (Int n) ∷ d ∷ args) = refl
  memput_means (a ∷ b ∷ value.Scalar (Shared n) ∷ d ∷ args) = refl
  memput_means (a ∷ b ∷ value.Scalar (Lock n) ∷ d ∷ args) = refl
  memput_means (a ∷ b ∷ value.Local n ∷ d ∷ args) = refl

  memset_means : (args : List Value) → Means call.Memset args
  memset_means [] = refl
  memset_means (a ∷ []) = refl
  memset_means (a ∷ value.Scalar (Int b) ∷ []) = refl
  memset_means (a ∷ value.Scalar (Shared b) ∷ []) = refl
  memset_means (a ∷ value.Scalar (Lock b) ∷ []) = refl
  memset_means (a ∷ value.Local b ∷ []) = refl
  memset_means (a ∷ value.Scalar (Int b) ∷ value.Scalar (Int n) ∷ []) =
      sym (ap (λ d. gives_zero (set threads shapes None d (unsigned_abs (converted kind.UChar b)) (unsigned_abs n))) (area_is a))
  memset_means (a ∷ value.Scalar (Int b) ∷ value.Scalar (Shared n) ∷ []) = refl
  memset_means (a ∷ value.Scalar (Int b) ∷ value.Scalar (Lock n) ∷ []) = refl
  memset_means (a ∷ value.Scalar (Int b) ∷ value.Local n ∷ []) = refl
  memset_means (a ∷ value.Scalar (Int b) ∷ value.Scalar (Int n) ∷ d ∷ args) = refl
  memset_means (a ∷ value.Scalar (Int b) ∷ value.Scalar (Shared n) ∷ d ∷ args) = refl
  memset_means (a ∷ value.Scalar (Int b) ∷ value.Scalar (Lock n) ∷ d ∷ args) = refl
  memset_means (a ∷ value.Scalar (Int b) ∷ value.Local n ∷ d ∷ args) = refl
  memset_means (a ∷ value.Scalar (Shared b) ∷ n ∷ []) = refl
  memset_means (a ∷ value.Scalar (Shared b) ∷ n ∷ d ∷ args) = refl
  memset_means (a ∷ value.Scalar (Lock b) ∷ n ∷ []) = refl
  memset_means (a ∷ value.Scalar (Lock b) ∷ n ∷ d ∷ args) = refl
  memset_means (a ∷ value.Local b ∷ n ∷ []) = refl
  memset_means (a ∷ value.Local b ∷ n ∷ d ∷ args) = refl

  pub means : (args : List Value) (c : LibraryCall) → copies c ≡ true → Means c args
  means args c h =
      by_copy (λ c. Means c args) (memcpy_means args) (memget_means args) (memput_means args) (memset_means args) c h

-- ---- as a step of a thread

module _ (τ : Thread) (at : Place) (σ : State) (c : LibraryCall) (shape : ℕ) (args : List Value) where
  -- A memory call does what its arguments ask for.
  pub copied : copies c ≡ true
      → library τ c shape at args σ
      ≡ bind (library_steps τ at (gives_zero (copying_of τ.threads τ.shapes (private_shapes σ) c args)) σ) (λ v. give (value.Scalar v))
  unfolding library
  copied h =
      ap (λ b. choose b (exit τ (first_number args)) (formed_call τ c shape at args) σ) (copies_no_exit c h)
      ∙ ap (λ b. choose b (called_library τ c shape at args) (give (number (pos 0))) σ)
      (copies_formed τ.shapes shape args c h)
      ∙ ap (λ b. bind (choose b (meet τ at) skip σ)
      (λ _ υ. bind (library_steps τ at (library_call τ.threads τ.shapes τ.number (private_shapes υ) c shape args) υ)
      (λ v. give (value.Scalar v)))) (copies_apart c h)
      ∙ ap (λ x. bind (library_steps τ at x σ) (λ v. give (value.Scalar v)))
      (means τ.threads τ.shapes τ.number shape (private_shapes σ) args c h)
