-- What calls of the library bring.
use Rattle.std.proofs.Common.{◌≡◌, ℕ, zero, suc, ◌==◌, nat_lt, ◌*◌, Bool, true, false, not, ◌&&◌, ◌||◌, cond, List}
use Rattle.std.proofs.Common.{[], ◌∷◌, Option, Some, None, refl, sym, subst}
use Rattle.std.proofs.Math.IntN.{ℤ, pos, negsuc}
use Rattle.std.specs.Prelude.{if◌then◌else◌, is_some, unsigned_abs, nat_le, slice_get}
use Rattle.std.proofs.lemmas.Bool.{false≢true, and_parts}
use Rattle.upc_text.specs.declared.place.Place.{Place}
use Rattle.block_layout.specs.declared.kind.Kind.TheVariants as kind
use Rattle.block_layout.specs.declared.kind.Shape.{Shape}
use Rattle.block_layout.specs.declared.run_error.TheConstants.{PHASE_ORDER, BARRIER_IN_FORALL}
use Rattle.block_layout.specs.declared.run_error.TheConstants.{NULL_ACCESS, CELL_TYPE, LIBRARY_ARGS}
use Rattle.block_layout.specs.Pieces.{piece_of}
use Rattle.block_layout.specs.Pointers.{null}
use Rattle.upc_values.specs.declared.scalar.Scalar.{Scalar}
use Rattle.upc_values.specs.declared.scalar.Scalar.TheVariants.{Int, Shared, Lock}
use Rattle.upc_values.specs.declared.scalar.Value.{Value}
use Rattle.upc_values.specs.declared.scalar.Value.TheVariants as value
use Rattle.upc_values.specs.declared.action.Action.TheVariants as act
use Rattle.upc_values.specs.declared.action.Reply.{Reply}
use Rattle.upc_values.specs.declared.action.Reply.TheVariants as reply
use Rattle.upc_values.specs.declared.record.ToldEnd.TheVariants as told
use Rattle.upc_values.specs.declared.library.LibraryCall.{LibraryCall}
use Rattle.upc_values.specs.declared.library.LibraryCall.TheVariants as c
use Rattle.upc_values.specs.Expansion.{Expansion, Gives, Fails, Reads, Asks, Loads, Stores}
use Rattle.upc_values.specs.Calls as calls
use Rattle.upc_values.specs.Calls.{is_size}
use Rattle.upc_values.specs.Formed.{is_pointer, is_whole, fits_call}
use Rattle.upc_values.specs.Expansions.{is_large}
use Rattle.upc_values.specs.LibraryCalls as call
use Rattle.upc_values.specs.LibraryCalls.{library_call, meet_number}
use Rattle.upc_types.specs.Types.{Structs}
use Rattle.typing_rules.specs.Library.{call_result}
use Rattle.thread_steps.specs.States.{Thread, give, skip, know, choose, over}
use Rattle.thread_steps.specs.States.{fault_if}
use Rattle.thread_steps.specs.Values.{number, scalar_of}
use Rattle.thread_steps.specs.Actions as a
use Rattle.thread_steps.specs.layer.Parts as parts
use Rattle.thread_steps.specs.Accesses as x
use Rattle.thread_steps.specs.Library as l
use Rattle.meaning_laws.specs.layer.Values.{IsNumber, IsOf, Brings}
use Rattle.meaning_laws.proofs.Steps.{Any, give_brings, skip_brings, over_brings, first_brings, weaker_brings}
use Rattle.meaning_laws.proofs.Steps.{choose_brings, Answers, ask_brings}
use Rattle.meaning_laws.proofs.Operations.{Fits, or_first, read_brings, load_private_brings, save_private_brings}
use Rattle.meaning_laws.proofs.Going.{know_brings, fault_if_brings}

-- A call that allocates nothing, makes no lock and is no printf.
abbrev pub IsPlainCall : LibraryCall → Type 0
IsPlainCall c.Printf = ⊥
IsPlainCall c.GlobalAlloc = ⊥
IsPlainCall c.AllAlloc = ⊥
IsPlainCall c.Alloc = ⊥
IsPlainCall c.GlobalLockAlloc = ⊥
IsPlainCall c.AllLockAlloc = ⊥
IsPlainCall call_ = Unit {0}

-- These are so many integers.
abbrev pub AreNumbers : ℕ → List Value → Type 0
AreNumbers zero [] = Unit {0}
AreNumbers zero (v ∷ vs) = ⊥
AreNumbers (suc n) [] = ⊥
AreNumbers (suc n) (v ∷ vs) = IsNumber v × AreNumbers n vs

module _ (τ : Thread) where
  -- Whatever value a call of the library ends with passes, where each reply fits its action.
  abbrev EndsIn : {A : Type 0} → (A → Type 0) → Expansion A → Type 0
  EndsIn V (Gives v) = V v
  EndsIn V (Fails code) = Unit {0}
  EndsIn V (Reads l kind after) = (v : Scalar) → EndsIn V (after v)
  EndsIn V (Asks action after) = (r : Reply) → Answers τ None action r → EndsIn V (after r)
  EndsIn V (Loads q kind after) = (v : Scalar) → EndsIn V (after v)
  EndsIn V (Stores q kind v after) = EndsIn V after

  expanded_brings : {A : Type 0} (V : A → Type 0) (at : Place) (e : Expansion A) → EndsIn V e
      → Brings A V (x.expanded τ at e)
  expanded_brings V at (Gives v) h = give_brings V v h
  expanded_brings V at (Fails code) h = over_brings V _ (λ σ. tt)
  expanded_brings V at (Reads l kind after) h =
      first_brings _ V (x.read τ kind false l) _ (read_brings τ kind false l) (λ v g.
      expanded_brings V at (after v) (h v))
  expanded_brings V at (Asks action after) h =
      first_brings (Answers τ None action) V (a.ask τ None action) _ (ask_brings τ None action) (λ r g.
      expanded_brings V at (after r) (h r g))
  expanded_brings V at (Loads q kind after) h =
      first_brings _ V (x.load_private kind at q) _ (load_private_brings τ kind false at q) (λ v g.
      expanded_brings V at (after (scalar_of v)) (h (scalar_of v)))
  expanded_brings V at (Stores q kind v after) h =
      first_brings Any V (x.save_private kind at q (value.Scalar v)) _
      (save_private_brings τ kind at q (value.Scalar v)) (λ u g. expanded_brings V at after h)

  run_brings : {A : Type 0} (V : A → Type 0) (at : Place) (e : Expansion A) → EndsIn V e → Brings A V (x.library_steps τ at e)
  unfolding x.library_steps
  run_brings V at e h = expanded_brings V at e h

  meet_brings : (at : Place) → Brings (Unit {0}) Any (a.meet τ at)
  unfolding a.meet
  meet_brings at =
      first_brings Any Any (fault_if a.is_controlled BARRIER_IN_FORALL at) _
      (fault_if_brings a.is_controlled BARRIER_IN_FORALL at) (λ u v.
      fault_if_brings parts.is_notified PHASE_ORDER at)

  -- The scalar passes as a value.
  abbrev AsValue : (Value → Type 0) → Scalar → Type 0
  AsValue V v = V (value.Scalar v)

  called_brings : (V : Value → Type 0) (call_ : LibraryCall) (shape : ℕ) (at : Place) (args : List Value)
      → ((private : ℕ → Option Shape)
      → EndsIn (AsValue V) (library_call τ.threads τ.shapes τ.number private call_ shape args))
      → Brings Value V (l.called_library τ call_ shape at args)
  called_brings V call_ shape at args h =
      let meets = choose (is_some (meet_number call_)) (a.meet τ at) skip in
      first_brings Any V meets _
      (choose_brings Any (is_some (meet_number call_)) (a.meet τ at) skip (meet_brings at) skip_brings) (λ u v.
      first_brings Any V (know parts.private_shapes) _ (know_brings parts.private_shapes) (λ private w.
      let e = library_call τ.threads τ.shapes τ.number private call_ shape args in
      first_brings (AsValue V) V (x.library_steps τ at e) _ (run_brings (AsValue V) at e (h private)) (λ z g.
      give_brings V (value.Scalar z) g)))

  exit_brings : (V : Value → Type 0) (v : ℤ) → Brings Value V (a.exit τ v)
  unfolding a.exit
  exit_brings V v =
      first_brings (Answers τ None (act.Exit v)) V (a.ask τ None (act.Exit v)) _ (ask_brings τ None (act.Exit v))
      (λ r h. over_brings V (over (told.Exit v)) (λ σ. tt))

  -- A call of the library brings what it ends with, and where it is left undone the number 0.
  library_by : (V : Value → Type 0) (call_ : LibraryCall) (shape : ℕ) (at : Place) (args : List Value)
      → V (number (pos 0))
      → ((private : ℕ → Option Shape)
      → EndsIn (AsValue V) (library_call τ.threads τ.shapes τ.number private call_ shape args))
      → Brings Value V (l.library τ call_ shape at args)
  unfolding l.library
  library_by V call_ shape at args n h =
      choose_brings V (parts.is_exit call_) (a.exit τ (parts.first_number args)) (l.formed_call τ call_ shape at args)
      (exit_brings V (parts.first_number args))
      (choose_brings V (l.is_formed τ.shapes call_ shape args) (l.called_library τ call_ shape at args)
      (give (number (pos 0))) (called_brings V call_ shape at args h) (give_brings V (number (pos 0)) n))

  pub library_any : (call_ : LibraryCall) (shape : ℕ) (at : Place) (args : List Value)
      → Brings Value Any (l.library τ call_ shape at args)
  library_any call_ shape at args =
      library_by Any call_ shape at args tt (λ private.
      weaken (library_call τ.threads τ.shapes τ.number private call_ shape args))
    where
      weaken : (e : Expansion Scalar) → EndsIn (AsValue Any) e
      weaken (Gives v) = tt
      weaken (Fails code) = tt
      weaken (Reads q kind after) = λ v. weaken (after v)
      weaken (Asks action after) = λ r h. weaken (after r)
      weaken (Loads q kind after) = λ v. weaken (after v)
      weaken (Stores q kind v after) = weaken after

  -- ---- calls that give numbers

  cond_ends : {A : Type 0} (V : A → Type 0) (test : Bool) (e f : Expansion A) → EndsIn V e → EndsIn V f
      → EndsIn V (cond test e f)
  cond_ends V true e f h g = h
  cond_ends V false e f h g = g

  abbrev IsInt : Scalar → Type 0
  IsInt v = IsNumber (value.Scalar v)

  attempt_ends : (k : ℕ) (r : Reply) → Answers τ None (act.Attempt k) r → EndsIn IsInt (call.given_by r)
  attempt_ends k reply.Done h = tt
  attempt_ends k (reply.Value v) h = absurd (false≢true h)
  attempt_ends k (reply.Flag b) h = tt
  attempt_ends k (reply.Refused code) h = tt

  module _ (shape : ℕ) (private : ℕ → Option Shape) where
    abbrev EndsWith : (Scalar → Type 0) → LibraryCall → List Value → Type 0
    EndsWith V call_ args = EndsIn V (library_call τ.threads τ.shapes τ.number private call_ shape args)

    thread_ends : (args : List Value) → EndsWith IsInt c.ThreadOf args
    thread_ends (value.Scalar (Shared p) ∷ []) = tt
    thread_ends args = tt

    phase_ends : (args : List Value) → EndsWith IsInt c.PhaseOf args
    phase_ends (value.Scalar (Shared p) ∷ []) = tt
    phase_ends args = tt

    field_ends : (args : List Value) → EndsWith IsInt c.AddressField args
    field_ends (value.Scalar (Shared p) ∷ []) = tt
    field_ends args = tt

    size_ends : (args : List Value) → EndsWith IsInt c.AffinitySize args
    size_ends (value.Scalar (Int n) ∷ value.Scalar (Int b) ∷ value.Scalar (Int t) ∷ []) =
        cond_ends IsInt (nat_le τ.threads (unsigned_abs t) || (is_large (unsigned_abs n) || is_large (unsigned_abs b)))
        (Fails LIBRARY_ARGS)
        (Gives (call.as_size (pos (piece_of (call.laid_out (unsigned_abs n) (unsigned_abs b))
        (unsigned_abs t) τ.threads))))
        (tt {0}) (tt {0})
    size_ends args = tt

    lock_ends : (args : List Value) → EndsWith IsInt c.LockAttempt args
    lock_ends (value.Scalar (Lock k) ∷ []) =
        cond_ends IsInt (k == 0) (Fails NULL_ACCESS) (call.asks (act.Attempt k)) (tt {0}) (λ r h. attempt_ends k r h)
    lock_ends args = tt

  module _ (structs : Structs) (shape : ℕ) (at : Place) (args : List Value) where
    -- A call that allocates nothing, makes no lock and is no printf gives a value of its type.
    pub plain_brings : (call_ : LibraryCall) → IsPlainCall call_
        → Brings Value (IsOf structs (call_result call_)) (l.library τ call_ shape at args)
    plain_brings c.Printf p = absurd p
    plain_brings c.GlobalAlloc p = absurd p
    plain_brings c.AllAlloc p = absurd p
    plain_brings c.Alloc p = absurd p
    plain_brings c.GlobalLockAlloc p = absurd p
    plain_brings c.AllLockAlloc p = absurd p
    plain_brings c.ThreadOf p =
        library_by IsNumber c.ThreadOf shape at args tt (λ private. thread_ends shape private args)
    plain_brings c.PhaseOf p =
        library_by IsNumber c.PhaseOf shape at args tt (λ private. phase_ends shape private args)
    plain_brings c.AddressField p =
        library_by IsNumber c.AddressField shape at args tt (λ private. field_ends shape private args)
    plain_brings c.AffinitySize p =
        library_by IsNumber c.AffinitySize shape at args tt (λ private. size_ends shape private args)
    plain_brings c.LockAttempt p =
        library_by IsNumber c.LockAttempt shape at args tt (λ private. lock_ends shape private args)
    plain_brings call_ p = weaker_brings Any _ _ (library_any call_ shape at args) (λ v u. tt)

  -- ---- calls that make locks

  abbrev IsLock : Value → Type 0
  IsLock v = Fits kind.Lock v

  made_ends : (r : Reply) → Answers τ None act.LockMake r → EndsIn (AsValue IsLock) (call.given_by r)
  made_ends reply.Done h = absurd (false≢true h)
  made_ends (reply.Value (Lock k)) h = refl
  made_ends (reply.Value (Int n)) h = absurd (false≢true h)
  made_ends (reply.Value (Shared p)) h = absurd (false≢true h)
  made_ends (reply.Flag b) h = absurd (false≢true h)
  made_ends (reply.Refused code) h = tt

  met_ends : (r : Reply) → Answers τ None (act.Meet 2 []) r → EndsIn (AsValue IsLock) (call.given_by r)
  met_ends reply.Done h = absurd (false≢true h)
  met_ends (reply.Value (Lock k)) h = refl
  met_ends (reply.Value (Int n)) h = absurd (false≢true h)
  met_ends (reply.Value (Shared p)) h = absurd (false≢true h)
  met_ends (reply.Flag b) h = absurd (false≢true h)
  met_ends (reply.Refused code) h = tt

  pub global_lock_brings : (shape : ℕ) (at : Place) → Brings Value IsLock (l.library τ c.GlobalLockAlloc shape at [])
  unfolding l.library
  global_lock_brings shape at = called_brings IsLock c.GlobalLockAlloc shape at [] (λ private r h. made_ends r h)

  pub all_lock_brings : (shape : ℕ) (at : Place) → Brings Value IsLock (l.library τ c.AllLockAlloc shape at [])
  unfolding l.library
  all_lock_brings shape at = called_brings IsLock c.AllLockAlloc shape at [] (λ private r h. met_ends r h)

  -- ---- calls that allocate on one thread

  module _ (n b : ℕ) where
    abbrev IsStart : Value → Type 0
    IsStart v = Fits (kind.Shared n b) v

    start_ends : (blocks bytes : ℕ) (where_ : Option ℕ) (shape : ℕ) (r : Reply)
        → Answers τ None (act.Alloc blocks bytes where_ shape) r → EndsIn (AsValue IsStart) (call.given_by r)
    start_ends blocks bytes where_ shape reply.Done h = absurd (false≢true h)
    start_ends blocks bytes where_ shape (reply.Value (Shared p)) h =
        or_first (p.phase == 0) (nat_lt p.phase b) (and_parts (is_pointer τ.threads τ.shapes p) (p.phase == 0) h).1
    start_ends blocks bytes where_ shape (reply.Value (Int m)) h = absurd (false≢true h)
    start_ends blocks bytes where_ shape (reply.Value (Lock k)) h = absurd (false≢true h)
    start_ends blocks bytes where_ shape (reply.Flag f) h = absurd (false≢true h)
    start_ends blocks bytes where_ shape (reply.Refused code) h = tt

    either_ends : (test : Bool) (e f : Expansion Scalar) → EndsIn (AsValue IsStart) e → EndsIn (AsValue IsStart) f
        → EndsIn (AsValue IsStart) (if test then e else f)
    either_ends true e f h g = h
    either_ends false e f h g = g

    allocation_ends : (private : ℕ → Option Shape) (where_ : Option ℕ) (shape blocks bytes : ℕ)
        → EndsIn (AsValue IsStart) (call.allocation τ.threads τ.shapes τ.number private where_ shape blocks bytes)
    allocation_ends private where_ shape blocks bytes =
        let asks = call.asks (act.Alloc blocks bytes where_ shape) in
        let test = not (blocks * bytes == 0) && not (is_whole (slice_get τ.shapes shape) bytes) in
        either_ends (blocks * bytes == 0) (Gives (Shared null))
        (call.in_elements τ.threads τ.shapes τ.number private shape blocks bytes asks) refl
        (cond_ends (AsValue IsStart) test (Fails CELL_TYPE) asks (tt {0}) (λ r h.
        start_ends blocks bytes where_ shape r h))

    pub global_alloc_brings : (shape : ℕ) (at : Place) (x y : ℤ)
        → Brings Value IsStart (l.library τ c.GlobalAlloc shape at (number x ∷ number y ∷ []))
    unfolding l.library
    global_alloc_brings shape at x y =
        called_brings IsStart c.GlobalAlloc shape at (number x ∷ number y ∷ []) (λ private.
        allocation_ends private None shape (unsigned_abs x) (unsigned_abs y))

    pub alloc_brings : (shape : ℕ) (at : Place) (x : ℤ)
        → Brings Value IsStart (l.library τ c.Alloc shape at (number x ∷ []))
    unfolding l.library
    alloc_brings shape at x =
        called_brings IsStart c.Alloc shape at (number x ∷ []) (λ private.
        allocation_ends private (Some τ.number) shape 1 (unsigned_abs x))

    -- The arguments are integers, as many as a call has parameters.
    pub two_brings : (shape : ℕ) (at : Place) (vs : List Value) → AreNumbers 2 vs
        → Brings Value IsStart (l.library τ c.GlobalAlloc shape at vs)
    two_brings shape at (value.Scalar (Int x) ∷ value.Scalar (Int y) ∷ []) h = global_alloc_brings shape at x y
    two_brings shape at (value.Scalar (Int x) ∷ value.Scalar (Shared q) ∷ vs) h = absurd h.1.0
    two_brings shape at (value.Scalar (Int x) ∷ value.Scalar (Lock q) ∷ vs) h = absurd h.1.0
    two_brings shape at (value.Scalar (Int x) ∷ value.Local q ∷ vs) h = absurd h.1.0
    two_brings shape at (value.Scalar (Int x) ∷ value.Scalar (Int y) ∷ z ∷ vs) h = absurd h.1.1
    two_brings shape at (value.Scalar (Int x) ∷ []) h = absurd h.1
    two_brings shape at (value.Scalar (Shared q) ∷ vs) h = absurd h.0
    two_brings shape at (value.Scalar (Lock q) ∷ vs) h = absurd h.0
    two_brings shape at (value.Local q ∷ vs) h = absurd h.0
    two_brings shape at [] h = absurd h

    pub one_brings : (shape : ℕ) (at : Place) (vs : List Value) → AreNumbers 1 vs
        → Brings Value IsStart (l.library τ c.Alloc shape at vs)
    one_brings shape at (value.Scalar (Int x) ∷ []) h = alloc_brings shape at x
    one_brings shape at (value.Scalar (Int x) ∷ z ∷ vs) h = absurd h.1
    one_brings shape at (value.Scalar (Shared q) ∷ vs) h = absurd h.0
    one_brings shape at (value.Scalar (Lock q) ∷ vs) h = absurd h.0
    one_brings shape at (value.Local q ∷ vs) h = absurd h.0
    one_brings shape at [] h = absurd h

    -- ---- calls in which all threads allocate

    met_start : (blocks bytes shape : ℕ) (test : Bool) (r : Reply)
        → l.is_call (cond test (calls.Allocates blocks bytes shape) calls.Other) ≡ true
        → fits_call τ.threads τ.shapes (cond test (calls.Allocates blocks bytes shape) calls.Other) r ≡ true
        → EndsIn (AsValue IsStart) (call.given_by r)
    met_start blocks bytes shape false r m h = absurd (false≢true m)
    met_start blocks bytes shape true reply.Done m h = absurd (false≢true h)
    met_start blocks bytes shape true (reply.Value (Shared p)) m h =
        or_first (p.phase == 0) (nat_lt p.phase b) (and_parts (is_pointer τ.threads τ.shapes p) (p.phase == 0) h).1
    met_start blocks bytes shape true (reply.Value (Int i)) m h = absurd (false≢true h)
    met_start blocks bytes shape true (reply.Value (Lock k)) m h = absurd (false≢true h)
    met_start blocks bytes shape true (reply.Flag f) m h = absurd (false≢true h)
    met_start blocks bytes shape true (reply.Refused code) m h = tt

    -- The sizes of an allocation with which all threads meet.
    abbrev are_sizes : (x y : ℤ) → ℕ → Bool
    are_sizes x y shape = is_size x && (is_size y && is_size (pos shape))

    -- All threads may meet with these arguments of an allocation.
    abbrev pub MayMeet : ℕ → List Value → Type 0
    MayMeet shape vs = l.is_formed τ.shapes c.AllAlloc shape vs ≡ true

    all_alloc_ends : (private : ℕ → Option Shape) (shape : ℕ) (x y : ℤ) → MayMeet shape (number x ∷ number y ∷ [])
        → EndsIn (AsValue IsStart)
        (library_call τ.threads τ.shapes τ.number private c.AllAlloc shape (number x ∷ number y ∷ []))
    all_alloc_ends private shape (pos x) (pos y) m =
        let asks = call.asks (act.Meet 1 (Int (pos x) ∷ Int (pos y) ∷ Int (pos shape) ∷ [])) in
        let test = not (x * y == 0) && not (is_whole (slice_get τ.shapes shape) y) in
        let sizes = are_sizes (pos x) (pos y) shape in
        let called = (and_parts (l.is_call (cond sizes (calls.Allocates x y shape) calls.Other))
        (l.has_shape τ.shapes c.AllAlloc shape) m).0 in
        cond_ends (AsValue IsStart) test (Fails CELL_TYPE) asks (tt {0})
        (λ r h. met_start x y shape sizes r called h)
    all_alloc_ends private shape (negsuc x) y m = absurd (false≢true m)
    all_alloc_ends private shape (pos x) (negsuc y) m = absurd (false≢true (no_size x y shape m))
      where
        no_size : (x y shape : ℕ) → MayMeet shape (number (pos x) ∷ number (negsuc y) ∷ []) → false ≡ true
        no_size x y shape m = by (is_size (pos x)) m
          where
            by : (b : Bool)
                → (l.is_call (cond (b && false) (calls.Allocates x (unsigned_abs (negsuc y)) shape) calls.Other)
                && l.has_shape τ.shapes c.AllAlloc shape) ≡ true
                → false ≡ true
            by true g = g
            by false g = g

    all_alloc_by : (shape : ℕ) (at : Place) (x y : ℤ) → MayMeet shape (number x ∷ number y ∷ [])
        → Brings Value IsStart (l.library τ c.AllAlloc shape at (number x ∷ number y ∷ []))
    unfolding l.library
    all_alloc_by shape at x y m =
        let vs = number x ∷ number y ∷ [] in
        let calling = l.called_library τ c.AllAlloc shape at vs in
        subst (λ (t : Bool). Brings Value IsStart (choose t calling (give (number (pos 0))))) (sym m)
        (called_brings IsStart c.AllAlloc shape at vs (λ private. all_alloc_ends private shape x y m))

    pub all_alloc_brings : (shape : ℕ) (at : Place) (vs : List Value) → AreNumbers 2 vs → MayMeet shape vs
        → Brings Value IsStart (l.library τ c.AllAlloc shape at vs)
    all_alloc_brings shape at (value.Scalar (Int x) ∷ value.Scalar (Int y) ∷ []) h m = all_alloc_by shape at x y m
    all_alloc_brings shape at (value.Scalar (Int x) ∷ value.Scalar (Shared q) ∷ vs) h m = absurd h.1.0
    all_alloc_brings shape at (value.Scalar (Int x) ∷ value.Scalar (Lock q) ∷ vs) h m = absurd h.1.0
    all_alloc_brings shape at (value.Scalar (Int x) ∷ value.Local q ∷ vs) h m = absurd h.1.0
    all_alloc_brings shape at (value.Scalar (Int x) ∷ value.Scalar (Int y) ∷ z ∷ vs) h m = absurd h.1.1
    all_alloc_brings shape at (value.Scalar (Int x) ∷ []) h m = absurd h.1
    all_alloc_brings shape at (value.Scalar (Shared q) ∷ vs) h m = absurd h.0
    all_alloc_brings shape at (value.Scalar (Lock q) ∷ vs) h m = absurd h.0
    all_alloc_brings shape at (value.Local q ∷ vs) h m = absurd h.0
    all_alloc_brings shape at [] h m = absurd h
