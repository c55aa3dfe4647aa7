-- Accesses to objects: of a shared one by an action, of a private one in the thread's store (C99 6.5.16; UPC 6.5.1.1),
-- and the calls of the library as they go on.
use Rattle.std.specs.Prelude.{ℕ, ℤ, Bool, false, [], Some, None, Result, Ok, Err}
use Rattle.upc_text.specs.declared.place.Place.{Place}
use Rattle.block_layout.specs.declared.kind.Kind.{Kind}
use Rattle.block_layout.specs.declared.place.ObjectRef.{ObjectRef}
use Rattle.block_layout.specs.declared.place.SharedPtr.{SharedPtr}
use Rattle.block_layout.specs.declared.place.LocalPtr.{LocalPtr}
use Rattle.block_layout.specs.declared.place.LocalPtr.TheVariants as local
use Rattle.block_layout.specs.declared.place.Loc.{Loc}
use Rattle.block_layout.specs.declared.run_error.TheConstants.{NULL_ACCESS}
use Rattle.shared_pointers.specs.Access.{cell_at}
use Rattle.upc_values.specs.declared.scalar.Scalar.{Scalar}
use Rattle.upc_values.specs.declared.scalar.Scalar.TheVariants.{Shared}
use Rattle.upc_values.specs.declared.scalar.Value.{Value}
use Rattle.upc_values.specs.declared.scalar.Value.TheVariants as value
use Rattle.upc_values.specs.declared.action.Action.TheVariants as act
use Rattle.upc_values.specs.Views.{shape_at}
use Rattle.upc_values.specs.Expansion.{Expansion, Gives, Fails, Reads, Asks, Loads, Stores, value_in}
use Rattle.private_store.specs.Cells.{loaded, stored}
use Rattle.thread_steps.specs.States.{Thread, Val, Doing, ◌>>=◌, ◌>>◌, give, skip, fault}
use Rattle.thread_steps.specs.States.{valued}
use Rattle.thread_steps.specs.Values.{kept, kept_scalar, scalar_of}
use Rattle.thread_steps.specs.Actions.{ask}

-- The pointer-to-shared to the place of a pointer-to-local, with phase 0 (UPC 6.4.3).
abbrev pub into_shared : ObjectRef → ℕ → ℤ → SharedPtr
into_shared object thread offset = record { object = object; thread = thread; phase = 0; offset = offset }

-- The read of a cell of a private object (C99 6.5).
abbrev pub load_private : Kind → Place → LocalPtr → Doing Value
load_private kind at p = λ σ. valued at (loaded p kind σ.store) σ

-- The write of a cell of a private object, which keeps a value that fits its kind, or the end of the thread by a run
-- error (C99 6.5.16).
abbrev pub save_private : Kind → Place → LocalPtr → Value → Doing (Unit {0})
save_private kind at p v = λ σ.
    elim (stored p kind (kept kind v) σ.store) [ Ok s ↦ Val tt (record σ { store = s }) | Err code ↦ fault code at σ ]

module _ (τ : Thread) where
  -- The location of the cell of a kind at a pointer-to-shared, or the first of its run errors. Where the program has
  -- no such shape of elements, which is the case for no object of a typed program, it is a byte without cells.
  abbrev pub cell : Kind → SharedPtr → Result Loc ℕ
  cell kind p =
      cell_at p (elim (shape_at τ.shapes p) [ Some s ↦ s | None ↦ record { size = 1; cells = [] } ]) kind τ.threads

  -- The read of a location, strict or relaxed (UPC 6.5.1.1).
  abbrev pub read : Kind → Bool → Loc → Doing Scalar
  read kind strict l = do
    r ← ask τ (Some kind) (act.Read l strict)
    give (value_in r)

  -- The read of the cell of a kind at a pointer-to-shared, strict or relaxed (C99 6.5, UPC 6.5.1.1).
  abbrev pub load_shared : Kind → Bool → Place → SharedPtr → Doing Value
  load_shared kind strict at p = do
    l ← valued at (cell kind p)
    v ← read kind strict l
    give (value.Scalar v)

  -- The write of the cell of a kind at a pointer-to-shared, strict or relaxed, which keeps a scalar that fits its kind
  -- (C99 6.5.16, UPC 6.5.1.1).
  abbrev pub save_shared : Kind → Bool → Place → SharedPtr → Value → Doing (Unit {0})
  save_shared kind strict at p v = do
    l ← valued at (cell kind p)
    ask τ None (act.Write strict l (kept_scalar kind (scalar_of v)))
    skip

  -- The value of the cell of a kind to which a value leads, by what the value is: through a pointer-to-local into
  -- shared space it is read relaxed, and through null or what is no pointer it is run error 4 (C99 6.5.3.2; UPC 6.4.3,
  -- 6.5.1.1).
  unfoldable pub load : Kind → Bool → Place → Value → Doing Value
  load kind strict at (value.Scalar (Shared p)) = load_shared kind strict at p
  load kind strict at (value.Local (local.Shared object thread offset)) = load_shared kind false at
      (into_shared object thread offset)
  load kind strict at (value.Local p) = load_private kind at p
  load kind strict at v = fault NULL_ACCESS at

  -- The cell of a kind to which a value leads gets a new value: through a pointer-to-local into shared space it is
  -- written relaxed, and through null or what is no pointer it is run error 4 (C99 6.5.3.2, 6.5.16; UPC 6.4.3,
  -- 6.5.1.1).
  unfoldable pub save : Kind → Bool → Place → Value → Value → Doing (Unit {0})
  save kind strict at (value.Scalar (Shared p)) v = save_shared kind strict at p v
  save kind strict at (value.Local (local.Shared object thread offset)) v = save_shared kind false at
      (into_shared object thread offset) v
  save kind strict at (value.Local p) v = save_private kind at p v
  save kind strict at p v = fault NULL_ACCESS at

  -- A call of the library, step by step; its run errors stand at the call.
  abbrev pub expanded : {A : Type 0} → Place → Expansion A → Doing A
  expanded at (Gives v) = give v
  expanded at (Fails code) = fault code at
  expanded at (Reads l kind after) = do
    v ← read kind false l
    expanded at (after v)
  expanded at (Asks a after) = do
    r ← ask τ None a
    expanded at (after r)
  expanded at (Loads p kind after) = do
    v ← load_private kind at p
    expanded at (after (scalar_of v))
  expanded at (Stores p kind v after) = do
    save_private kind at p (value.Scalar v)
    expanded at after

  -- The steps of a call of the library, one after another, at the place of the call.
  unfoldable pub library_steps : {A : Type 0} → Place → Expansion A → Doing A
  library_steps at x = expanded at x
