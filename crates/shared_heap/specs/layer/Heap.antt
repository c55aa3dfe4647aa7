-- The shared objects of a run and the values of their cells.
use Rattle.std.specs.Prelude.{ℕ, ◌≡◌, ◌+◌, ◌*◌, ◌==◌, nat_lt, pos, Bool, false, not, ◌&&◌, ◌||◌, cond}
use Rattle.std.specs.Prelude.{List, [], ◌∷◌, ◌++◌, length, Option, Some, None, is_some, Result, Ok, Err}
use Rattle.block_layout.specs.declared.place.Loc.{Loc}
use Rattle.block_layout.specs.declared.place.ObjectRef.{ObjectRef}
use Rattle.block_layout.specs.declared.place.SharedPtr.{SharedPtr}
use Rattle.block_layout.specs.declared.kind.Kind.{Kind}
use Rattle.block_layout.specs.declared.run_error.TheConstants.{BAD_FREE, SHARED_SPACE}
use Rattle.upc_values.specs.declared.scalar.Scalar.{Scalar}
use Rattle.upc_values.specs.declared.scalar.Scalar.TheVariants.{Shared}
use Rattle.upc_values.specs.declared.action.Reply.{Reply}
use Rattle.upc_values.specs.declared.action.Reply.TheVariants.{Done, Value, Refused}
use Rattle.upc_values.specs.declared.refused.Refused.{Refused as Refusal}
use Rattle.upc_values.specs.declared.refused.Refused.TheVariants as refusal
use Rattle.upc_values.specs.Scalars.{same_loc}
use Rattle.upc_values.specs.Drain.{or_else}
use Rattle.upc_values.specs.Openings.{Opening, IsOpening, bytes_of, cell_of, given, initial_of}
use Rattle.block_layout.specs.Pointers.{same_target}

-- What the run began with; the objects made since, in order, and for each of them whether it was released; and the
-- values last saved at locations, where the first of a location counts.
pub record HeapState : Type 0 where
  pub opening : Opening
  pub made : List ObjectRef
  pub released : List Bool
  pub cells : List (Loc × Scalar)

-- The objects: the declared ones, then those made.
abbrev pub all_objects : HeapState → List ObjectRef
all_objects h = h.opening.declared ++ h.made

-- A heap that has just begun: no object is made, and nothing is saved.
abbrev pub begun : Opening → HeapState
begun o = record { opening = o; made = []; released = []; cells = [] }

-- What was last saved at a location, if anything was.
abbrev pub written : HeapState → Loc → Option Scalar
written h l = given l h.cells

-- The kind of the cell at a location, if there is one.
abbrev pub cell_at : HeapState → Loc → Option Kind
cell_at h l = cell_of h.opening (all_objects h) l

-- What a location holds: what was last saved there, else what its cell begins with.
abbrev pub content : HeapState → Loc → Option Scalar
content h l = or_else (written h l) (initial_of h.opening (all_objects h) l)

-- The second heap is the first where a value is saved at a location.
pub record IsSaved (old : HeapState) (l : Loc) (v : Scalar) (new : HeapState) : Type 0 where
  pub opening : new.opening ≡ old.opening
  pub made : new.made ≡ old.made
  pub released : new.released ≡ old.released
  pub written : (k : Loc) → written new k ≡ cond (same_loc l k) (Some v) (written old k)

-- A pointer to the first byte of an object on its home (UPC 7.2.2).
abbrev pub start_of : ObjectRef → SharedPtr
start_of x = record { object = x; thread = x.home; phase = 0; offset = pos 0 }

-- The object that is made next: it is numbered next, and lies after all others.
abbrev pub next_object : HeapState → (total block home shape : ℕ) → ObjectRef
next_object h total block home shape =
    record {
      number = length (all_objects h) + 1;
      total = total;
      block = block;
      home = home;
      shape = shape;
      base = bytes_of (all_objects h);
    }

-- The start of a new object of so many blocks of so many bytes; with a home it is indefinite (UPC 7.2.2).
abbrev pub new_object : HeapState → ℕ → ℕ → Option ℕ → ℕ → SharedPtr
new_object h nblocks nbytes home shape =
    start_of
    (next_object h (nblocks * nbytes) (cond (is_some home) 0 nbytes) (elim home [ Some t ↦ t | None ↦ 0 ]) shape)

-- The answer to an allocation: all objects ever made have at most 16,777,216 bytes.
abbrev pub grow_answer : HeapState → ℕ → ℕ → Option ℕ → ℕ → Reply
grow_answer h nblocks nbytes home shape =
    cond (nat_lt 16777216 (bytes_of (all_objects h) + nblocks * nbytes)) (Refused SHARED_SPACE)
    (Value (Shared (new_object h nblocks nbytes home shape)))

-- The reply that the result of an allocation stands for; none where there is no memory.
abbrev pub told_grown : Result SharedPtr Refusal → Option Reply
told_grown (Ok p) = Some (Value (Shared p))
told_grown (Err (refusal.Error code)) = Some (Refused code)
told_grown (Err refusal.Memory) = None

-- The heap with one more object, of which nothing is saved and which is not released.
abbrev pub with_object : ObjectRef → HeapState → HeapState
with_object x h =
    record { opening = h.opening; made = h.made ++ x ∷ []; released = h.released ++ false ∷ []; cells = h.cells }

-- Whether the pointer names the start of one of these objects, which is not released.
abbrev pub is_live_start : SharedPtr → List ObjectRef → List Bool → Bool
is_live_start p (x ∷ xs) (r ∷ rs) = (same_target p (start_of x) && not r) || is_live_start p xs rs
is_live_start p xs rs = false

-- The answer to a free.
abbrev pub release_answer : SharedPtr → HeapState → Reply
release_answer p h = cond (is_live_start p h.made h.released) Done (Refused BAD_FREE)

-- The reply that the result of a free stands for.
abbrev pub told_released : {T : Type 0} → Result T ℕ → Reply
told_released (Ok x) = Done
told_released (Err code) = Refused code

-- Whether each of these objects is released, after the object of this number is.
abbrev pub with_released : ℕ → List ObjectRef → List Bool → List Bool
with_released n (x ∷ xs) (r ∷ rs) = ((x.number == n) || r) ∷ with_released n xs rs
with_released n xs rs = rs

-- The heap where the object of this number is released.
abbrev pub without_object : ℕ → HeapState → HeapState
without_object n h =
    record {
      opening = h.opening;
      made = h.made;
      released = with_released n h.made h.released;
      cells = h.cells;
    }

-- The opening whose declared objects are all objects of the heap.
abbrev pub all_declared : HeapState → Opening
all_declared h =
    record {
      threads = h.opening.threads;
      declared = all_objects h;
      initials = h.opening.initials;
      shapes = h.opening.shapes;
    }

-- What a heap keeps: its opening is valid, all its objects could have been declared, and it says of each object made
-- whether it was released.
pub record IsHeap (h : HeapState) : Type 0 where
  pub opening : IsOpening h.opening
  pub objects : IsOpening (all_declared h)
  pub flags : length h.released ≡ length h.made
