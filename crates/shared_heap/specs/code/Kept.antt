-- What the fields of a beginning and of a heap keep.
use Rattle.std.specs.Prelude.{ℕ, ◌≡◌, ◌<◌, ◌≤◌, ◌+◌, ◌^◌, List, length}
use Rattle.block_layout.specs.declared.place.Loc.{Loc}
use Rattle.block_layout.specs.declared.place.ObjectRef.{ObjectRef}
use Rattle.upc_values.specs.declared.scalar.Scalar.{Scalar}
use Rattle.upc_values.specs.Openings.{Opening, IsOpening, IsDeclared, bytes_of, given}
use Rattle.shared_heap.specs.layer.Heap.{HeapState, all_objects, all_declared, IsHeap}

-- A beginning: its opening is valid, its shapes have numbers of 32 bits, and its initial values are found by location.
pub record IsBegun (o : Opening) (found : List (Loc × Scalar)) : Type 0 where
  pub opening : IsOpening o
  pub few : length o.shapes < 2 ^ 32
  pub firsts : (l : Loc) → given l found ≡ given l o.initials

-- A heap that counts the bytes of all its objects.
pub record IsKept (h : HeapState) (count : ℕ) : Type 0 where
  pub heap : IsHeap h
  pub bytes : count ≡ bytes_of (all_objects h)

-- An object that may be made next: it could be declared after all others, and there is room for it.
pub record IsNext (h : HeapState) (x : ObjectRef) : Type 0 where
  pub placed : IsDeclared (all_declared h) (length (all_objects h)) x
  pub room : bytes_of (all_objects h) + x.total ≤ 16777216
