-- What a run begins with.
use Rattle.std.specs.Prelude.{ℕ, ◌≡◌, ◌≢◌, ◌<◌, ◌≤◌, ◌+◌, ◌%◌, ◌==◌, nat_lt, Bool, true, false, ◌&&◌, ◌||◌, cond}
use Rattle.std.specs.Prelude.{List, [], ◌∷◌, take, Option, Some, None, slice_get}
use Rattle.std.specs.List.{find, list_any, sum_by}
use Rattle.block_layout.specs.declared.place.Loc.{Loc}
use Rattle.block_layout.specs.declared.place.ObjectRef.{ObjectRef}
use Rattle.block_layout.specs.declared.place.SharedPtr.{SharedPtr}
use Rattle.block_layout.specs.declared.kind.Kind.{Kind}
use Rattle.block_layout.specs.declared.kind.Shape.{Shape}
use Rattle.block_layout.specs.Places.{in_range}
use Rattle.block_layout.specs.Pointers.{is_null, same_object}
use Rattle.block_layout.specs.Shapes.{IsShape}
use Rattle.block_layout.specs.Cells.{is_private}
use Rattle.upc_values.specs.declared.scalar.Scalar.{Scalar}
use Rattle.upc_values.specs.declared.scalar.Scalar.TheVariants.{Int, Shared, Lock}
use Rattle.upc_values.specs.Lists.{Each, Numbered, Pairwise}
use Rattle.upc_values.specs.Scalars.{same_loc}
use Rattle.upc_values.specs.Shapes.{cell_in, fits_cell, blank}
use Rattle.upc_values.specs.Drain.{or_else}

-- What a run begins with: the number of threads, the declared shared objects, the initial values of some of their
-- cells, and the shapes of elements, by number (C99 6.7.8, UPC 6.5.1.1).
pub record Opening : Type 0 where
  pub threads : ℕ
  pub declared : List ObjectRef
  pub initials : List (Loc × Scalar)
  pub shapes : List Shape

-- The bytes of some objects in all.
abbrev pub bytes_of : List ObjectRef → ℕ
bytes_of objects = sum_by (λ o. o.total) objects

-- The kind of the cell of these objects at a location.
abbrev pub cell_of : Opening → List ObjectRef → Loc → Option Kind
cell_of o objects l = cell_in o.threads o.shapes (find (λ x. x.number == l.object) objects) l

-- A pointer is null, or names one of the objects: that object in every field, a thread of the run, an offset in range.
abbrev pub is_named : ℕ → List ObjectRef → SharedPtr → Bool
is_named threads objects p =
    is_null p || (list_any (same_object p.object) objects && (nat_lt p.thread threads && in_range p.offset))

-- An element of a shared object, which holds no pointer to a private object (UPC 6.5.1.1).
abbrev pub IsSharable : Shape → Type 0
IsSharable s = Each (λ c. is_private c.1 ≡ false) s.cells

-- The value that a list has first for a location, if it has one.
abbrev pub given : Loc → List (Loc × Scalar) → Option Scalar
given l [] = None
given l (x ∷ xs) = cond (same_loc x.0 l) (Some x.1) (given l xs)

-- What a cell without an initial value begins with, if there is a cell: 0, or null (C99 6.7.8).
abbrev pub blank_in : Option Kind → Option Scalar
blank_in (Some k) = Some (blank k)
blank_in None = None

-- What a cell of these objects begins with: its initial value, else 0 or null (C99 6.7.8, UPC 7.2.2).
abbrev pub initial_of : Opening → List ObjectRef → Loc → Option Scalar
initial_of o objects l = or_else (given l o.initials) (blank_in (cell_of o objects l))

-- The i-th declared object, from 0: numbered from 1 on, of whole elements, each after those before it.
pub record IsDeclared (o : Opening) (i : ℕ) (x : ObjectRef) : Type 0 where
  pub number : x.number ≡ i + 1
  pub shape : Shape
  pub listed : slice_get o.shapes x.shape ≡ Some shape
  pub least : 0 < x.total
  pub block : x.block ≤ 16777216
  pub home : x.home < o.threads
  pub whole : x.total % shape.size ≡ 0
  pub whole_block : x.block % shape.size ≡ 0
  pub base : x.base ≡ bytes_of (take i o.declared)

-- An initial value refers to nothing but declared objects.
abbrev pub is_initial : Opening → Scalar → Bool
is_initial o (Int v) = true
is_initial o (Shared p) = is_named o.threads o.declared p
is_initial o (Lock l) = l == 0

-- An opening: 1 to 32 threads, shapes of shared elements, at most 16,777,216 bytes, and at most one initial value for a
-- cell, which fits it.
pub record IsOpening (o : Opening) : Type 0 where
  pub least : 0 < o.threads
  pub most : o.threads ≤ 32
  pub shapes : Each IsShape o.shapes
  pub sharable : Each IsSharable o.shapes
  pub declared : Numbered (IsDeclared o) o.declared
  pub bytes : bytes_of o.declared ≤ 16777216
  pub once : Pairwise (λ x y. x.0 ≢ y.0) o.initials
  pub fit : Each (λ x. fits_cell x.1 (cell_of o o.declared x.0) ≡ true) o.initials
  pub known : Each (λ x. is_initial o x.1 ≡ true) o.initials
