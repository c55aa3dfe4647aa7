-- The cells of objects, and which values fit them.
use Rattle.std.specs.Prelude.{ℕ, ◌%◌, ◌==◌, nat_lt, pos, Bool, true, false, ◌&&◌, ◌||◌, cond, List, Option, Some}
use Rattle.std.specs.Prelude.{None, slice_get}
use Rattle.block_layout.specs.declared.place.ObjectRef.{ObjectRef}
use Rattle.block_layout.specs.declared.place.Loc.{Loc}
use Rattle.block_layout.specs.declared.place.LocalPtr.TheVariants as local
use Rattle.block_layout.specs.declared.kind.Kind.{Kind}
use Rattle.block_layout.specs.declared.kind.Kind.TheVariants as kind
use Rattle.block_layout.specs.declared.kind.Shape.{Shape}
use Rattle.block_layout.specs.Pieces.{piece_of}
use Rattle.block_layout.specs.Pointers.{null}
use Rattle.upc_values.specs.declared.scalar.Scalar.{Scalar}
use Rattle.upc_values.specs.declared.scalar.Scalar.TheVariants.{Int, Shared, Lock}
use Rattle.upc_values.specs.declared.scalar.Value.{Value}
use Rattle.upc_values.specs.declared.scalar.Value.TheVariants as value
use Rattle.block_layout.specs.Lists.{under}
use Rattle.integers.specs.Integers.{in_kind}

-- The kind of the cell that begins at this byte, where elements of this shape follow one another (C99 6.2.5).
abbrev pub kind_at : Option Shape → ℕ → Option Kind
kind_at (Some s) x = under (x % s.size) s.cells
kind_at None x = None

-- The kind of the cell at a location, if there is one: inside the piece of its thread (UPC 6.5.1.1).
abbrev pub cell_in : ℕ → List Shape → Option ObjectRef → Loc → Option Kind
cell_in threads shapes None l = None
cell_in threads shapes (Some o) l =
    cond (nat_lt l.offset (piece_of o l.thread threads)) (kind_at (slice_get shapes o.shape) l.offset) None

-- Whether a kind is of integers (C99 6.2.5).
abbrev pub is_integer : Kind → Bool
is_integer (kind.Shared n b) = false
is_integer kind.Lock = false
is_integer (kind.Private n) = false
is_integer k = true

-- Whether a scalar fits a cell of a kind: an integer in the kind's range, a pointer-to-shared whose phase is 0 or below
-- the kind's block, a lock.
abbrev pub fits_kind : Scalar → Kind → Bool
fits_kind (Int v) k = is_integer k && in_kind k v
fits_kind (Shared p) (kind.Shared n b) = (p.phase == 0) || nat_lt p.phase b
fits_kind (Shared p) k = false
fits_kind (Lock l) kind.Lock = true
fits_kind (Lock l) k = false

-- There is a cell, and the value fits it.
abbrev pub fits_cell : Scalar → Option Kind → Bool
fits_cell v (Some k) = fits_kind v k
fits_cell v None = false

-- What a cell without an initial value begins with: 0, or null (C99 6.7.8).
abbrev pub blank : Kind → Scalar
blank (kind.Shared n b) = Shared null
blank kind.Lock = Lock 0
blank k = Int (pos 0)

-- Whether a value fits a cell of a kind: a scalar as it does in a shared object, and a pointer-to-local where the kind
-- is one of pointers to private objects.
abbrev pub value_fits : Value → Kind → Bool
value_fits (value.Scalar v) k = fits_kind v k
value_fits (value.Local p) (kind.Private n) = true
value_fits (value.Local p) k = false

-- What a cell of any kind begins with where it has no initial value: 0, or null (C99 6.7.8).
abbrev pub blank_value : Kind → Value
blank_value (kind.Private n) = value.Local local.Null
blank_value k = value.Scalar (blank k)
