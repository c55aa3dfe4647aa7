-- What a store begins with.
use Rattle.std.specs.Prelude.{ℕ, ◌≤◌, ◌≡◌, ◌≢◌, pos, Bool, true, false, List, [], length, fold, Option, Some, None}
use Rattle.std.specs.Prelude.{slice_get, Result, Ok, Err}
use Rattle.block_layout.specs.declared.kind.Kind.{Kind}
use Rattle.block_layout.specs.declared.kind.Shape.{Shape}
use Rattle.block_layout.specs.declared.place.LocalPtr.{LocalPtr}
use Rattle.block_layout.specs.declared.place.LocalPtr.TheVariants as local
use Rattle.block_layout.specs.Shapes.{IsShape}
use Rattle.block_layout.specs.Lists.{under}
use Rattle.upc_values.specs.Lists.{Each, Pairwise}
use Rattle.upc_values.specs.Shapes.{value_fits}
use Rattle.upc_values.specs.declared.scalar.Value.{Value}
use Rattle.private_store.specs.Live.{Live, bytes_in, blank_things}
use Rattle.private_store.specs.Cells.{stored}

-- The kind of the cell that begins at a byte of an object of this shape, if there is one.
abbrev pub kind_in : Option Shape → ℕ → Option Kind
kind_in None byte = None
kind_in (Some s) byte = under byte s.cells

-- The kind of the cell of these objects, numbered from 0, that a pointer names.
abbrev pub private_cell : List Shape → LocalPtr → Option Kind
private_cell shapes (local.Private object (pos offset)) = kind_in (slice_get shapes object) offset
private_cell shapes p = None

-- There is a cell, and the value fits it.
abbrev pub fits_cell : Value → Option Kind → Bool
fits_cell v (Some kind) = value_fits v kind
fits_cell v None = false

-- What lives after a write, or, where the write is a run error, what lived before it.
abbrev pub if_stored : Result Live ℕ → Live → Live
if_stored (Ok t) s = t
if_stored (Err code) s = s

-- What lives after an initial value is stored in its cell, if there is such a cell (C99 6.7.8).
abbrev pub begun_cell : Option Kind → LocalPtr × Value → Live → Live
begun_cell (Some kind) x s = if_stored (stored x.0 kind x.1 s) s
begun_cell None x s = s

-- The file-scope objects of these shapes, numbered from 0, with 0 or null in each cell.
abbrev pub blank : List Shape → Live
blank shapes = record { objects = blank_things 0 shapes; blocks = []; calls = []; next = length shapes }

-- What lives before `main`: the file-scope objects, in which each initial value is stored in its cell (C99 6.7.8).
abbrev pub begun : List Shape → List (LocalPtr × Value) → Live
begun shapes initials = fold (λ s x. begun_cell (private_cell shapes x.0) x s) (blank shapes) initials

-- The objects have shapes and room, and each initial value is that of a cell of theirs, which it fits and no other has.
pub record IsBeginning (shapes : List Shape) (initials : List (LocalPtr × Value)) : Type 0 where
  pub are_shapes : Each IsShape shapes
  pub room : bytes_in shapes ≤ 1048576
  pub once : Pairwise (λ x y. x.0 ≢ y.0) initials
  pub fit : Each (λ x. fits_cell x.1 (private_cell shapes x.0) ≡ true) initials
