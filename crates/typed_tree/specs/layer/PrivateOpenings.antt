-- The private part of what a program begins with.
use Rattle.std.specs.Prelude.{ℕ, pos, nat_lt, Bool, true, false, ◌≡◌, ◌≢◌, ◌≤◌, ◌&&◌, List, length, Option, Some}
use Rattle.std.specs.Prelude.{None, slice_get}
use Rattle.std.specs.List.{sum_by}
use Rattle.block_layout.specs.declared.kind.Kind.{Kind}
use Rattle.block_layout.specs.declared.kind.Shape.{Shape}
use Rattle.block_layout.specs.declared.place.LocalPtr.{LocalPtr}
use Rattle.block_layout.specs.declared.place.LocalPtr.TheVariants as local
use Rattle.block_layout.specs.Places.{in_range}
use Rattle.block_layout.specs.Shapes.{IsShape}
use Rattle.block_layout.specs.Lists.{under}
use Rattle.upc_values.specs.Lists.{Each, Pairwise}
use Rattle.upc_values.specs.Openings.{Opening, is_initial}
use Rattle.upc_values.specs.Shapes.{value_fits}
use Rattle.upc_values.specs.declared.scalar.Value.{Value}
use Rattle.upc_values.specs.declared.scalar.Value.TheVariants as value
use Rattle.typed_tree.specs.Objects.{most_private_bytes}
use Rattle.typed_tree.specs.Beginnings.{Beginning, opening_in}

-- The kind of the cell that begins at a byte of an object with this shape, if there is one.
abbrev pub kind_in : Option Shape → ℕ → Option Kind
kind_in None offset = None
kind_in (Some s) offset = under offset s.cells

-- The kind of the cell at a place of these private objects, by their shapes; none where no cell begins there.
abbrev pub private_cell : List Shape → LocalPtr → Option Kind
private_cell shapes (local.Private object (pos offset)) = kind_in (slice_get shapes object) offset
private_cell shapes p = None

-- Whether a value fits a cell of this kind; where there is no cell, none fits.
abbrev pub fits_cell : Value → Option Kind → Bool
fits_cell v (Some kind) = value_fits v kind
fits_cell v None = false

-- Whether a pointer-to-local is null, or names one of so many private objects with an offset in range.
abbrev pub is_local : ℕ → LocalPtr → Bool
is_local privates local.Null = true
is_local privates (local.Private object offset) = nat_lt object privates && in_range offset
is_local privates p = false

-- Whether a value refers to nothing but objects of the file.
abbrev pub is_known : Opening → ℕ → Value → Bool
is_known o privates (value.Scalar v) = is_initial o v
is_known o privates (value.Local p) = is_local privates p

-- Each private object has a shape, whose cells lie inside it without overlap, and at most one initial value for each
-- cell, which fits the cell and refers to nothing but objects of the file.
pub record HavePrivateValues (threads : ℕ) (b : Beginning) : Type 0 where
  pub shapes : Each IsShape b.private_shapes
  pub once : Pairwise (λ x y. x.0 ≢ y.0) b.private_initials
  pub fit : Each (λ x. fits_cell x.1 (private_cell b.private_shapes x.0) ≡ true) b.private_initials
  pub known : Each (λ x. is_known (opening_in threads b) (length b.private_shapes) x.1 ≡ true) b.private_initials

-- The bytes of objects with these shapes in all.
abbrev pub shape_bytes : List Shape → ℕ
shape_bytes shapes = sum_by (λ s. s.size) shapes

-- The private objects have shapes and fitting initial values, and no more bytes in all than limit 4 allows.
pub record IsPrivateOpening (threads : ℕ) (b : Beginning) : Type 0 where
  pub values : HavePrivateValues threads b
  pub bytes : shape_bytes b.private_shapes ≤ most_private_bytes
