-- How the values of all objects lie in one list.
use Rattle.std.specs.Prelude.{ℕ, ◌+◌, ◌*◌, ◌/◌, ◌≡◌, ◌≤◌, ◌<◌, ◌==◌, ◌&&◌, Bool, List, [], ◌∷◌, length, map}
use Rattle.std.specs.Prelude.{take, drop, All}
use Rattle.std.specs.Prelude.{slice_index_or}
use Rattle.std.specs.List.{AllPairs}
use Rattle.block_layout.specs.declared.kind.Kind.{Kind}
use Rattle.block_layout.specs.declared.kind.Shape.{Shape}
use Rattle.block_layout.specs.Shapes.{IsShape, kind_size, same_kind}
use Rattle.upc_values.specs.declared.scalar.Value.{Value}
use Rattle.private_store.specs.declared.object.Form.{Form}
use Rattle.private_store.specs.declared.object.Form.TheVariants.{Row, Listed}
use Rattle.private_store.specs.declared.object.Object.{Object}
use Rattle.private_store.specs.declared.row_shapes.Known.{Known}
use Rattle.private_store.specs.Live.{Thing}
use Rattle.private_store.specs.code.Kept.{IsFilled}

-- So many cells of one kind, each right behind the one before it, the first at this byte.
abbrev pub row_cells : Kind → ℕ → ℕ → List (ℕ × Kind)
row_cells kind from ℕ.zero = []
row_cells kind from (ℕ.suc n) = (from, kind) ∷ row_cells kind (from + kind_size kind) n

-- The shape whose cells are so many of one kind, each right behind the one before it.
abbrev pub row_shape : Kind → ℕ → Shape
row_shape kind n = record { size = n * kind_size kind; cells = row_cells kind 0 n }

-- The shape is a row of cells of this kind.
abbrev pub IsRow : Kind → Shape → Type 0
IsRow kind shape = shape ≡ row_shape kind (shape.size / kind_size kind)

-- Whether these are cells of one kind, each right behind the one before it, from a byte on up to the end of an element.
abbrev pub is_row_from : Kind → ℕ → ℕ → List (ℕ × Kind) → Bool
is_row_from kind from size [] = from == size
is_row_from kind from size (c ∷ cells) =
    c.0 == from && (same_kind c.1 kind && is_row_from kind (from + kind_size kind) size cells)

-- What the cells of an object are, of which there are so many, with its shape.
abbrev pub form_shape : Form → ℕ → Shape
form_shape (Row kind place) count = row_shape kind count
form_shape (Listed shape cells) count = shape

-- The form is of this shape.
abbrev pub IsForm : Form → Shape → Type 0
IsForm (Row kind place) shape = IsRow kind shape
IsForm (Listed own cells) shape = (own ≡ shape) × (cells.items ≡ shape.cells)

-- The known shape at this place.
pub record IsKnown (known : List Known) (place : ℕ) (shape : Shape) : Type 0 where
  pub there : place < length known
  pub is : (d : Known) → (slice_index_or known place d).shape ≡ shape

-- The shape of this form is lent by the form or by the list of known shapes.
abbrev pub IsLent : Form → List Known → Shape → Type 0
IsLent (Row kind place) known shape = IsKnown known place shape
IsLent (Listed own cells) known shape = own ≡ shape

-- So many values, from a place on.
abbrev pub part : ℕ → ℕ → List Value → List Value
part first count values = take count (drop first values)

-- What an object is, with the list of the values of all objects.
abbrev pub thing_of : List Value → Object → Thing
thing_of values o =
    record { number = o.number; shape = form_shape o.form o.count; values = part o.first o.count values }

-- What objects are, with the list of the values of all.
abbrev pub things_of : List Value → List Object → List Thing
things_of values objects = map (thing_of values) objects

-- The shape of an object is one, and its size and form are kept beside it.
pub record IsSound (o : Object) : Type 0 where
  pub is_shape : IsShape (form_shape o.form o.count)
  pub size : o.size ≡ (form_shape o.form o.count).size
  pub form : IsForm o.form (form_shape o.form o.count)

-- An object has its values in the list of all, one that fits for each cell.
pub record IsLaid (values : List Value) (known : List Known) (o : Object) : Type 0 where
  pub sound : IsSound o
  pub lent : IsLent o.form known (form_shape o.form o.count)
  pub within : o.first + o.count ≤ length values
  pub filled : IsFilled (form_shape o.form o.count) (part o.first o.count values)

-- Known shapes are rows.
abbrev pub AreRows : List Known → Type 0
AreRows known = All (λ r. IsRow r.kind r.shape × (r.size ≡ r.shape.size)) known

-- The values of each object stand behind those of the objects before it, and the known shapes are rows.
pub record AreLaid (objects : List Object) (values : List Value) (known : List Known) : Type 0 where
  pub apart : AllPairs (λ x y. x.first + x.count ≤ y.first) objects
  pub laid : All (IsLaid values known) objects
  pub rows : AreRows known
