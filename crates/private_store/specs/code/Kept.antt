-- What holds of the fields of a store at any time.
use Rattle.std.specs.Prelude.{ℕ, ℤ, pos, negsuc, ◌≡◌, ◌≤◌, ◌<◌, ◌^◌, true, false, unsigned_abs, List, length}
use Rattle.std.specs.Prelude.{slice_index_or, All, Option, Some, None, Result, Ok, Err}
use Rattle.std.specs.List.{AllPairs, AllZip}
use Rattle.block_layout.specs.declared.kind.Kind.{Kind}
use Rattle.block_layout.specs.declared.kind.Shape.{Shape}
use Rattle.block_layout.specs.declared.place.LocalPtr.{LocalPtr}
use Rattle.block_layout.specs.Shapes.{IsShape}
use Rattle.upc_values.specs.declared.scalar.Value.{Value}
use Rattle.block_layout.specs.Lists.{under}
use Rattle.upc_values.specs.Shapes.{value_fits}
use Rattle.private_store.specs.declared.frame.Block.{Block}
use Rattle.private_store.specs.Live.{Thing, thing_bytes}
use Rattle.private_store.specs.Cells.{cell_in, lies_within, reached}

-- Each cell of a shape has a value, which fits it.
pub record IsFilled (shape : Shape) (values : List Value) : Type 0 where
  pub is_shape : IsShape shape
  pub fit : AllZip (λ c v. value_fits v c.1 ≡ true) shape.cells values

-- Each object has a lower number than those after it.
abbrev pub AreNumbered : List Thing → Type 0
AreNumbered things = AllPairs (λ x y. x.number < y.number) things

-- Numbers rise, none has been given twice, and the bytes are counted.
pub record IsKept (objects : List Thing) (blocks : List Block) (next space : ℕ) : Type 0 where
  pub numbered : AreNumbered objects
  pub below : All (λ x. x.number < next) objects
  pub few : next ≤ 2 ^ 63
  pub firsts : All (λ b. b.first ≤ 2 ^ 63) blocks
  pub counted : space ≡ thing_bytes objects
  pub room : space ≤ 1048576

-- The cell at this place is of this kind.
pub record CellIs (cells : List (ℕ × Kind)) (place : ℕ) (kind : Kind) : Type 0 where
  pub there : place < length cells
  pub kind_is : (d : ℕ × Kind) → (slice_index_or cells place d).1 ≡ kind

-- The byte at an offset, where so many bytes from there on lie in an object of this size.
abbrev pub IsByte : ℤ → ℕ → ℕ → Option ℕ → Type 0
IsByte offset width size (Some b) = (lies_within offset width size ≡ true) × (unsigned_abs offset ≡ b)
IsByte offset width size None = lies_within offset width size ≡ false

-- What an access to an object reaches: the place of a cell of the kind, or the code of the run error.
abbrev pub IsPlace : Thing → ℤ → Kind → Result ℕ ℕ → Type 0
IsPlace x offset kind (Ok c) =
    CellIs x.shape.cells c kind × (cell_in (Some x) offset kind ≡ Ok record { object = x; place = c })
IsPlace x offset kind (Err code) = cell_in (Some x) offset kind ≡ Err code

-- The cell at a place of the object at a place.
pub record Reaches (things : List Thing) (p : LocalPtr) (kind : Kind) (at : ℕ × ℕ) : Type 0 where
  pub there : at.0 < length things
  pub cell : (d : Thing) → CellIs (slice_index_or things at.0 d).shape.cells at.1 kind
  pub is : (d : Thing) → reached p kind things ≡ Ok record { object = slice_index_or things at.0 d; place = at.1 }

-- What an access reaches among these objects.
abbrev pub IsReached : List Thing → LocalPtr → Kind → Result (ℕ × ℕ) ℕ → Type 0
IsReached things p kind (Ok at) = Reaches things p kind at
IsReached things p kind (Err code) = reached p kind things ≡ Err code

-- The kind of the cell that begins at an offset.
abbrev pub kind_there : ℤ → List (ℕ × Kind) → Option Kind
kind_there (pos byte) cells = under byte cells
kind_there (negsuc n) cells = None
