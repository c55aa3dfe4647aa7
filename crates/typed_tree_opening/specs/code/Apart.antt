-- What shapes with numbers keep.
use Rattle.std.specs.Prelude.{◌≡◌, ℕ, zero, suc, ◌+◌, ◌-◌, ◌*◌, ◌/◌, ◌%◌, ◌==◌, ◌<◌, if◌then◌else◌, List, [], ◌∷◌, length}
use Rattle.std.specs.Prelude.{map, get_or, Bool, true, false, None}
use Rattle.block_layout.specs.declared.kind.Kind.{Kind}
use Rattle.block_layout.specs.declared.kind.Kind.TheVariants.{Char, UChar, Short, UShort, Int, UInt, Long, ULong}
use Rattle.block_layout.specs.declared.kind.Kind.TheVariants.{Shared, Lock, Private}
use Rattle.block_layout.specs.declared.kind.Shape.{Shape}
pub use Rattle.block_layout.specs.Cells.{cells_from}
use Rattle.upc_types.specs.declared.ctype.Access.TheVariants.{Unsaid}
use Rattle.upc_types.specs.Types.{Qualified, Struct, Structs}
use Rattle.typed_tree.specs.Elements.{element_shape, number_among}

-- The number that stands for a kind in the code of a shape.
abbrev pub kind_code : Kind → ℕ
kind_code Char = 1
kind_code UChar = 2
kind_code Short = 3
kind_code UShort = 4
kind_code Int = 5
kind_code UInt = 6
kind_code Long = 7
kind_code ULong = 8
kind_code Lock = 9
kind_code (Shared number block) = number
kind_code (Private number) = number

-- The code of a shape after one more cell, which is below 4,294,967,291.
abbrev pub with_cell : ℕ → ℕ × Kind → ℕ
with_cell code c = (code * 65599 + c.0 + kind_code c.1 * 16777259) % 4294967291

-- The code of a shape after the first of these cells, so many at most; those after them do not count.
abbrev pub cells_code : ℕ → ℕ → List (ℕ × Kind) → ℕ
cells_code most code [] = code
cells_code most code (c ∷ cs) = if most == 0 then code else cells_code (most - 1) (with_cell code c) cs

-- The byte from which on cells count at this place of 16 of so many bytes: 16 before it.
abbrev pub place_at : ℕ → ℕ → ℕ
place_at size i = size * i / 16 - 16

-- The code of a shape by the cells at so many of its places, 16 at each.
abbrev pub places_code : Shape → ℕ → ℕ
places_code s zero = s.size
places_code s (suc i) = cells_code 16 (places_code s i) (cells_from (place_at s.size i) s.cells)

-- The code of a shape, which is the same for all shapes that are equal.
unfoldable pub code_of : Shape → ℕ
code_of s = places_code s 16

-- The codes of these shapes, in order.
abbrev pub codes_of : List Shape → List ℕ
codes_of shapes = map code_of shapes

-- No two of these shapes are equal.
abbrev pub AreApart : List Shape → Type 0
AreApart shapes = (i : ℕ) (s : Shape) → i < length shapes → number_among shapes (get_or shapes i s) ≡ i

-- The shape of an element that is a struct, by its number.
abbrev pub struct_shape : Structs → ℕ → Shape
struct_shape s number = element_shape s (Qualified (Struct number) false None Unsaid)

-- The shape of each of the structs that are marked by their numbers has a number.
abbrev pub AreNumbered : Structs → List Shape → List Bool → Type 0
AreNumbered s shapes seen = (n : ℕ) → get_or seen n false ≡ true → number_among shapes (struct_shape s n) < length shapes
