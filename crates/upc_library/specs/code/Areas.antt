-- The program's areas as the definitions have them.
use Rattle.std.specs.Prelude.{ℕ, ◌≡◌, ◌||◌, not, true, false, List, Option, Some, None, IfSome}
use Rattle.block_layout.specs.Cells.{same_cells}
use Rattle.block_layout.specs.Shapes.{IsShape}
use Rattle.upc_values.specs.Lists.{Each}
use Rattle.block_layout.specs.declared.kind.Kind.{Kind}
use Rattle.block_layout.specs.declared.kind.Shape.{Shape}
use Rattle.upc_values.specs.Copying as said
use Rattle.upc_library.specs.layer.Spots.{IsRoomFor}
use Rattle.upc_library.specs.declared.areas.Area.{Area}
use Rattle.upc_library.specs.declared.areas.Area.TheVariants as area

-- The area of the definitions that an area of the program stands for.
abbrev pub area_in : Area → said.Area
area_in area.Nowhere = said.Nowhere
area_in (area.Shared p) = said.In_shared p
area_in (area.Private object offset) = said.In_private object offset

-- If the area is in a shared object, so many bytes from its beginning on have offsets that 32 bits can name.
abbrev pub HasSharedRoom : ℕ → Area → Type 0
HasSharedRoom n (area.Shared p) = IsRoomFor n p.offset
HasSharedRoom n a = Unit {0}

-- If the area is in a private object, so many bytes from its beginning on have offsets that 32 bits can name.
abbrev pub HasPrivateRoom : ℕ → Area → Type 0
HasPrivateRoom n (area.Private object offset) = IsRoomFor n offset
HasPrivateRoom n a = Unit {0}

-- So many bytes from the area's beginning on have offsets that 32 bits can name.
pub record HasRooms (n : ℕ) (a : Area) : Type 0 where
  pub shared : HasSharedRoom n a
  pub private : HasPrivateRoom n a

-- The shapes of a program, and that of a private object, if there is one, lie inside their elements.
pub record AreShapes (shapes : List Shape) (private : Option Shape) : Type 0 where
  pub each : Each IsShape shapes
  pub own : IfSome private IsShape

-- These are the cells in so many bytes from the beginnings of two areas on; none are given where a cell is cut, or the
-- cells of the two differ.
abbrev pub AreCommon : ℕ → List Shape → Option Shape → ℕ → said.Area → said.Area → Option (List (ℕ × Kind)) → Type 0
AreCommon threads shapes private n dst src None =
    (said.is_cut threads shapes private n dst || (said.is_cut threads shapes private n src
    || not (same_cells (said.cells threads shapes private n dst) (said.cells threads shapes private n src)))) ≡ true
AreCommon threads shapes private n dst src (Some cells) =
    ((said.is_cut threads shapes private n dst || (said.is_cut threads shapes private n src
    || not (same_cells (said.cells threads shapes private n dst) (said.cells threads shapes private n src)))) ≡ false)
    × (cells ≡ said.cells threads shapes private n dst)
