-- The program's parts as the definitions have them.
use Rattle.std.specs.Prelude.{ℕ, ◌<◌, List}
use Rattle.std.specs.List.{All}
use Rattle.block_layout.specs.declared.kind.Kind.{Kind}
use Rattle.upc_values.specs.Expansions as said
use Rattle.upc_library.specs.layer.Spots.{pointer_of, IsRoomFor}
use Rattle.collectives.specs.declared.part.Part.{Part}

-- the part of the definitions
abbrev pub part_of : Part → said.Part
part_of x = said.part (pointer_of x.into) (pointer_of x.from)

-- so many bytes at both pointers of a part have offsets that are numbers of 32 bits
pub record HasRoom (n : ℕ) (x : Part) : Type 0 where
  pub into : IsRoomFor n x.into.offset
  pub from : IsRoomFor n x.from.offset

-- what parts that are copied keep: room for so many bytes, and cells within them
pub record IsCopying (n : ℕ) (part : Part) (cell : ℕ × Kind) (cells : List (ℕ × Kind)) (parts : List Part) : Type 0 where
  pub room : HasRoom n part
  pub inside : cell.0 < n
  pub within : All (λ c. c.0 < n) cells
  pub rooms : All (HasRoom n) parts
