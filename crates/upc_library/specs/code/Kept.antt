-- What a memory call on its way keeps.
use Rattle.std.specs.Prelude.{ℕ, ◌≡◌, ◌<◌, false, true, List}
use Rattle.std.specs.List.{All}
use Rattle.block_layout.specs.declared.kind.Kind.{Kind}
use Rattle.upc_values.specs.Copying as said
use Rattle.upc_values.specs.Shapes.{is_integer}
use Rattle.upc_library.specs.code.Areas.{area_in, HasRooms}
use Rattle.upc_library.specs.layer.Walks.{Source, From, Filled}
use Rattle.upc_library.specs.declared.areas.Area.{Area}
use Rattle.upc_library.specs.declared.copying.Source as held
use Rattle.upc_library.specs.declared.copying.Source.TheVariants as source

-- Where the values come from, as the definitions have it.
abbrev pub source_in : held.Source → Source
source_in (source.Area a) = From (area_in a)
source_in (source.Byte b) = Filled b

-- The area leads somewhere, and has room for so many bytes.
pub record IsPlace (n : ℕ) (a : Area) : Type 0 where
  pub somewhere : said.is_nowhere (area_in a) ≡ false
  pub room : HasRooms n a

-- The source has room for so many bytes, or it is a byte and these cells are integers.
abbrev pub IsSource : ℕ → held.Source → List (ℕ × Kind) → Type 0
IsSource n (source.Area a) cells = IsPlace n a
IsSource n (source.Byte b) cells = All (λ c. is_integer c.1 ≡ true) cells

-- A memory call on its way: it has room at both ends, and its cells begin among its bytes.
pub record IsWalk (n : ℕ) (dst : Area) (src : held.Source) (cells : List (ℕ × Kind)) : Type 0 where
  pub into : IsPlace n dst
  pub from : IsSource n src cells
  pub within : All (λ c. c.0 < n) cells
