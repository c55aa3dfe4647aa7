-- What reductions and permutations keep on their way.
use Rattle.std.specs.Prelude.{ℕ, ◌≡◌, ◌+◌, ◌≤◌, ℤ, List, length}
use Rattle.std.specs.List.{All}
use Rattle.block_layout.specs.declared.kind.Kind.{Kind}
use Rattle.integers.specs.Integers.{IsInteger}
use Rattle.upc_library.specs.declared.spot.Spot.{Spot}
use Rattle.upc_library.specs.layer.Spots.{IsRoomFor}

-- room at an element
abbrev pub HasPlace : Spot → Type 0
HasPlace p = IsRoomFor 1 p.offset

-- a permutation: as many numbers have come as elements are read, one for each thread at most
pub record IsNumbering (bytes : ℕ) (came : List ℤ) (element : Spot) (elements : List Spot) (at : ℕ) : Type 0 where
  pub small : bytes ≤ 16777216
  pub room : HasPlace element
  pub rooms : All HasPlace elements
  pub read : length came + 1 ≡ at
  pub inside : at ≤ length elements
  pub few : length elements ≤ 32

-- a reduction: integers, and room at each element
pub record IsTotal (kind : Kind) (dst element : Spot) (elements : List Spot) : Type 0 where
  pub integer : IsInteger kind
  pub place : HasPlace dst
  pub room : HasPlace element
  pub rooms : All HasPlace elements

-- a prefix reduction: integers, and room at each element of both sides, of which there are as many
pub record IsPrefixes (kind : Kind) (into from : Spot) (intos froms : List Spot) : Type 0 where
  pub integer : IsInteger kind
  pub place : HasPlace into
  pub room : HasPlace from
  pub places : All HasPlace intos
  pub rooms : All HasPlace froms
  pub same : length intos ≡ length froms
