-- The saved values, as pages have them.
use Rattle.std.specs.Prelude.{ℕ, ℤ, ◌+◌, ◌*◌, ◌/◌, List, [], ◌∷◌, ◌++◌, map, take, Option, Some, None}
use Rattle.std.specs.Map.{lookup}
use Rattle.block_layout.specs.declared.place.Loc.{Loc}
use Rattle.block_layout.specs.declared.place.SharedPtr.{SharedPtr}
use Rattle.upc_values.specs.declared.scalar.Scalar.{Scalar}
use Rattle.upc_values.specs.declared.scalar.Scalar.TheVariants.{Int, Shared, Lock}
use Rattle.upc_values.specs.Scalars.{same_loc}
use Rattle.shared_heap.specs.declared.page_number.PageNumber.{PageNumber}

-- The page of a location.
abbrev pub page_of : Loc → PageNumber
page_of l = record { object = l.object; thread = l.thread; index = l.offset / 1024 }

-- The location of an offset of a page.
abbrev pub loc_at : PageNumber → ℕ → Loc
loc_at p at = record { object = p.object; thread = p.thread; offset = p.index * 1024 + at }

module _ {X : Type 0} where
  -- The values of a page's offsets from this one on, by location.
  abbrev pub from_offset : PageNumber → ℕ → List (Option X) → List (Loc × X)
  from_offset p at [] = []
  from_offset p at (None ∷ vs) = from_offset p (at + 1) vs
  from_offset p at (Some v ∷ vs) = (loc_at p at, v) ∷ from_offset p (at + 1) vs

  -- The values of the 1,024 offsets of each page, by location.
  abbrev pub by_loc : List (PageNumber × List (Option X)) → List (Loc × X)
  by_loc [] = []
  by_loc (e ∷ es) = from_offset e.0 0 (take 1024 e.1) ++ by_loc es

  -- The first value that the list has for the location, if it has one.
  abbrev pub found : Loc → List (Loc × X) → Option X
  found l xs = lookup (same_loc l) xs

-- The values of all kinds: the integers, then the pointers, then the locks.
abbrev pub all_cells : List (Loc × ℤ) → List (Loc × SharedPtr) → List (Loc × ℕ) → List (Loc × Scalar)
all_cells integers pointers locks =
    map (λ e. (e.0, Int e.1)) integers ++ (map (λ e. (e.0, Shared e.1)) pointers ++ map (λ e. (e.0, Lock e.1)) locks)
