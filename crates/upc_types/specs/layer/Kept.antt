-- What the structs of the code keep.
use Rattle.std.specs.Prelude.{◌≡◌, ℕ, ◌<◌, ◌≤◌, Bool, true, not, ◌&&◌, List, [], ◌∷◌, Option, None, get_or}
use Rattle.std.specs.Option.{ForSome}
use Rattle.upc_types.specs.declared.layout.Layout.{Layout}
use Rattle.upc_types.specs.declared.layout.Known.{Known}
use Rattle.upc_types.specs.Types.{Completed}
use Rattle.upc_types.specs.Layout.{known_in, complete_in, all_complete, most_bytes}

-- A size and an alignment that an object can have.
pub record IsFine (l : Layout) : Type 0 where
  pub some : 0 < l.size
  pub few : l.size ≤ most_bytes
  pub low : 0 < l.align
  pub high : l.align ≤ 16

-- Whether each struct was completed once, when the types of its members were complete (C99 6.7.2.1, 6.7.2.3).
abbrev pub is_ordered : List Completed → Bool
is_ordered [] = true
is_ordered (c ∷ older) = not (complete_in older c.number)
    && (all_complete (complete_in older) c.members && is_ordered older)

-- What is known of each struct by its number is what the structs, in the order of completion, say; and each has a size
-- and an alignment that an object can have.
pub record IsKept (completed : List Completed) (known : List (Option Known)) : Type 0 where
  pub each : (n : ℕ) → get_or known n None ≡ known_in completed n
  pub fine : (n : ℕ) → ForSome (known_in completed n) (λ k. IsFine k.layout)
  pub ordered : is_ordered completed ≡ true
