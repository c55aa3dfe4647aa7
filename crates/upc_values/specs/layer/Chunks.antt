-- A list in chunks of 4,096 members.
use Rattle.std.specs.Prelude.{ℕ, ◌≡◌, List, [], ◌∷◌, ◌++◌, length, Vec}
use Rattle.std.specs.declared.alloc.Global.{Global}

-- The members of a list, and for how many more of them there is room.
pub record Roomy (X : Type 0) : Type 0 where
  pub items : List X
  pub room : ℕ

module _ {X : Type 0} where
  -- The list of these members with room for n more.
  abbrev pub roomy : List X → ℕ → Roomy X
  roomy xs n = record { items = xs; room = n }

  -- The members of chunks, one chunk after the other, and the members ys after them.
  abbrev pub joined : List (Vec X Global) → List X → List X
  joined [] ys = ys
  joined (c ∷ cs) ys = c.items ++ joined cs ys

  -- Each chunk has 4,096 members.
  abbrev pub AreFull : List (Vec X Global) → Type 0
  AreFull [] = Unit {0}
  AreFull (c ∷ cs) = (length c.items ≡ 4096) × AreFull cs
