-- Where the members of a struct begin.
use Rattle.std.specs.Prelude.{ℕ, ◌+◌, List, [], ◌∷◌}
use Rattle.upc_types.specs.declared.layout.Layout.{Layout}
use Rattle.upc_types.specs.Layout.{aligned}

-- The offsets of members with these layouts that follow so many bytes, each at the first place of its alignment after
-- the one before it (C99 6.7.2.1).
abbrev pub starts_behind : ℕ → List Layout → List ℕ
starts_behind end [] = []
starts_behind end (m ∷ ms) = aligned end m.align ∷ starts_behind (aligned end m.align + m.size) ms
