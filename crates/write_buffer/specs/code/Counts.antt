-- How many pending writes are counted at each of 256 places.
use Rattle.std.specs.Prelude.{ℕ, ◌≡◌, ◌+◌, ◌*◌, ◌/◌, ◌%◌, ◌==◌, cond, List, [], ◌∷◌, length, slice_index_or}
use Rattle.block_layout.specs.declared.place.Loc.{Loc}
use Rattle.write_buffer.specs.declared.pending.Pending.{Pending}

-- Where a location is counted.
abbrev pub place_of : Loc → ℕ
place_of l = (l.object * 31 + l.thread * 7 + l.offset / 4) % 256

-- How many of the writes are counted at a place.
abbrev pub counted : ℕ → List Pending → ℕ
counted k [] = 0
counted k (p ∷ ps) = cond (place_of p.loc == k) 1 0 + counted k ps

-- Each count is how many of the writes are counted at its place.
pub record IsCounted (ps : List Pending) (counts : List ℕ) : Type 0 where
  pub many : length counts ≡ 256
  pub each : (k : ℕ) → slice_index_or counts k 0 ≡ counted k ps
