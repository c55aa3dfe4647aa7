-- When two spaces are alike for the first threads.
use Rattle.std.specs.Prelude.{ℕ, ◌≡◌, ◌<◌}
use Rattle.block_layout.specs.declared.place.Loc.{Loc}
use Rattle.replica_space.specs.Spaces.{Space}

-- Each of the first n threads has the same clock, copy and mail from each of them in both.
pub record IsSame (n : ℕ) (s r : Space) : Type 0 where
  pub clock : (t : ℕ) → t < n → s.clock t ≡ r.clock t
  pub copy : (t : ℕ) (l : Loc) → t < n → s.copy t l ≡ r.copy t l
  pub mail : (to from : ℕ) → to < n → from < n → s.mail to from ≡ r.mail to from
