-- The greatest of some clocks.
use Rattle.std.proofs.Common.{◌≡◌, ℕ, ◌+◌, add-one, refl}
use Rattle.replica_space.specs.Spaces.{greater, greatest}

pub greatest-next : (n : ℕ) (f : ℕ → ℕ) → greatest (n + 1) f ≡ greater (greatest n f) (f n)
greatest-next n f = rw add-one refl
