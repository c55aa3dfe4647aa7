-- The place of a stamp among stamps that ascend.
use Rattle.std.specs.Prelude.{ℕ, ◌≡◌, ◌≤◌, ◌<◌, true, false, List, length, slice_index_or}
use Rattle.replica_space.specs.declared.message.Stamp.{Stamp}
use Rattle.replica_space.specs.Spaces.{is_later}

-- No stamp is later than one that stands after it.
abbrev pub Ascend : List Stamp → Type 0
Ascend stamps =
    (i j : ℕ) (d : Stamp) → i ≤ j → j < length stamps
    → is_later (slice_index_or stamps i d) (slice_index_or stamps j d) ≡ false

-- The n-th of the stamps is the first one that is later than this one; n is their number where none is.
pub record IsFirstLater (stamps : List Stamp) (stamp : Stamp) (n : ℕ) : Type 0 where
  pub within : n ≤ length stamps
  pub before : (i : ℕ) (d : Stamp) → i < n → is_later (slice_index_or stamps i d) stamp ≡ false
  pub later : (i : ℕ) (d : Stamp) → n ≤ i → i < length stamps → is_later (slice_index_or stamps i d) stamp ≡ true
