-- How many messages wait.
use Rattle.std.specs.Prelude.{ℕ, ◌+◌, length}
use Rattle.replica_space.specs.Spaces.{Space}

-- The sum of a function's first n values.
abbrev pub sum_below : ℕ → (ℕ → ℕ) → ℕ
sum_below ℕ.zero f = 0
sum_below (ℕ.suc n) f = sum_below n f + f n

-- How many messages wait for the first n threads from them.
abbrev pub waiting_in : ℕ → Space → ℕ
waiting_in n s = sum_below n (λ to. sum_below n (λ from. length (s.mail to from)))
