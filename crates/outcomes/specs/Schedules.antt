-- Lists of picks.
use Rattle.std.specs.Prelude.{ℕ, zero, suc, List, [], ◌∷◌, map}
use Rattle.std.specs.List.{flat_map, range_with_len}

-- Every list of at most so many picks, each below the number of threads.
abbrev pub lists : ℕ → ℕ → List (List ℕ)
lists threads zero = [] ∷ []
lists threads (suc most) =
    [] ∷ flat_map (λ first. map (λ picks. first ∷ picks) (lists threads most)) (range_with_len 0 threads)
