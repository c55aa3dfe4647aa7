-- Lists of picks with one more at their fronts.
use Rattle.std.specs.Prelude.{ℕ, List, ◌∷◌, map}

-- Each list with this pick at its front.
abbrev pub begun : ℕ → List (List ℕ) → List (List ℕ)
begun first lists = map (λ picks. first ∷ picks) lists
