-- The functions that a source defines, by the numbers of their names in order of definition (C99 6.9.1).
use Rattle.std.specs.Prelude.{ℕ, ◌+◌, ◌==◌, if◌then◌else◌, List, [], ◌∷◌}

-- The number of a function among those that are defined, or how many there are where it is not defined (C99 6.9.1).
abbrev pub number_in : List ℕ → ℕ → ℕ
number_in [] name = 0
number_in (x ∷ xs) name = if x == name then 0 else number_in xs name + 1
