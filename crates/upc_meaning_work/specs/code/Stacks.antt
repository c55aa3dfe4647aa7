-- Lists of values, youngest first.
use Rattle.std.specs.Prelude.{ℕ, pos, Bool, true, false, List, [], ◌∷◌, take, reverse}
use Rattle.upc_values.specs.declared.scalar.Value.{Value}
use Rattle.thread_steps.specs.Values.{number}

-- The youngest value, or 0 where there is none.
abbrev pub top : List Value → Value
top [] = number (pos 0)
top (v ∷ below) = v

-- All values but the youngest.
abbrev pub rest : List Value → List Value
rest [] = []
rest (v ∷ below) = below

-- The n youngest values, oldest first.
abbrev pub youngest : ℕ → List Value → List Value
youngest n values = reverse (take n values)

-- The value below the youngest, or 0 where there is none.
abbrev pub second : List Value → Value
second values = top (rest values)

-- The values below the operands of an operator that takes two, or one.
abbrev pub below : (two : Bool) → List Value → List Value
below true values = rest (rest values)
below false values = rest values
