-- The marks of a location: for each write of it that has come to the end of a list, its stamp, and the slot that it is
-- in there.
use Rattle.std.specs.Prelude.{ℕ, ◌≡◌, List, [], ◌∷◌, ◌++◌, Option, slice_get}
use Rattle.replica_space.specs.declared.message.Stamp.{Stamp}
use Rattle.replica_space_orders.specs.layer.Finding.{IsFirstLater}

-- The stamps of one location's marks, and their slots.
pub record MarksState : Type 0 where
  pub stamps : List Stamp
  pub slots : List ℕ

-- No mark.
abbrev pub no_marks : MarksState
no_marks = record { stamps = []; slots = [] }

-- One more mark, as the last one.
abbrev pub with_mark : Stamp → ℕ → MarksState → MarksState
with_mark s k m = record { stamps = m.stamps ++ s ∷ []; slots = m.slots ++ k ∷ [] }

-- This is the slot of the first mark with a later stamp, if there is one.
abbrev pub IsFound : MarksState → Stamp → Option ℕ → Type 0
IsFound m s found = (n : ℕ) × IsFirstLater m.stamps s n × (found ≡ slice_get m.slots n)
