-- Programs of sources that are accepted.
use Rattle.std.specs.Prelude.{◌≡◌, ℕ, List}
use Rattle.upc_tree.specs.Unit.{External}
use Rattle.typed_tree.specs.Programs.{Checked}
use Rattle.upc_checker.specs.Outcomes.{Accepted, outcome}

-- A program is that of a source that is accepted, with some spellings of its names and a number of threads.
abbrev pub IsOfSource : Checked → Type 0
IsOfSource program =
    (names : List (List ℕ)) × (threads : ℕ) × (unit : List External) × (outcome names threads unit ≡ Accepted program)
