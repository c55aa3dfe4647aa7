-- What the targets of the code keep.
use Rattle.std.specs.Prelude.{◌≡◌, ℕ, ◌<◌, List, length, map, get_or}
use Rattle.upc_types.specs.Types.{CType}
use Rattle.upc_types.specs.Cells.{number_of}
use Rattle.upc_types.specs.code.TypeCodes.{code_of}

-- No two of these targets are alike.
abbrev pub AreApart : List CType → Type 0
AreApart targets = (i : ℕ) (t : CType) → i < length targets → number_of targets (get_or targets i t) ≡ i

-- The codes of these targets, in order.
abbrev pub codes_of : List CType → List ℕ
codes_of targets = map code_of targets
