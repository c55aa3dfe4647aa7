-- The text of one piece of a format.
use Rattle.std.specs.Prelude.{ℕ, ℤ, ◌≤◌, ◌<◌, ◌^◌, unsigned_abs, List, [], ◌∷◌}
use Rattle.upc_values.specs.declared.format.Style.{Style}
use Rattle.upc_values.specs.declared.format.Style.TheVariants.{Byte}
use Rattle.upc_values.specs.declared.format.Piece.{Piece}
use Rattle.upc_values.specs.declared.format.Piece.TheVariants.{Plain, Converted}
use Rattle.upc_values.specs.Printing.{text_of}

-- A value lies in a range that holds those of all integer types.
abbrev pub IsNear : ℤ → Type 0
IsNear v = unsigned_abs v ≤ 2 ^ 66

-- A number that is shown as a byte is one.
abbrev pub FitsStyle : Style → ℕ → Type 0
FitsStyle Byte n = n < 256
FitsStyle s n = Unit {0}

-- What a piece of a format prints where these values are left.
abbrev pub piece_text : Piece → List ℤ → List ℕ
piece_text (Plain b) vs = b ∷ []
piece_text (Converted c) (v ∷ vs) = text_of c v
piece_text p vs = []

-- The values that are left after a piece of a format has taken its own.
abbrev pub values_behind : Piece → List ℤ → List ℤ
values_behind (Converted c) (v ∷ vs) = vs
values_behind p vs = vs
