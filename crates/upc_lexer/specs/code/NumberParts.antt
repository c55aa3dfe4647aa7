-- How a number is taken apart.
use Rattle.std.specs.Prelude.{ℕ, ◌||◌, ◌&&◌, ◌==◌, if◌then◌else◌, List, [], ◌∷◌, take, drop}
use Rattle.std.specs.List.{prefix_len}
use Rattle.upc_lexer.specs.Numbers.{is_digit_in}
use Rattle.upc_lexer.specs.declared.numbers.Base.{Base}
use Rattle.upc_lexer.specs.declared.numbers.Base.TheVariants.{Decimal, Octal, Hexadecimal}

-- The base of a number, by its first two bytes (C99 6.4.4.1).
abbrev pub base_of : List ℕ → Base
base_of [] = Decimal
base_of (a ∷ []) = if a == 48 then Octal else Decimal
base_of (a ∷ b ∷ rest) = if a == 48 && (b == 120 || b == 88) then Hexadecimal else (if a == 48 then Octal else Decimal)

-- How many bytes stand before the digits of a number of this base (C99 6.4.4.1).
abbrev pub prefix_length : Base → ℕ
prefix_length Hexadecimal = 2
prefix_length base = 0

-- The bytes of a number after its prefix (C99 6.4.4.1).
abbrev pub behind_prefix : List ℕ → List ℕ
behind_prefix text = drop (prefix_length (base_of text)) text

-- How many digits of its base follow the prefix of a number (C99 6.4.4.1).
abbrev pub digit_count : List ℕ → ℕ
digit_count text = prefix_len (is_digit_in (base_of text)) (behind_prefix text)

-- The digits that follow the prefix of a number (C99 6.4.4.1).
abbrev pub digits_of : List ℕ → List ℕ
digits_of text = take (digit_count text) (behind_prefix text)

-- The bytes of a number after its digits, where its suffix stands (C99 6.4.4.1).
abbrev pub tail_of : List ℕ → List ℕ
tail_of text = drop (digit_count text) (behind_prefix text)
