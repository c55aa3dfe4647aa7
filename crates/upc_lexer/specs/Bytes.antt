-- The classes of bytes (C99 5.2.1, 6.4).
use Rattle.std.specs.Prelude.{ℕ, Bool, not, ◌||◌, ◌&&◌, nat_le, ◌==◌}

-- Whether a byte is a letter or `_` (C99 6.4.2.1).
abbrev pub is_letter : ℕ → Bool
is_letter b = (nat_le 97 b && nat_le b 122) || (nat_le 65 b && nat_le b 90) || b == 95

-- Whether a byte is a decimal digit (C99 6.4.2.1).
abbrev pub is_digit : ℕ → Bool
is_digit b = nat_le 48 b && nat_le b 57

-- Whether a name goes on with a byte: with a letter, `_` or a digit (C99 6.4.2.1).
abbrev pub is_name_byte : ℕ → Bool
is_name_byte b = is_letter b || is_digit b

-- Whether a number goes on with a byte: with a letter, `_`, a digit or `.` (C99 6.4.8).
abbrev pub is_number_byte : ℕ → Bool
is_number_byte b = is_name_byte b || b == 46

-- Whether a byte is a blank: a tab, a line feed, a vertical tab, a form feed, a carriage return or a space (C99 6.4).
abbrev pub is_blank : ℕ → Bool
is_blank b = (nat_le 9 b && nat_le b 13) || b == 32

-- Whether a byte is not the end of a line, which is byte 10 (C99 5.2.1).
abbrev pub is_in_line : ℕ → Bool
is_in_line b = not (b == 10)
