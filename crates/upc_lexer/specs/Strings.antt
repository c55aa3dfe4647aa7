-- Character constants and string literals (C99 6.4.4.4, 6.4.5).
use Rattle.std.specs.Prelude.{◌≡◌, ℕ, Bool, true, false, not, ◌||◌, ◌&&◌, nat_le, ◌==◌, if◌then◌else◌}
use Rattle.std.specs.Prelude.{List, [], ◌∷◌, ◌++◌}
use Rattle.std.specs.Prelude.{Option, Some, None, option_map, option_and_then, ◌⊎◌, ◌≤◌, length, take, drop}
use Rattle.upc_lexer.specs.Splices.{has_trigraph}

-- The byte for which an escape stands, by the byte after its `\`, which is one of `n t r a b f v \ ' " ? 0`
-- (C99 6.4.4.4).
abbrev pub escape : ℕ → Option ℕ
escape e =
    if e == 110 then Some 10 else (
    if e == 116 then Some 9 else (
    if e == 114 then Some 13 else (
    if e == 97 then Some 7 else (
    if e == 98 then Some 8 else (
    if e == 102 then Some 12 else (
    if e == 118 then Some 11 else (
    if e == 92 || e == 39 || e == 34 || e == 63 then Some e else (
    if e == 48 then Some 0 else None))))))))

-- Whether a byte stands for itself in a character constant: one from 32 to 126 other than `'` and `\` (C99 6.4.4.4).
abbrev pub is_plain_character : ℕ → Bool
is_plain_character b = nat_le 32 b && nat_le b 126 && not (b == 39) && not (b == 92)

-- Whether a byte stands for itself in a string: one of at least 32 other than 127, `"` and `\` (C99 6.4.5).
abbrev pub is_plain_string : ℕ → Bool
is_plain_string b = nat_le 32 b && not (b == 127) && not (b == 34) && not (b == 92)

-- The text is a character constant of this value (C99 6.4.4.4).
abbrev pub IsCharacter : List ℕ → ℕ → Type 0
IsCharacter text value =
    ((text ≡ 39 ∷ value ∷ 39 ∷ []) × (is_plain_character value ≡ true))
    ⊎ ((e : ℕ) × (text ≡ 39 ∷ 92 ∷ e ∷ 39 ∷ []) × (escape e ≡ Some value))

-- The value of the bytes between two `"`; none where they may not stand there (C99 6.4.5).
abbrev pub string_value : List ℕ → Option (List ℕ)
string_value [] = Some []
string_value (a ∷ []) = if is_plain_string a then Some (a ∷ []) else None
string_value (a ∷ b ∷ rest) =
    if is_plain_string a then option_map (λ v. a ∷ v) (string_value (b ∷ rest))
    else (if a == 92 then option_and_then (λ c. option_map (λ v. c ∷ v) (string_value rest)) (escape b) else None)

-- At the front are `\0` and an octal digit, which begin a longer octal escape (C99 6.4.4.4).
abbrev pub opens_octal : List ℕ → Bool
opens_octal [] = false
opens_octal (a ∷ []) = false
opens_octal (a ∷ b ∷ []) = false
opens_octal (a ∷ b ∷ c ∷ rest) = a == 92 && b == 48 && nat_le 48 c && nat_le c 55

-- Such an escape stands somewhere in the bytes, where each `\` takes the byte after it.
abbrev pub has_octal : List ℕ → Bool
has_octal [] = false
has_octal (a ∷ []) = false
has_octal (a ∷ b ∷ rest) = opens_octal (a ∷ b ∷ rest) || (if a == 92 then has_octal rest else has_octal (b ∷ rest))

-- C99 reads the bytes between two `"` in another way: by a longer octal escape (C99 6.4.4.4) or a trigraph (5.2.1.1).
abbrev pub is_read_otherwise : List ℕ → Bool
is_read_otherwise inside = has_octal inside || has_trigraph inside

-- The text is a string literal of this value (C99 6.4.5).
pub record IsString (text value : List ℕ) : Type 0 where
  pub inside : List ℕ
  pub quoted : text ≡ 34 ∷ inside ++ 34 ∷ []
  pub spelled : string_value inside ≡ Some value
  pub only_so : is_read_otherwise inside ≡ false

-- The byte of a string's value that the front of the bytes spells, and with how many bytes; none where it spells none
-- (C99 6.4.5).
abbrev pub spelled_at : List ℕ → Option (ℕ × ℕ)
spelled_at [] = None
spelled_at (a ∷ []) = if is_plain_string a then Some (a, 1) else None
spelled_at (a ∷ b ∷ rest) =
    if a == 92
    then option_map (λ c. (c, 2)) (escape b)
    else (if is_plain_string a then Some (a, 1) else None)

-- So many bytes of the front may stand between two `"`, with this value, and no more (C99 6.4.5).
pub record IsStringBody (bytes value : List ℕ) (n : ℕ) : Type 0 where
  pub within : n ≤ length bytes
  pub value_is : string_value (take n bytes) ≡ Some value
  pub stops : spelled_at (drop n bytes) ≡ None

-- What the code finds at the front of the bytes: a character constant with its value and its length, or none
-- (C99 6.4.4.4).
abbrev pub FindsCharacter : List ℕ → Option (ℕ × ℕ) → Type 0
FindsCharacter bytes None = (text rest : List ℕ) (value : ℕ) → bytes ≡ text ++ rest → IsCharacter text value → ⊥
FindsCharacter bytes (Some r) = (r.1 ≤ length bytes) × IsCharacter (take r.1 bytes) r.0

-- What the code finds at the front of the bytes: a string literal with its value and its length, or none (C99 6.4.5).
abbrev pub FindsString : List ℕ → Option (List ℕ × ℕ) → Type 0
FindsString bytes None = (text rest value : List ℕ) → bytes ≡ text ++ rest → IsString text value → ⊥
FindsString bytes (Some r) = (r.1 ≤ length bytes) × IsString (take r.1 bytes) r.0
