-- The formats of printf, and the text that it prints: a part of C99 7.19.6.1.
use Rattle.std.specs.Prelude.{ℕ, zero, suc, ◌+◌, ◌-◌, ◌*◌, ◌==◌, nat_le, ℤ, pos, int_lt, unsigned_abs, Bool, true}
use Rattle.std.specs.Prelude.{false, ◌&&◌, if◌then◌else◌, List, [], ◌∷◌, ◌++◌, length, drop, replicate, take_while}
use Rattle.std.specs.Prelude.{Option, Some, None}
use Rattle.std.specs.Fmt.{decimal, digits, sign_text}
use Rattle.block_layout.specs.declared.kind.Kind.{Kind}
use Rattle.block_layout.specs.declared.kind.Kind.TheVariants.{UChar, Int, UInt, Long, ULong}
use Rattle.integers.specs.Integers.{converted}
use Rattle.upc_values.specs.declared.format.Style.{Style}
use Rattle.upc_values.specs.declared.format.Style.TheVariants.{Signed, Unsigned, Hexadecimal, Byte}
use Rattle.upc_values.specs.declared.format.Conversion.{Conversion}
use Rattle.upc_values.specs.declared.format.Piece.{Piece}
use Rattle.upc_values.specs.declared.format.Piece.TheVariants.{Plain, Converted, Stray}
use Rattle.upc_values.specs.declared.format.Found.{Found}
use Rattle.block_layout.specs.Lists.{under}

-- The byte is a decimal digit.
abbrev pub is_digit : ℕ → Bool
is_digit b = nat_le 48 b && nat_le b 57

-- The list begins with this byte.
abbrev pub begins_with : ℕ → List ℕ → Bool
begins_with b [] = false
begins_with b (x ∷ xs) = x == b

-- The bytes of a flag or an `l`: one where it stands, else none.
abbrev pub count_of : Bool → ℕ
count_of stands = if stands then 1 else 0

-- The width that these digits write: there are at most two, and the first is not 0; without digits it is 0.
abbrev pub width_of : List ℕ → Option ℕ
width_of [] = Some 0
width_of (a ∷ []) = if a == 48 then None else Some (a - 48)
width_of (a ∷ b ∷ []) = if a == 48 then None else Some (10 * (a - 48) + (b - 48))
width_of ds = None

-- The style of a conversion by its letter, the first byte: after an `l` one of `d u x`, and without one of `d i u x c`
-- (C99 7.19.6.1).
abbrev pub style_in : (long : Bool) → List ℕ → Option Style
style_in long [] = None
style_in true (b ∷ bs) = under b ((100, Signed) ∷ (117, Unsigned) ∷ (120, Hexadecimal) ∷ [])
style_in false (b ∷ bs) =
    under b ((100, Signed) ∷ (105, Signed) ∷ (117, Unsigned) ∷ (120, Hexadecimal) ∷ (99, Byte) ∷ [])

-- A conversion with this width and style, of so many bytes; without a width or a style there is none.
abbrev pub conversion : (zeros : Bool) → Option ℕ → (long : Bool) → Option Style → (bytes : ℕ) → Found
conversion zeros (Some w) long (Some s) n =
    record { piece = Converted (record { zeros = zeros; width = w; long = long; style = s }); bytes = n }
conversion zeros w long s n = record { piece = Stray; bytes = 0 }

-- The conversion with which the bytes after a `%` begin: an optional `0`, an optional width, an optional `l`, a letter
-- (C99 7.19.6.1).
abbrev pub conversion_in : List ℕ → Found
conversion_in bs =
    let zeros = begins_with 48 bs in
    let width = take_while is_digit (drop (count_of zeros) bs) in
    let letters = drop (length width) (drop (count_of zeros) bs) in
    let long = begins_with 108 letters in
    let bytes = count_of zeros + length width + count_of long + 1 in
    conversion zeros (width_of width) long (style_in long (drop (count_of long) letters)) bytes

-- What the bytes after a `%` begin: with another `%` one that prints itself, else a conversion (C99 7.19.6.1).
abbrev pub found_in : List ℕ → Found
found_in bs = if begins_with 37 bs then record { piece = Plain 37; bytes = 1 } else conversion_in bs

-- The pieces of a format after its first n bytes: a `%` begins a conversion, whose bytes are passed over, and every
-- other byte prints itself.
abbrev pub pieces_behind : ℕ → List ℕ → List Piece
pieces_behind n [] = []
pieces_behind (suc n) (b ∷ bs) = pieces_behind n bs
pieces_behind zero (b ∷ bs) =
    if b == 37
    then (found_in bs).piece ∷ pieces_behind (found_in bs).bytes bs
    else Plain b ∷ pieces_behind 0 bs

-- A text that is shorter than the width is filled on its left: with zeros after the sign, or with blanks before it.
abbrev pub filled : Bool → ℕ → (sign digits : List ℕ) → List ℕ
filled zeros width sign digits =
    let fill = width - length (sign ++ digits) in
    if zeros then sign ++ replicate fill 48 ++ digits else replicate fill 32 ++ sign ++ digits

-- The kind to which a conversion's value is converted (C99 7.19.6.1).
abbrev pub kind_of : (long : Bool) → Style → Kind
kind_of long Signed = if long then Long else Int
kind_of long Unsigned = if long then ULong else UInt
kind_of long Hexadecimal = if long then ULong else UInt
kind_of long Byte = UChar

-- The digits of a number without its sign: in decimal or in lower-case hexadecimal, or the one byte of that value.
abbrev pub shown : Style → ℕ → List ℕ
shown Signed n = decimal n
shown Unsigned n = decimal n
shown Hexadecimal n = digits 16 false n
shown Byte n = n ∷ []

-- The style may be filled with zeros; a byte is filled with blanks, whatever the flag.
abbrev pub may_have_zeros : Style → Bool
may_have_zeros Byte = false
may_have_zeros s = true

-- The text of a value by a conversion: converted to its type, with its sign, and filled.
abbrev pub text_of : Conversion → ℤ → List ℕ
text_of c v =
    let n = converted (kind_of c.long c.style) v in
    filled (c.zeros && may_have_zeros c.style) c.width (sign_text (int_lt n (pos 0))) (shown c.style (unsigned_abs n))

-- The text of pieces, whose conversions take the values in order. A `%` that begins no conversion prints nothing, nor
-- does a conversion without a value: no accepted source has one.
abbrev pub text : List Piece → List ℤ → List ℕ
text [] vs = []
text (Plain b ∷ ps) vs = b ∷ text ps vs
text (Converted c ∷ ps) (v ∷ vs) = text_of c v ++ text ps vs
text (Converted c ∷ ps) [] = text ps []
text (Stray ∷ ps) vs = text ps vs

-- What printf prints, by its format and the values after it (C99 7.19.6.1).
abbrev pub printed : (format : List ℕ) → List ℤ → List ℕ
printed format vs = text (pieces_behind 0 format) vs
