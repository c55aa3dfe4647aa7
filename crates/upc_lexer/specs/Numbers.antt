-- Integer constants (C99 6.4.4.1), where long long is long.
use Rattle.std.specs.Prelude.{◌≡◌, ℕ, ◌+◌, ◌-◌, ◌*◌, ◌^◌, ◌≤◌, Bool, true, false, ◌||◌, ◌&&◌, nat_le, ◌==◌}
use Rattle.std.specs.Prelude.{if◌then◌else◌}
use Rattle.std.specs.Prelude.{List, [], ◌∷◌, ◌++◌, Option, Some, None, codes, fold, find, ◌⊎◌}
use Rattle.std.specs.List.{list_all}
use Rattle.upc_text.specs.declared.place.Code.{Code}
use Rattle.upc_text.specs.declared.place.Code.TheVariants.{Lex, Limit}
use Rattle.upc_lexer.specs.Bytes.{is_digit}
use Rattle.upc_lexer.specs.declared.numbers.Base.{Base}
use Rattle.upc_lexer.specs.declared.numbers.Base.TheVariants.{Decimal, Octal, Hexadecimal}
use Rattle.upc_lexer.specs.declared.numbers.Suffix.{Suffix}
use Rattle.upc_lexer.specs.declared.token.Token.{Token}
use Rattle.upc_lexer.specs.declared.token.TokenKind.{TokenKind}
use Rattle.upc_lexer.specs.declared.token.TokenKind.TheVariants.{Number}
use Rattle.upc_lexer.specs.declared.token.NumberKind.{NumberKind}
use Rattle.upc_lexer.specs.declared.token.NumberKind.TheVariants.{Int, UInt, Long, ULong}

-- The number on which a base is built (C99 6.4.4.1).
abbrev pub radix : Base → ℕ
radix Decimal = 10
radix Octal = 8
radix Hexadecimal = 16

-- Whether a byte is a digit of a base (C99 6.4.4.1).
abbrev pub is_digit_in : Base → ℕ → Bool
is_digit_in Decimal b = is_digit b
is_digit_in Octal b = nat_le 48 b && nat_le b 55
is_digit_in Hexadecimal b = is_digit b || (nat_le 97 b && nat_le b 102) || (nat_le 65 b && nat_le b 70)

-- The value of a digit, where the letters from `a` to `f`, small or capital, have 10 to 15 (C99 6.4.4.1).
abbrev pub digit_value : ℕ → ℕ
digit_value b = if is_digit b then b - 48 else (if nat_le 97 b then b - 87 else b - 55)

-- The number that digits of a base spell, the first of them the highest (C99 6.4.4.1).
abbrev pub value_in : Base → List ℕ → ℕ
value_in base digits = fold (λ value digit. value * radix base + digit_value digit) 0 digits

-- Whether digits begin as the base asks: decimal with one other than 0, octal with 0, hexadecimal with any digit
-- (C99 6.4.4.1).
abbrev pub begins : Base → List ℕ → Bool
begins base [] = false
begins Decimal (b ∷ bs) = if b == 48 then false else true
begins Octal (b ∷ bs) = b == 48
begins Hexadecimal (b ∷ bs) = true

-- The bytes before the digits of a constant: `0x` or `0X` in hexadecimal, none in the other bases (C99 6.4.4.1).
abbrev pub IsPrefix : Base → List ℕ → Type 0
IsPrefix Hexadecimal prefix = (prefix ≡ codes "0x") ⊎ (prefix ≡ codes "0X")
IsPrefix base prefix = prefix ≡ []

-- Whether a byte is `u` or `U`, the suffix of an unsigned constant (C99 6.4.4.1).
abbrev pub is_u : ℕ → Bool
is_u b = b == 117 || b == 85

-- Whether a byte is `l` or `L`, the suffix of a long constant (C99 6.4.4.1).
abbrev pub is_l : ℕ → Bool
is_l b = b == 108 || b == 76

-- Whether two bytes are `ll` or `LL`, the suffix of a long long constant (C99 6.4.4.1).
abbrev pub is_ll : ℕ → ℕ → Bool
is_ll a b = (a == 108 && b == 108) || (a == 76 && b == 76)

-- The suffix that makes a constant unsigned or not, and long or not (C99 6.4.4.1).
abbrev pub suffix : Bool → Bool → Suffix
suffix unsigned long = record { unsigned = unsigned; long = long }

-- The suffix that a text is: `u`, and `l` or `ll`, in either order, each at most once; none where it is no suffix
-- (C99 6.4.4.1).
abbrev pub suffix_of : List ℕ → Option Suffix
suffix_of [] = Some (suffix false false)
suffix_of (a ∷ []) = if is_u a then Some (suffix true false) else (if is_l a then Some (suffix false true) else None)
suffix_of (a ∷ b ∷ []) =
    if (is_u a && is_l b) || (is_l a && is_u b)
    then Some (suffix true true)
    else (if is_ll a b then Some (suffix false true) else None)
suffix_of (a ∷ b ∷ c ∷ []) = if (is_u a && is_ll b c) || (is_ll a b && is_u c) then Some (suffix true true) else None
suffix_of more = None

-- The text is a constant with these digits in this base, and with this suffix (C99 6.4.4.1).
pub record IsConstant (text : List ℕ) (base : Base) (digits : List ℕ) (suffix : Suffix) : Type 0 where
  pub prefix : List ℕ
  pub tail : List ℕ
  pub spelled : text ≡ prefix ++ digits ++ tail
  pub prefixed : IsPrefix base prefix
  pub begun : begins base digits ≡ true
  pub in_base : list_all (is_digit_in base) digits ≡ true
  pub ended : suffix_of tail ≡ Some suffix

-- The greatest value of each type that a constant may have (C99 5.2.4.2.1).
abbrev pub greatest : NumberKind → ℕ
greatest Int = 2 ^ 31 - 1
greatest UInt = 2 ^ 32 - 1
greatest Long = 2 ^ 63 - 1
greatest ULong = 2 ^ 64 - 1

-- Where a token is a number, its value is in the range of its type (C99 6.4.4.1).
abbrev pub NumberFits : TokenKind → Type 0
NumberFits (Number value kind) = value ≤ greatest kind
NumberFits other = Unit {0}

-- The value of each number among the tokens is in the range of its type (C99 6.4.4.1).
abbrev pub NumbersFit : List Token → Type 0
NumbersFit [] = Unit {0}
NumbersFit (t ∷ ts) = NumberFits t.kind × NumbersFit ts

-- The types that a constant may have, in the order in which they are tried: by its base, and by whether its suffix
-- makes it unsigned and long (C99 6.4.4.1).
abbrev pub kinds_by : Base → Bool → Bool → List NumberKind
kinds_by Decimal false false = Int ∷ Long ∷ []
kinds_by base false false = Int ∷ UInt ∷ Long ∷ ULong ∷ []
kinds_by Decimal false true = Long ∷ []
kinds_by base false true = Long ∷ ULong ∷ []
kinds_by base true false = UInt ∷ ULong ∷ []
kinds_by base true true = ULong ∷ []

-- The types that a constant of this base with this suffix may have, in the order in which they are tried (C99 6.4.4.1).
abbrev pub kinds : Base → Suffix → List NumberKind
kinds base suffix = kinds_by base suffix.unsigned suffix.long

-- The type of a constant: the first of those it may have that holds its value, none where no such type does
-- (C99 6.4.4.1).
abbrev pub kind_of : Base → Suffix → ℕ → Option NumberKind
kind_of base suffix value = find (λ kind. nat_le value (greatest kind)) (kinds base suffix)

-- The text is a constant of this value and type (C99 6.4.4.1).
pub record IsNumber (text : List ℕ) (value : ℕ) (kind : NumberKind) : Type 0 where
  pub base : Base
  pub digits : List ℕ
  pub suffix : Suffix
  pub constant : IsConstant text base digits suffix
  pub value_is : value ≡ value_in base digits
  pub kind_is : kind_of base suffix value ≡ Some kind

-- The text is a constant for whose value there is no type (C99 6.4.4.1).
pub record HasNoType (text : List ℕ) : Type 0 where
  pub base : Base
  pub digits : List ℕ
  pub suffix : Suffix
  pub constant : IsConstant text base digits suffix
  pub no_kind : kind_of base suffix (value_in base digits) ≡ None

-- The text is no constant (C99 6.4.4.1).
abbrev pub IsNoConstant : List ℕ → Type 0
IsNoConstant text = (base : Base) (digits : List ℕ) (suffix : Suffix) → IsConstant text base digits suffix → ⊥

-- Why a text is refused as a number: it is no constant, or there is no type for its value (C99 6.4.4.1).
abbrev pub RefusesNumber : List ℕ → Code → Type 0
RefusesNumber text Lex = IsNoConstant text
RefusesNumber text (Limit n) = (n ≡ 2) × HasNoType text
RefusesNumber text code = ⊥
