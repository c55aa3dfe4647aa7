-- The formats of printf: a part of those of C99 7.19.6.1.
use Rattle.std.specs.Prelude.{ℕ, nat_le, ◌==◌, Bool, true, false, ◌&&◌, ◌||◌, not, if◌then◌else◌, List, [], ◌∷◌}
use Rattle.std.specs.Prelude.{Option, Some, None}
use Rattle.block_layout.specs.declared.kind.Kind.{Kind}
use Rattle.block_layout.specs.declared.kind.Kind.TheVariants as kinds
use Rattle.upc_types.specs.Types.{Base}
use Rattle.integers.specs.Integers.{promoted}
use Rattle.typing_rules.specs.declared.format.Awaits.{Awaits}
use Rattle.typing_rules.specs.declared.format.Awaits.TheVariants.{Anything, AfterPercent, AfterZero, AfterDigit}
use Rattle.typing_rules.specs.declared.format.Awaits.TheVariants.{AfterDigits, AfterL}
use Rattle.typing_rules.specs.declared.format.Printed.{Printed}
use Rattle.typing_rules.specs.declared.format.Printed.TheVariants.{AnInt, ALong}
use Rattle.typing_rules.specs.declared.format.FormatStep.{FormatStep}
use Rattle.typing_rules.specs.declared.format.FormatStep.TheVariants.{Stops, Goes, Prints}
use Rattle.typing_rules.specs.Values.{base_kind}

-- A letter that ends the conversion of an int: one of `d`, `i`, `u`, `x` and `c` (C99 7.19.6.1).
abbrev pub is_conversion : ℕ → Bool
is_conversion b = b == 100 || (b == 105 || (b == 117 || (b == 120 || b == 99)))

-- A letter that ends the conversion of a long after its `l`: one of `d`, `u` and `x` (C99 7.19.6.1).
abbrev pub is_long_conversion : ℕ → Bool
is_long_conversion b = b == 100 || (b == 117 || b == 120)

-- A decimal digit (C99 5.2.1).
abbrev pub is_digit : ℕ → Bool
is_digit b = nat_le 48 b && nat_le b 57

-- What a byte does to a conversion after its width: `l` goes on with it, a letter for an int ends it, and no other byte
-- may stand there (C99 7.19.6.1).
abbrev pub behind_width : ℕ → FormatStep
behind_width b = if b == 108 then Goes AfterL else (if is_conversion b then Prints AnInt else Stops)

-- What a byte does to a format. `%` begins a conversion, and `%%` prints itself; after `%` come an optional `0`, an
-- optional width of one or two digits whose first is not 0, and one of `d i u x c ld lu lx` (C99 7.19.6.1).
abbrev pub step : Awaits → ℕ → FormatStep
step Anything b = if b == 37 then Goes AfterPercent else Goes Anything
step AfterPercent b =
    if b == 37 then Goes Anything
    else (if b == 48 then Goes AfterZero
    else (if is_digit b then Goes AfterDigit else behind_width b))
step AfterZero b = if is_digit b && not (b == 48) then Goes AfterDigit else behind_width b
step AfterDigit b = if is_digit b then Goes AfterDigits else behind_width b
step AfterDigits b = behind_width b
step AfterL b = if is_long_conversion b then Prints ALong else Stops

-- The conversions of a format with one more before them; none where the rest is no format.
abbrev pub one_more : Printed → Option (List Printed) → Option (List Printed)
one_more p None = None
one_more p (Some ps) = Some (p ∷ ps)

-- What the conversions of a format print, from a byte on that does this to the format.
abbrev pub go_on : FormatStep → (Awaits → Option (List Printed)) → Option (List Printed)
go_on Stops rest = None
go_on (Goes state) rest = rest state
go_on (Prints p) rest = one_more p (rest Anything)

-- What the conversions of a format print, in order; none where it is no format (C99 7.19.6.1).
abbrev pub conversions : Awaits → List ℕ → Option (List Printed)
conversions Anything [] = Some []
conversions s [] = None
conversions s (b ∷ bs) = go_on (step s b) (λ state. conversions state bs)

-- A value of this promoted kind fits a conversion: int or unsigned int one of an int, long or unsigned long one of a
-- long (C99 7.19.6.1).
abbrev pub is_printed_kind : Printed → Kind → Bool
is_printed_kind AnInt kinds.Int = true
is_printed_kind AnInt kinds.UInt = true
is_printed_kind ALong kinds.Long = true
is_printed_kind ALong kinds.ULong = true
is_printed_kind p kind = false

-- A value of this kind fits a conversion after promotion; what is no integer fits none (C99 6.3.1.1, 7.19.6.1).
abbrev pub prints_kind : Printed → Option Kind → Bool
prints_kind p None = false
prints_kind p (Some kind) = is_printed_kind p (promoted kind)

-- There is one more value, and it fits the conversion (C99 7.19.6.1).
abbrev pub takes : Printed → List Base → Bool
takes p [] = false
takes p (b ∷ bs) = prints_kind p (base_kind b)

-- No conversion is begun.
abbrev pub is_anything : Awaits → Bool
is_anything Anything = true
is_anything s = false

-- The arguments fit the conversions, one each (C99 7.19.6.1).
abbrev pub all_printed : List Printed → List Base → Bool
all_printed [] [] = true
all_printed (p ∷ ps) (b ∷ bs) = prints_kind p (base_kind b) && all_printed ps bs
all_printed ps bs = false

-- There are conversions of a format, and values of these types fit them, one each (C99 7.19.6.1).
abbrev pub prints_by : Option (List Printed) → List Base → Bool
prints_by None bs = false
prints_by (Some ps) bs = all_printed ps bs

-- The text is a format, and values of these types fit it (C99 7.19.6.1).
abbrev pub prints : List ℕ → List Base → Bool
prints format bs = prints_by (conversions Anything format) bs
