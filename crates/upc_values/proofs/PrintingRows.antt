-- Worked rows on printf, computed by the definitions themselves.
use Rattle.std.specs.Prelude.{◌≡◌, pos, negsuc, [], ◌∷◌, codes}
use Rattle.std.specs.Fmt.{digits}
use Rattle.std.proofs.Common.{refl}
use Rattle.upc_values.specs.Printing.{printed}

-- Zeros stand after the sign, blanks before it.
zeros : printed (codes "<%05d>") (negsuc 41 ∷ []) ≡ codes "<-0042>"
unfolding digits
zeros = refl

blanks : printed (codes "<%5d>") (negsuc 41 ∷ []) ≡ codes "<  -42>"
unfolding digits
blanks = refl

long-enough : printed (codes "%2d%02u") (pos 1234 ∷ pos 567 ∷ []) ≡ codes "1234567"
unfolding digits
long-enough = refl

-- Values are converted to the conversion's type.
unsigned : printed (codes "%u %x %lx") (negsuc 0 ∷ negsuc 254 ∷ negsuc 0 ∷ []) ≡ codes "4294967295 ffffff01 ffffffffffffffff"
unfolding digits
unsigned = refl

signed : printed (codes "%d %i %ld") (pos 4294967295 ∷ pos 7 ∷ pos 9223372036854775808 ∷ []) ≡ codes "-1 7 -9223372036854775808"
unfolding digits
signed = refl

-- A byte is filled with blanks, whatever the flag.
byte : printed (codes "%03c%c") (pos 321 ∷ pos 66 ∷ []) ≡ codes "  AB"
unfolding digits
byte = refl

percent : printed (codes "100%%%d") (pos 0 ∷ []) ≡ codes "100%0"
unfolding digits
percent = refl

-- No conversion has a width of three digits, or one that begins with 0.
stray : printed (codes "%100d%00d%") (pos 5 ∷ []) ≡ codes "100d00d"
unfolding digits
stray = refl
