-- A text that reads as a number.
use Rattle.std.proofs.Common.{◌≡◌, ◌-◌, ◌^◌, ◌<◌, ℕ, Bool, true, false, cond, Some, None, refl, sym, arith, true≢false}
use Rattle.std.specs.Str.Parse.{IsNumeral, digits_value, without_leading_plus}
use Rattle.clap.specs.Values.{IsUnsignedIn}
use Rattle.clap.specs.ValueTests.{is_unsigned_in}
use Rattle.clap.specs.Words.{Text}
use Rattle.clap.specs.declared.builder.value_parser.ValueParser.TheVariants.{Unsigned}
use Rattle.clap.proofs.ValueTestLemmas.{accepts-Accepts, Accepts-accepts}
use Rattle.upc_top_words.specs.Values.{number_of}

abbrev value : Text → ℕ
value t = digits_value 10 (without_leading_plus t)

chosen : (b : Bool) (n : ℕ) → b ≡ true → cond b (Some n) None ≡ Some n
chosen true n e = refl
chosen false n e = absurd (true≢false (sym e))

left : (b : Bool) (n : ℕ) → (b ≡ true → ⊥) → cond b (Some n) None ≡ None
left true n e = absurd (e refl)
left false n e = refl

pub number_read : (t : Text) → IsNumeral 10 (without_leading_plus t) → value t < 2 ^ 64 → number_of t ≡ Some (value t)
number_read t numeral fits = chosen (is_unsigned_in 0 (2 ^ 64 - 1) t) (value t) (Accepts-accepts false (Unsigned 0 (2 ^ 64 - 1)) t (numeral, fits, omega arith, omega arith))

pub number_some : (t : Text) (most : ℕ) → IsUnsignedIn 1 most t → number_of t ≡ Some (value t)
number_some t most h = number_read t h.0 h.1

pub number_none : (t : Text) → (IsNumeral 10 (without_leading_plus t) × (value t < 2 ^ 64) → ⊥) → number_of t ≡ None
number_none t h = left (is_unsigned_in 0 (2 ^ 64 - 1) t) (value t) (λ e. let p = accepts-Accepts false (Unsigned 0 (2 ^ 64 - 1)) t e in h (p.0, p.1))
