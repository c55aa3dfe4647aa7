-- A number is taken apart in one way.
use Rattle.std.proofs.Common.{◌≡◌, ℕ, ◌<◌, ◌≤◌, zero, suc, Bool, true, false, cond, eqb, leb, ◌||◌, List, [], ◌∷◌, ◌++◌, length, take, drop, append_assoc, Some, None, refl, sym, ap, ◌∙◌, subst, ◌⊎◌, inl, inr, arith}
use Rattle.std.proofs.Math.Seq.{take-append_seam, drop-append_seam}
use Rattle.std.proofs.lemmas.List.{take-append-drop}
use Rattle.std.proofs.lemmas.Bool.Decides.{nat_tests}
use Rattle.std.proofs.lemmas.List.Sums.{prefix_len-le-length}
use Rattle.std.specs.List.{list_all, prefix_len, find}
use Rattle.upc_lexer.specs.declared.numbers.Base.{Base}
use Rattle.upc_lexer.specs.declared.numbers.Base.TheVariants.{Decimal, Octal, Hexadecimal}
use Rattle.upc_lexer.specs.declared.numbers.Suffix.{Suffix}
use Rattle.upc_lexer.specs.declared.token.NumberKind.{NumberKind}
use Rattle.upc_lexer.specs.declared.token.NumberKind.TheVariants.{Int, UInt, Long, ULong}
use Rattle.upc_lexer.specs.Gaps.{StopsAt}
use Rattle.upc_lexer.specs.Numbers.{kind_of, kinds_by, greatest, value_in, IsNumber, HasNoType, IsNoConstant, is_digit_in, begins, suffix_of, IsPrefix, IsConstant}
use Rattle.upc_lexer.specs.code.NumberParts.{base_of, prefix_length, behind_prefix, digit_count, digits_of, tail_of}
use Rattle.upc_lexer.proofs.Lists.{run_is, run_passes, and_left, and_right}

-- a byte that begins no suffix
record NoSuffixByte (a : ℕ) : Type 0 where
  small_u : eqb a 117 ≡ false
  capital_u : eqb a 85 ≡ false
  small_l : eqb a 108 ≡ false
  capital_l : eqb a 76 ≡ false

digit_no_suffix : (base : Base) (b : ℕ) → is_digit_in base b ≡ true → NoSuffixByte b
digit_no_suffix Decimal b h = record { small_u = grind (arith, nat_tests); capital_u = grind (arith, nat_tests); small_l = grind (arith, nat_tests); capital_l = grind (arith, nat_tests) }
digit_no_suffix Octal b h = record { small_u = grind (arith, nat_tests); capital_u = grind (arith, nat_tests); small_l = grind (arith, nat_tests); capital_l = grind (arith, nat_tests) }
digit_no_suffix Hexadecimal b h = record { small_u = grind (arith, nat_tests); capital_u = grind (arith, nat_tests); small_l = grind (arith, nat_tests); capital_l = grind (arith, nat_tests) }

x_no_suffix : (b : ℕ) → (eqb b 120 || eqb b 88) ≡ true → NoSuffixByte b
x_no_suffix b h = record { small_u = grind (arith, nat_tests); capital_u = grind (arith, nat_tests); small_l = grind (arith, nat_tests); capital_l = grind (arith, nat_tests) }

no_suffix : (a : ℕ) (rest : List ℕ) (s : Suffix) → NoSuffixByte a → suffix_of (a ∷ rest) ≡ Some s → ⊥
no_suffix a [] s n e = let f = rw (n.small_u, n.capital_u, n.small_l, n.capital_l) at e in cc
no_suffix a (b ∷ []) s n e = let f = rw (n.small_u, n.capital_u, n.small_l, n.capital_l) at e in cc
no_suffix a (b ∷ c ∷ []) s n e = let f = rw (n.small_u, n.capital_u, n.small_l, n.capital_l) at e in cc
no_suffix a (b ∷ c ∷ d ∷ rest) s n e = cc

stops_by : (base : Base) (a : ℕ) (rest : List ℕ) (s : Suffix) (v : Bool) → is_digit_in base a ≡ v → suffix_of (a ∷ rest) ≡ Some s → is_digit_in base a ≡ false
stops_by base a rest s true h e = absurd (no_suffix a rest s (digit_no_suffix base a h) e)
stops_by base a rest s false h e = h

suffix_stops : (base : Base) (tail : List ℕ) (s : Suffix) → suffix_of tail ≡ Some s → StopsAt (is_digit_in base) tail
suffix_stops base [] s e = tt
suffix_stops base (a ∷ rest) s e = stops_by base a rest s (is_digit_in base a) refl e

no_x_by : (a : ℕ) (rest : List ℕ) (s : Suffix) (v : Bool) → (eqb a 120 || eqb a 88) ≡ v → suffix_of (a ∷ rest) ≡ Some s → (eqb a 120 || eqb a 88) ≡ false
no_x_by a rest s true h e = absurd (no_suffix a rest s (x_no_suffix a h) e)
no_x_by a rest s false h e = h

octal_no_x : (b : ℕ) → is_digit_in Octal b ≡ true → (eqb b 120 || eqb b 88) ≡ false
octal_no_x b h = grind (arith, nat_tests)

octal_base : (digits tail : List ℕ) (s : Suffix) → begins Octal digits ≡ true → list_all (is_digit_in Octal) digits ≡ true → suffix_of tail ≡ Some s → base_of (digits ++ tail) ≡ Octal
octal_base [] tail s b h e = absurd cc
octal_base (d ∷ []) [] s b h e = rw b refl
octal_base (d ∷ []) (t ∷ ts) s b h e = let x = no_x_by t ts s _ refl e in rw (b, x) refl
octal_base (d ∷ f ∷ ds) tail s b h e = let x = octal_no_x f (and_left _ _ (and_right (is_digit_in Octal d) _ h)) in rw (b, x) refl

decimal_base_by : (d : ℕ) (rest : List ℕ) → eqb d 48 ≡ false → base_of (d ∷ rest) ≡ Decimal
decimal_base_by d [] e = rw e refl
decimal_base_by d (x ∷ rest) e = rw e refl

not_true : (v : Bool) → cond v false true ≡ true → v ≡ false
not_true true e = sym e
not_true false e = refl

decimal_base : (digits tail : List ℕ) → begins Decimal digits ≡ true → base_of (digits ++ tail) ≡ Decimal
decimal_base [] tail b = absurd cc
decimal_base (d ∷ ds) tail b = decimal_base_by d (ds ++ tail) (not_true (eqb d 48) b)

-- the text gives the base
base_is : (text : List ℕ) (base : Base) (digits : List ℕ) (s : Suffix) → IsConstant text base digits s → base_of text ≡ base
base_is text Hexadecimal digits s h = elim h.prefixed [ inl p ↦ rw (h.spelled, p) refl | inr p ↦ rw (h.spelled, p) refl ]
base_is text Octal digits s h = rw (h.spelled, h.prefixed) (octal_base digits h.tail s h.begun h.in_base h.ended)
base_is text Decimal digits s h = rw (h.spelled, h.prefixed) (decimal_base digits h.tail h.begun)

behind_is : (text : List ℕ) (base : Base) (digits : List ℕ) (s : Suffix) → (h : IsConstant text base digits s) → drop (prefix_length base) text ≡ digits ++ h.tail
behind_is text Hexadecimal digits s h = elim h.prefixed [ inl p ↦ rw (h.spelled, p) refl | inr p ↦ rw (h.spelled, p) refl ]
behind_is text Octal digits s h = rw (h.spelled, h.prefixed) refl
behind_is text Decimal digits s h = rw (h.spelled, h.prefixed) refl

-- a constant has the parts that the code finds
pub record HasParts (text : List ℕ) (base : Base) (digits : List ℕ) (s : Suffix) : Type 0 where
  pub base_is : base_of text ≡ base
  pub digits_are : digits_of text ≡ digits
  pub suffix_is : suffix_of (tail_of text) ≡ Some s

pub only : (text : List ℕ) (base : Base) (digits : List ℕ) (s : Suffix) → IsConstant text base digits s → HasParts text base digits s
only text base digits s h =
    let b = base_is text base digits s h in
    let behind : behind_prefix text ≡ digits ++ h.tail = rw b (behind_is text base digits s h) in
    let count : digit_count text ≡ length digits = rw (b, behind_is text base digits s h) (run_is (is_digit_in base) digits h.tail h.in_base (suffix_stops base h.tail s h.ended)) in
    record {
      base_is = b;
      digits_are = rw (count, behind) (take-append_seam digits h.tail);
      suffix_is = rw (count, behind, drop-append_seam digits h.tail) h.ended;
    }

-- how a text begins
data Begins (text : List ℕ) : Type 0 where
  hexed : (x : ℕ) (rest : List ℕ) → text ≡ 48 ∷ x ∷ rest → (x ≡ 120) ⊎ (x ≡ 88) → base_of text ≡ Hexadecimal → Begins text
  zeroed : (rest : List ℕ) → text ≡ 48 ∷ rest → base_of text ≡ Octal → Begins text
  other : StopsAt (λ b. eqb b 48) text → base_of text ≡ Decimal → Begins text

is_by : (a b : ℕ) → eqb a b ≡ true → a ≡ b
is_by a b h = grind (arith, nat_tests)

begins_by : (a b : ℕ) (rest : List ℕ) (x y z : Bool) → eqb a 48 ≡ x → eqb b 120 ≡ y → eqb b 88 ≡ z → Begins (a ∷ b ∷ rest)
begins_by a b rest false y z ex ey ez = other ex (rw ex refl)
begins_by a b rest true true z ex ey ez = hexed b rest (ap (λ n. n ∷ b ∷ rest) (is_by a 48 ex)) (inl (is_by b 120 ey)) (rw (ex, ey) refl)
begins_by a b rest true false true ex ey ez = hexed b rest (ap (λ n. n ∷ b ∷ rest) (is_by a 48 ex)) (inr (is_by b 88 ez)) (rw (ex, ey, ez) refl)
begins_by a b rest true false false ex ey ez = zeroed (b ∷ rest) (ap (λ n. n ∷ b ∷ rest) (is_by a 48 ex)) (rw (ex, ey, ez) refl)

begins_one : (a : ℕ) (x : Bool) → eqb a 48 ≡ x → Begins (a ∷ [])
begins_one a true e = zeroed [] (ap (λ n. n ∷ []) (is_by a 48 e)) (rw e refl)
begins_one a false e = other e (rw e refl)

begins_so : (text : List ℕ) → Begins text
begins_so [] = other tt refl
begins_so (a ∷ []) = begins_one a _ refl
begins_so (a ∷ b ∷ rest) = begins_by a b rest _ _ _ refl refl refl

-- digits that are there begin as their base wants
begun_front : (base : Base) (n : ℕ) (bytes : List ℕ) → 0 < n → n ≤ length bytes → begins base bytes ≡ true → begins base (take n bytes) ≡ true
begun_front base zero bytes lt le h = absurd (omega arith)
begun_front base (suc n) [] lt le h = absurd (omega arith)
begun_front Decimal (suc n) (b ∷ bs) lt le h = h
begun_front Octal (suc n) (b ∷ bs) lt le h = h
begun_front Hexadecimal (suc n) (b ∷ bs) lt le h = h

some_begun : (n : ℕ) (bytes : List ℕ) → 0 < n → n ≤ length bytes → begins Hexadecimal bytes ≡ true
some_begun n [] lt le = absurd (omega arith)
some_begun n (b ∷ bs) lt le = refl

stop_begun : (n : ℕ) (bytes : List ℕ) → 0 < n → n ≤ length bytes → StopsAt (λ b. eqb b 48) bytes → begins Decimal bytes ≡ true
stop_begun n [] lt le st = absurd (omega arith)
stop_begun n (b ∷ bs) lt le st = rw st refl

halves : (p n : ℕ) (text : List ℕ) → text ≡ (take p text ++ take n (drop p text)) ++ drop n (drop p text)
halves p n text = sym (append_assoc (take p text) (take n (drop p text)) (drop n (drop p text)) ∙ ap (λ xs. take p text ++ xs) (take-append-drop n (drop p text)) ∙ take-append-drop p text)

made_by : (text : List ℕ) (s : Suffix) (base : Base) → base_of text ≡ base → IsPrefix base (take (prefix_length base) text) → begins base (digits_of text) ≡ true → suffix_of (tail_of text) ≡ Some s → IsConstant text base (digits_of text) s
made_by text s base e prefixed begun ended = record {
  prefix = take (prefix_length base) text;
  tail = tail_of text;
  spelled = rw (← e) (halves (prefix_length (base_of text)) (digit_count text) text);
  prefixed = prefixed;
  begun = begun;
  in_base = rw (← e) (run_passes (is_digit_in (base_of text)) (behind_prefix text));
  ended = ended;
}

count_within : (text : List ℕ) → digit_count text ≤ length (behind_prefix text)
count_within text = prefix_len-le-length (is_digit_in (base_of text)) (behind_prefix text)

pub made : (text : List ℕ) (s : Suffix) → 0 < digit_count text → suffix_of (tail_of text) ≡ Some s → IsConstant text (base_of text) (digits_of text) s
made text s lt e = elim (begins_so text) [
  | hexed x rest t p b ↦
      let pre : IsPrefix Hexadecimal (take 2 text) = elim p [ inl q ↦ inl (rw (t, q) refl) | inr q ↦ inr (rw (t, q) refl) ] in
      let begun = begun_front Hexadecimal (digit_count text) (behind_prefix text) lt (count_within text) (some_begun (digit_count text) (behind_prefix text) lt (count_within text)) in
      subst (λ base. IsConstant text base (digits_of text) s) (sym b) (made_by text s Hexadecimal b pre begun e)
  | zeroed rest t b ↦
      let first : begins Octal (behind_prefix text) ≡ true = rw b (rw t refl) in
      let begun = begun_front Octal (digit_count text) (behind_prefix text) lt (count_within text) first in
      subst (λ base. IsConstant text base (digits_of text) s) (sym b) (made_by text s Octal b refl begun e)
  | other st b ↦
      let stops : StopsAt (λ d. eqb d 48) (behind_prefix text) = rw b st in
      let begun = begun_front Decimal (digit_count text) (behind_prefix text) lt (count_within text) (stop_begun (digit_count text) (behind_prefix text) lt (count_within text) stops) in
      subst (λ base. IsConstant text base (digits_of text) s) (sym b) (made_by text s Decimal b refl begun e)
]

nonempty : (base : Base) (digits : List ℕ) → begins base digits ≡ true → 0 < length digits
nonempty base [] h = absurd cc
nonempty base (d ∷ ds) h = omega arith

-- a text with no digit is no constant
pub no_digit : (text : List ℕ) (base : Base) (digits : List ℕ) (s : Suffix) → digit_count text ≡ 0 → IsConstant text base digits s → ⊥
no_digit text base digits s z h =
    let parts = only text base digits s h in
    let none : digits ≡ [] = sym parts.digits_are ∙ ap (λ n. take n (behind_prefix text)) z in
    absurd (omega (arith, nonempty base digits h.begun, ap length none))

-- nor is one that goes on with no suffix
pub no_tail : (text : List ℕ) (base : Base) (digits : List ℕ) (s : Suffix) → suffix_of (tail_of text) ≡ None → IsConstant text base digits s → ⊥
no_tail text base digits s e h = let parts = only text base digits s h in let f = sym e ∙ parts.suffix_is in cc

no_kind : (base : Base) (u l : Bool) (v : ℕ) → leb v (greatest Int) ≡ false → leb v (greatest UInt) ≡ false → leb v (greatest Long) ≡ false → leb v (greatest ULong) ≡ false → find (λ kind. leb v (greatest kind)) (kinds_by base u l) ≡ None
no_kind Decimal false false v e f g h = rw (e, g) refl
no_kind Decimal false true v e f g h = rw g refl
no_kind Decimal true false v e f g h = rw (f, h) refl
no_kind Decimal true true v e f g h = rw h refl
no_kind Octal false false v e f g h = rw (e, f, g, h) refl
no_kind Octal false true v e f g h = rw (g, h) refl
no_kind Octal true false v e f g h = rw (f, h) refl
no_kind Octal true true v e f g h = rw h refl
no_kind Hexadecimal false false v e f g h = rw (e, f, g, h) refl
no_kind Hexadecimal false true v e f g h = rw (g, h) refl
no_kind Hexadecimal true false v e f g h = rw (f, h) refl
no_kind Hexadecimal true true v e f g h = rw h refl

above : (v n : ℕ) → n < v → leb v n ≡ false
above v n lt = grind (arith, nat_tests)

-- no type has so great a value
pub too_great : (base : Base) (s : Suffix) (v : ℕ) → (v < 18446744073709551616 → ⊥) → kind_of base s v ≡ None
too_great base s v h =
    let le : 18446744073709551616 ≤ v = omega arith in
    no_kind base s.unsigned s.long v (above v _ (omega arith)) (above v _ (omega arith)) (above v _ (omega arith)) (above v _ (omega arith))

-- the parts that the code finds
pub record Found (text : List ℕ) (base : Base) (count : ℕ) (digits tail : List ℕ) : Type 0 where
  pub base_is : base ≡ base_of text
  pub count_is : count ≡ digit_count text
  pub digits_are : digits ≡ digits_of text
  pub tail_is : tail ≡ tail_of text

pub found : (text : List ℕ) (base : Base) (unprefixed : List ℕ) (count : ℕ) (digits tail : List ℕ) → base ≡ base_of text → unprefixed ≡ behind_prefix text → count ≡ prefix_len (is_digit_in base) unprefixed → digits ≡ take count unprefixed → tail ≡ drop count unprefixed → Found text base count digits tail
found text base unprefixed count digits tail b u c d t =
    let n : count ≡ digit_count text = c ∙ ap (λ x. prefix_len (is_digit_in x) unprefixed) b ∙ ap (prefix_len (is_digit_in (base_of text))) u in
    record {
      base_is = b;
      count_is = n;
      digits_are = d ∙ ap (λ x. take x unprefixed) n ∙ ap (take (digit_count text)) u;
      tail_is = t ∙ ap (λ x. drop x unprefixed) n ∙ ap (drop (digit_count text)) u;
    }

constant_found : (text : List ℕ) (base : Base) (count : ℕ) (digits tail : List ℕ) (s : Suffix) → Found text base count digits tail → 0 < count → Some s ≡ suffix_of tail → IsConstant text base digits s
constant_found text base count digits tail s f lt e =
    rw (f.base_is, f.digits_are) (made text s (omega (arith, f.count_is)) (ap suffix_of (sym f.tail_is) ∙ sym e))

pub no_digit_found : (text : List ℕ) (base : Base) (count : ℕ) (digits tail : List ℕ) → Found text base count digits tail → count ≡ 0 → IsNoConstant text
no_digit_found text base count digits tail f z b ds s h = no_digit text b ds s (sym f.count_is ∙ z) h

pub no_tail_found : (text : List ℕ) (base : Base) (count : ℕ) (digits tail : List ℕ) → Found text base count digits tail → None ≡ suffix_of tail → IsNoConstant text
no_tail_found text base count digits tail f e b ds s h = no_tail text b ds s (ap suffix_of (sym f.tail_is) ∙ sym e) h

pub number_found : (text : List ℕ) (base : Base) (count : ℕ) (digits tail : List ℕ) (s : Suffix) (v : ℕ) (k : NumberKind) → Found text base count digits tail → 0 < count → Some s ≡ suffix_of tail → v ≡ value_in base digits → Some k ≡ kind_of base s v → IsNumber text v k
number_found text base count digits tail s v k f lt e val kind = record { base = base; digits = digits; suffix = s; constant = constant_found text base count digits tail s f lt e; value_is = val; kind_is = sym kind }

pub no_type_found : (text : List ℕ) (base : Base) (count : ℕ) (digits tail : List ℕ) (s : Suffix) → Found text base count digits tail → 0 < count → Some s ≡ suffix_of tail → kind_of base s (value_in base digits) ≡ None → HasNoType text
no_type_found text base count digits tail s f lt e kind = record { base = base; digits = digits; suffix = s; constant = constant_found text base count digits tail s f lt e; no_kind = kind }
