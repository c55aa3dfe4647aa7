-- A text spells one sort of token, and one kind.
use Rattle.std.proofs.Common.{◌≡◌, ℕ, true, eqb, List, [], ◌∷◌, ◌++◌, length, Some, None, refl, sym, ap, ◌∙◌, inl, inr, arith, length-append}
use Rattle.std.proofs.lemmas.Bool.Decides.{nat_tests}
use Rattle.std.specs.List.{list_all}
use Rattle.upc_lexer.specs.declared.token.Punct.{Punct as AMark}
use Rattle.upc_lexer.specs.declared.token.NumberKind.{NumberKind}
use Rattle.upc_lexer.specs.declared.token.TokenKind.{TokenKind}
use Rattle.upc_lexer.specs.declared.token.TokenKind.TheVariants.{Name, Word, Number, Character, Str, Punct, Pragma}
use Rattle.upc_lexer.specs.declared.numbers.Base.{Base}
use Rattle.upc_lexer.specs.declared.numbers.Base.TheVariants.{Decimal, Octal, Hexadecimal}
use Rattle.upc_lexer.specs.declared.numbers.Suffix.{Suffix}
use Rattle.upc_lexer.specs.Bytes.{is_letter, is_digit}
use Rattle.upc_lexer.specs.Marks.{mark_bytes}
use Rattle.upc_lexer.specs.Numbers.{is_digit_in, begins, kind_of, value_in, IsConstant, IsNumber, HasNoType}
use Rattle.upc_lexer.specs.Strings.{escape, string_value, IsCharacter, IsString}
use Rattle.upc_lexer.specs.Tokens.{is_name, begins_number, character, string, mark, Spells}
use Rattle.upc_lexer.proofs.Lists.{head_is, and_left}
use Rattle.upc_lexer.proofs.MarkHeads.{is_mark_head}
use Rattle.upc_lexer.proofs.NumberLemmas.{only}
use Rattle.upc_lexer.proofs.TokenHeads.{no_token, letter_no_number, letter_no_39, letter_no_34, letter_no_mark, number_no_39, number_no_34, mark_no_39, mark_no_34, mark_no_number, character_head, mark_start, plain_no_92}
use Rattle.upc_lexer.proofs.WordTable.{word_is_name}

pub data Sort : Type 0 where
  of_name : Sort
  of_number : Sort
  of_character : Sort
  of_string : Sort
  of_mark : Sort

-- a text of this sort
abbrev pub IsSort : List ℕ → Sort → Type 0
IsSort text of_name = is_name text ≡ true
IsSort text of_number = begins_number text ≡ true
IsSort text of_character = (v : ℕ) × IsCharacter text v
IsSort text of_string = (v : List ℕ) × IsString text v
IsSort text of_mark = (m : AMark) × (text ≡ mark_bytes m)

-- what a sort's first byte is
abbrev IsFirst : ℕ → List ℕ → Sort → Type 0
IsFirst b bs of_name = is_letter b ≡ true
IsFirst b bs of_number = begins_number (b ∷ bs) ≡ true
IsFirst b bs of_character = b ≡ 39
IsFirst b bs of_string = b ≡ 34
IsFirst b bs of_mark = is_mark_head b ≡ true

no_digit_mark : (b : ℕ) (bs : List ℕ) → begins_number (b ∷ bs) ≡ true → (m : AMark) → b ∷ bs ≡ mark_bytes m → ⊥
no_digit_mark b bs h m e = mark_no_number m (b ∷ bs) h e

first : (b : ℕ) (bs : List ℕ) (s : Sort) → IsSort (b ∷ bs) s → IsFirst b bs s
first b bs of_name h = and_left (is_letter b) _ h
first b bs of_number h = h
first b bs of_character h = character_head b bs h.0 h.1
first b bs of_string h = (head_is h.1.quoted).0
first b bs of_mark h = mark_start h.0 b bs h.1

-- no text is of two sorts
pub sort_once : (text : List ℕ) (s t : Sort) → IsSort text s → IsSort text t → s ≡ t
sort_once [] s t h g = absurd (none s h)
  where
    none : (s : Sort) → IsSort [] s → ⊥
    none of_name h = cc
    none of_number h = cc
    none of_character h = no_token (character h.0 h.1)
    none of_string h = no_token (string h.0 h.1)
    none of_mark h = no_token (mark h.0 h.1)
sort_once (b ∷ bs) of_name of_name h g = refl
sort_once (b ∷ bs) of_name of_number h g = absurd (letter_no_number b bs (first b bs of_name h) (first b bs of_number g))
sort_once (b ∷ bs) of_name of_character h g = absurd (letter_no_39 b (first b bs of_name h) (first b bs of_character g))
sort_once (b ∷ bs) of_name of_string h g = absurd (letter_no_34 b (first b bs of_name h) (first b bs of_string g))
sort_once (b ∷ bs) of_name of_mark h g = absurd (letter_no_mark b (first b bs of_name h) (first b bs of_mark g))
sort_once (b ∷ bs) of_number of_name h g = absurd (letter_no_number b bs (first b bs of_name g) (first b bs of_number h))
sort_once (b ∷ bs) of_number of_number h g = refl
sort_once (b ∷ bs) of_number of_character h g = absurd (number_no_39 b bs (first b bs of_number h) (first b bs of_character g))
sort_once (b ∷ bs) of_number of_string h g = absurd (number_no_34 b bs (first b bs of_number h) (first b bs of_string g))
sort_once (b ∷ bs) of_number of_mark h g = absurd (mark_no_number g.0 (b ∷ bs) h g.1)
sort_once (b ∷ bs) of_character of_name h g = absurd (letter_no_39 b (first b bs of_name g) (first b bs of_character h))
sort_once (b ∷ bs) of_character of_number h g = absurd (number_no_39 b bs (first b bs of_number g) (first b bs of_character h))
sort_once (b ∷ bs) of_character of_character h g = refl
sort_once (b ∷ bs) of_character of_string h g = absurd (omega (arith, (first b bs of_character h), (first b bs of_string g)))
sort_once (b ∷ bs) of_character of_mark h g = absurd (mark_no_39 b (first b bs of_mark g) (first b bs of_character h))
sort_once (b ∷ bs) of_string of_name h g = absurd (letter_no_34 b (first b bs of_name g) (first b bs of_string h))
sort_once (b ∷ bs) of_string of_number h g = absurd (number_no_34 b bs (first b bs of_number g) (first b bs of_string h))
sort_once (b ∷ bs) of_string of_character h g = absurd (omega (arith, (first b bs of_character g), (first b bs of_string h)))
sort_once (b ∷ bs) of_string of_string h g = refl
sort_once (b ∷ bs) of_string of_mark h g = absurd (mark_no_34 b (first b bs of_mark g) (first b bs of_string h))
sort_once (b ∷ bs) of_mark of_name h g = absurd (letter_no_mark b (first b bs of_name g) (first b bs of_mark h))
sort_once (b ∷ bs) of_mark of_number h g = absurd (mark_no_number h.0 (b ∷ bs) g h.1)
sort_once (b ∷ bs) of_mark of_character h g = absurd (mark_no_39 b (first b bs of_mark h) (first b bs of_character g))
sort_once (b ∷ bs) of_mark of_string h g = absurd (mark_no_34 b (first b bs of_mark h) (first b bs of_string g))
sort_once (b ∷ bs) of_mark of_mark h g = refl

digit_begins : (d : ℕ) (rest : List ℕ) → is_digit d ≡ true → begins_number (d ∷ rest) ≡ true
digit_begins d [] h = h
digit_begins d (x ∷ rest) h = rw h refl

zero_digit : (d : ℕ) → eqb d 48 ≡ true → is_digit d ≡ true
zero_digit d h = grind (arith, nat_tests)

constant_begins_by : (base : Base) (digits tail : List ℕ) → begins base digits ≡ true → list_all (is_digit_in base) digits ≡ true → (base ≡ Hexadecimal → ⊥) → begins_number (digits ++ tail) ≡ true
constant_begins_by base [] tail b h n = absurd cc
constant_begins_by Decimal (d ∷ ds) tail b h n = digit_begins d (ds ++ tail) (and_left (is_digit d) _ h)
constant_begins_by Octal (d ∷ ds) tail b h n = digit_begins d (ds ++ tail) (zero_digit d b)
constant_begins_by Hexadecimal (d ∷ ds) tail b h n = absurd (n refl)

-- a constant begins as a number does
pub constant_begins : (text : List ℕ) (base : Base) (digits : List ℕ) (s : Suffix) → IsConstant text base digits s → begins_number text ≡ true
constant_begins text Hexadecimal digits s h = elim h.prefixed [ inl p ↦ rw (h.spelled, p) refl | inr p ↦ rw (h.spelled, p) refl ]
constant_begins text Octal digits s h = rw (h.spelled, h.prefixed) (constant_begins_by Octal digits h.tail h.begun h.in_base (λ e. cc))
constant_begins text Decimal digits s h = rw (h.spelled, h.prefixed) (constant_begins_by Decimal digits h.tail h.begun h.in_base (λ e. cc))

abbrev pub sort_of : TokenKind → Sort
sort_of (Name n) = of_name
sort_of (Word w) = of_name
sort_of (Number v k) = of_number
sort_of (Character v) = of_character
sort_of (Str v) = of_string
sort_of (Punct m) = of_mark
sort_of (Pragma b) = of_mark

pub spelled_sort : (names : List (List ℕ)) (kind : TokenKind) (text : List ℕ) → Spells names kind text → IsSort text (sort_of kind)
spelled_sort names (Name n) text h = h.0.is_spelled
spelled_sort names (Word w) text h = rw h (word_is_name w)
spelled_sort names (Number v k) text h = constant_begins text h.base h.digits h.suffix h.constant
spelled_sort names (Character v) text h = (v, h)
spelled_sort names (Str v) text h = (v, h.0)
spelled_sort names (Punct m) text h = (m, h)
spelled_sort names (Pragma b) text h = absurd h

some_number : {v w : ℕ} → Some v ≡ Some w → v ≡ w
some_number e = cc

-- a character constant and a string have one value each
pub character_once : (text : List ℕ) (v w : ℕ) → IsCharacter text v → IsCharacter text w → v ≡ w
character_once text v w h g = elim h [
  | inl p ↦ elim g [
    | inl q ↦ (head_is (head_is (sym p.0 ∙ q.0)).1).0
    | inr q ↦ absurd (plain_no_92 v p.1 (head_is (head_is (sym p.0 ∙ q.1)).1).0)
  ]
  | inr p ↦ elim g [
    | inl q ↦ absurd (plain_no_92 w q.1 (sym (head_is (head_is (sym p.1 ∙ q.0)).1).0))
    | inr q ↦
        let e : p.0 ≡ q.0 = (head_is (head_is (head_is (sym p.1 ∙ q.1)).1).1).0 in
        some_number (sym p.2 ∙ ap escape e ∙ q.2)
  ]
]

pub some_list : {v w : List ℕ} → Some v ≡ Some w → v ≡ w
some_list e = cc

same_front : (xs ys : List ℕ) (a b : ℕ) → xs ++ a ∷ [] ≡ ys ++ b ∷ [] → xs ≡ ys
same_front [] [] a b e = refl
same_front [] (y ∷ ys) a b e = absurd (omega (arith, ap length e, length-append ys (b ∷ [])))
same_front (x ∷ xs) [] a b e = absurd (omega (arith, ap length e, length-append xs (a ∷ [])))
same_front (x ∷ xs) (y ∷ ys) a b e = ap (λ n. n ∷ xs) (head_is e).0 ∙ ap (λ l. y ∷ l) (same_front xs ys a b (head_is e).1)

pub string_once : (text v w : List ℕ) → IsString text v → IsString text w → v ≡ w
string_once text v w h g =
    let e : h.inside ≡ g.inside = same_front h.inside g.inside 34 34 (head_is (sym h.quoted ∙ g.quoted)).1 in
    some_list (sym h.spelled ∙ ap string_value e ∙ g.spelled)

-- a number has one value and one type
pub record SameNumber (v w : ℕ) (k l : NumberKind) : Type 0 where
  pub value : v ≡ w
  pub kind : k ≡ l

some_kind : {k l : NumberKind} → Some k ≡ Some l → k ≡ l
some_kind e = cc

some_suffix : {s t : Suffix} → Some s ≡ Some t → s ≡ t
some_suffix e = cc

pub record SameConstant (b c : Base) (ds es : List ℕ) (s t : Suffix) : Type 0 where
  pub base : b ≡ c
  pub digits : ds ≡ es
  pub suffix : s ≡ t

pub constant_once : (text : List ℕ) (b c : Base) (ds es : List ℕ) (s t : Suffix) → IsConstant text b ds s → IsConstant text c es t → SameConstant b c ds es s t
constant_once text b c ds es s t h g =
    let p = only text b ds s h in let q = only text c es t g in
    record { base = sym p.base_is ∙ q.base_is; digits = sym p.digits_are ∙ q.digits_are; suffix = some_suffix (sym p.suffix_is ∙ q.suffix_is) }

pub number_once : (text : List ℕ) (v w : ℕ) (k l : NumberKind) → IsNumber text v k → IsNumber text w l → SameNumber v w k l
number_once text v w k l h g =
    let e = constant_once text h.base g.base h.digits g.digits h.suffix g.suffix h.constant g.constant in
    let value : v ≡ w = h.value_is ∙ ap (λ b. value_in b h.digits) e.base ∙ ap (value_in g.base) e.digits ∙ sym g.value_is in
    record { value = value; kind = some_kind (sym h.kind_is ∙ ap (λ b. kind_of b h.suffix v) e.base ∙ ap (λ s. kind_of g.base s v) e.suffix ∙ ap (kind_of g.base g.suffix) value ∙ g.kind_is) }

pub typed_or_not : (text : List ℕ) (v : ℕ) (k : NumberKind) → IsNumber text v k → HasNoType text → ⊥
typed_or_not text v k h g =
    let e = constant_once text h.base g.base h.digits g.digits h.suffix g.suffix h.constant g.constant in
    let value : v ≡ value_in g.base g.digits = h.value_is ∙ ap (λ b. value_in b h.digits) e.base ∙ ap (value_in g.base) e.digits in
    let none : Some k ≡ None = sym h.kind_is ∙ ap (λ b. kind_of b h.suffix v) e.base ∙ ap (λ s. kind_of g.base s v) e.suffix ∙ ap (kind_of g.base g.suffix) value ∙ g.no_kind in
    cc
