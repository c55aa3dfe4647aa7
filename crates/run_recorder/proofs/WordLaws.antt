-- Words that are one value, each with its laws.
use Rattle.std.proofs.Common.{◌≡◌, ◌∙◌, ◌<◌, ◌≤◌, ◌+◌, ◌^◌, ◌==◌, ℕ, ℤ, pos, negsuc, zero, suc, Bool, true}
use Rattle.std.proofs.Common.{false, cond, [], ◌∷◌, length, drop, Option, Some, None, refl, sym, ap, subst, arith}
use Rattle.std.proofs.Common.{true≢false, eqb-true, decimal, codes}
use Rattle.std.specs.Fmt.{signed_decimal}
use Rattle.std.specs.List.{list_all}
use Rattle.std.proofs.lemmas.Fmt.{decimal_is_IsNumeral_wide}
use Rattle.upc_values.specs.declared.scalar.Mark.{Mark}
use Rattle.upc_values.specs.declared.scalar.Mark.TheVariants as mark
use Rattle.run_recorder_text.specs.Words.{Text, mark_text, home_text, strict_text}
use Rattle.run_recorder_parts.specs.Bounds.{most_u32, most_i32}
use Rattle.run_recorder.specs.Ranges.{IsWithin, FitsMark, FitsHome}
use Rattle.run_recorder_parts.specs.layer.Readers.{bind, constant, begins, number_of, negative, int_of}
use Rattle.run_recorder_parts.specs.layer.Values.{mark_of, home_of, strict_of}
use Rattle.run_recorder_parts.proofs.Bytes.{and_true, in_word, Passes, LetsDigits, decimal_passes, begins_not}
use Rattle.run_recorder_parts.proofs.Bytes.{is_digit_byte, is_int_byte, digits_are, ints_are, in_word_digits}
use Rattle.run_recorder.proofs.Forms.{some_is, bind_some, IsField, constant_takes}
use Rattle.run_recorder_parts.proofs.Numbers.{number_takes, number_again}

-- ---- choices

pub if_takes : {A Q : Type 0} (b : Bool) (x y : Option A) (a : A) → cond b x y ≡ Some a → (x ≡ Some a → Q)
    → (y ≡ Some a → Q) → Q
if_takes true x y a e f g = f e
if_takes false x y a e f g = g e

pub if_not : {A : Type 0} (b : Bool) (x y : Option A) → b ≡ false → cond b x y ≡ y
if_not true x y e = absurd (true≢false e)
if_not false x y e = refl

pub mapped_takes : {A C : Type 0} {q : ℕ → Bool} {of : Text → Option A} {text : A → Text} {F : A → Type 0}
    → IsField q of text F → (con : A → C) (P : C → Text → Type 0)
    → ((a : A) → F a → P (con a) (text a)) → (t : Text) (c : C) → (bind (of t) (λ a. Some (con a))) ≡ Some c → P c t
mapped_takes {A} {C} {q} {of} {text} {F} f con P h t c e =
    let b = bind_some (of t) (λ a. Some (con a)) c e in
    let x = f.takes t b.0 b.1 in
    subst (λ d. P d t) (some_is (con b.0) c b.2) (subst (P (con b.0)) (sym x.0) (h b.0 x.1))

pub mapped_again : {A C : Type 0} {q : ℕ → Bool} {of : Text → Option A} {text : A → Text} {F : A → Type 0}
    → IsField q of text F → (con : A → C) (a : A) → F a
    → (bind (of (text a)) (λ x. Some (con x))) ≡ Some (con a)
mapped_again f con a h = ap (λ o. bind o (λ x. Some (con x))) (f.again a h)

pub constant_case : {C : Type 0} (text : Text) (c : C) (P : C → Text → Type 0) → P c text → (t : Text) (d : C)
    → constant text c t ≡ Some d → P d t
constant_case text c P h t d e =
    let x = constant_takes text c t d e in
    subst (λ y. P y t) x.1 (subst (P c) (sym x.0) h)

-- ---- numbers

pub field_number : (q : ℕ → Bool) → LetsDigits q → (most : ℕ) → most < 10 ^ 64
    → IsField q (number_of most) decimal (λ n. n ≤ most)
field_number q lets most small = record {
  takes = number_takes most;
  again = λ n h. number_again most n h small;
  plain = λ n h. decimal_passes q lets n (omega arith);
}

decimal_some : (n : ℕ) → n < 10 ^ 64 → 0 < length (decimal n)
decimal_some n lt = (decimal_is_IsNumeral_wide n lt).0.0

int_rest : (most : ℕ) (t : Text) (z : ℤ) → most + 1 < 10 ^ 64 → begins 45 t ≡ true
    → (bind (number_of (most + 1) (drop 1 t)) negative) ≡ Some z → (t ≡ signed_decimal z) × IsWithin most z
int_rest most [] z small minus e =
    let bad : (0 == 45) ≡ true = minus in
    absurd (true≢false (sym bad))
int_rest most (x ∷ xs) z small minus e =
    let b = bind_some (number_of (most + 1) xs) negative z e in
    let n = number_takes (most + 1) xs b.0 b.1 in
    let head : x ≡ 45 = eqb-true x 45 minus in
    go b.0 n.0 n.1 b.2 head
  where
    go : (n : ℕ) → xs ≡ decimal n → n ≤ most + 1 → negative n ≡ Some z → x ≡ 45 → (x ∷ xs ≡ signed_decimal z)
        × IsWithin most z
    go zero is le e head = absurd cc
    go (suc n) is le e head =
        subst (λ (y : ℤ). (x ∷ xs ≡ signed_decimal y) × IsWithin most y) (some_is (negsuc n) z e)
        (ap (λ h. h ∷ xs) head ∙ ap (λ r. 45 ∷ r) is, omega arith)

int_takes : (most : ℕ) → most + 1 < 10 ^ 64 → (t : Text) (z : ℤ) → int_of most t ≡ Some z → (t ≡ signed_decimal z)
    × IsWithin most z
int_takes most small t z e = go (begins 45 t) refl e
  where
    go : (b : Bool) → begins 45 t ≡ b
        → cond b (bind (number_of (most + 1) (drop 1 t)) negative) (bind (number_of most t) (λ n. Some (pos n)))
        ≡ Some z → (t ≡ signed_decimal z) × IsWithin most z
    go true is e = int_rest most t z small is e
    go false is e = mapped_takes (field_number is_digit_byte digits_are most (omega arith)) pos
        (λ y u. (u ≡ signed_decimal y) × IsWithin most y) (λ n h. (refl, h)) t z e

int_again : (most : ℕ) → most + 1 < 10 ^ 64 → (z : ℤ) → IsWithin most z → int_of most (signed_decimal z) ≡ Some z
int_again most small (pos n) h =
    if_not (begins 45 (decimal n)) _ _
    (begins_not is_digit_byte 45 (decimal n) (decimal_passes is_digit_byte digits_are n (omega arith))
    (decimal_some n (omega arith)) refl)
    ∙ mapped_again (field_number is_digit_byte digits_are most (omega arith)) pos n h
int_again most small (negsuc n) h = ap (λ o. bind o negative) (number_again (most + 1) (suc n) (omega arith) small)

pub signed_passes : (q : ℕ → Bool) → LetsDigits q → q 45 ≡ true → (most : ℕ) → most + 1 < 10 ^ 64 → (z : ℤ)
    → IsWithin most z → Passes q (signed_decimal z)
signed_passes q lets minus most small (pos n) h = decimal_passes q lets n (omega arith)
signed_passes q lets minus most small (negsuc n) h =
    and_true (q 45) (list_all q (decimal (suc n))) minus (decimal_passes q lets (suc n) (omega arith))

pub field_int : (q : ℕ → Bool) → LetsDigits q → q 45 ≡ true → (most : ℕ) → most + 1 < 10 ^ 64
    → IsField q (int_of most) signed_decimal (IsWithin most)
field_int q lets minus most small =
    record {
      takes = int_takes most small;
      again = int_again most small;
      plain =
          signed_passes q lets minus most small;
    }

signed_some : (most : ℕ) → most + 1 < 10 ^ 64 → (z : ℤ) → IsWithin most z → 0 < length (signed_decimal z)
signed_some most small (pos n) h = decimal_some n (omega arith)
signed_some most small (negsuc n) h = omega arith

-- What an integer does not begin with.
pub int_begins_not : (c most : ℕ) → is_int_byte c ≡ false → most + 1 < 10 ^ 64 → (z : ℤ) → IsWithin most z
    → begins c (signed_decimal z) ≡ false
int_begins_not c most other small z h =
    begins_not is_int_byte c (signed_decimal z) (signed_passes is_int_byte ints_are refl most small z h)
    (signed_some most small z h) other

-- ---- marks, homes, kinds of access

abbrev mark_case : Mark → Text → Type 0
mark_case m t = (t ≡ mark_text m) × FitsMark m

mark_takes : (t : Text) (m : Mark) → mark_of t ≡ Some m → (t ≡ mark_text m) × FitsMark m
mark_takes t m e =
    if_takes (begins 110 t) _ _ m e (constant_case (codes "none") mark.Absent mark_case (refl, tt) t m)
    (λ e. if_takes (begins 115 t) _ _ m e (constant_case (codes "start") mark.Start mark_case (refl, tt) t m)
    (λ e. if_takes (begins 102 t) _ _ m e (constant_case (codes "finish") mark.Finish mark_case (refl, tt) t m)
    (mapped_takes (field_int in_word in_word_digits refl most_i32 (omega arith)) mark.Given mark_case
    (λ z h. (refl, h))
    t m)))

mark_again : (m : Mark) → FitsMark m → mark_of (mark_text m) ≡ Some m
mark_again mark.Absent h = refl
mark_again mark.Start h = refl
mark_again mark.Finish h = refl
mark_again (mark.Given z) h =
    if_not (begins 110 (signed_decimal z)) _ _ (int_begins_not 110 most_i32 refl (omega arith) z h)
    ∙ if_not (begins 115 (signed_decimal z)) _ _ (int_begins_not 115 most_i32 refl (omega arith) z h)
    ∙ if_not (begins 102 (signed_decimal z)) _ _ (int_begins_not 102 most_i32 refl (omega arith) z h)
    ∙ mapped_again (field_int in_word in_word_digits refl most_i32 (omega arith)) mark.Given z h

mark_plain : (m : Mark) → FitsMark m → Passes in_word (mark_text m)
mark_plain mark.Absent h = refl
mark_plain mark.Start h = refl
mark_plain mark.Finish h = refl
mark_plain (mark.Given z) h = signed_passes in_word in_word_digits refl most_i32 (omega arith) z h

pub field_mark : IsField in_word mark_of mark_text FitsMark
field_mark = record { takes = mark_takes; again = mark_again; plain = mark_plain }

abbrev home_case : Option ℕ → Text → Type 0
home_case o t = (t ≡ home_text o) × FitsHome o

abbrev some_home : ℕ → Option ℕ
some_home n = Some n

home_takes : (t : Text) (o : Option ℕ) → home_of t ≡ Some o → (t ≡ home_text o) × FitsHome o
home_takes t o e = if_takes (begins 97 t) _ _ o e (constant_case (codes "any") None home_case (refl, tt) t o)
    (mapped_takes (field_number in_word in_word_digits most_u32 (omega arith)) some_home home_case (λ n h. (refl, h))
    t o)

home_again : (o : Option ℕ) → FitsHome o → home_of (home_text o) ≡ Some o
home_again None h = refl
home_again (Some n) h =
    if_not (begins 97 (decimal n)) _ _
    (begins_not is_digit_byte 97 (decimal n) (decimal_passes is_digit_byte digits_are n (omega arith))
    (decimal_some n (omega arith)) refl)
    ∙ mapped_again (field_number in_word in_word_digits most_u32 (omega arith)) some_home n h

home_plain : (o : Option ℕ) → FitsHome o → Passes in_word (home_text o)
home_plain None h = refl
home_plain (Some n) h = decimal_passes in_word in_word_digits n (omega arith)

pub field_home : IsField in_word home_of home_text FitsHome
field_home = record { takes = home_takes; again = home_again; plain = home_plain }

abbrev pub Always : {A : Type 0} → A → Type 0
Always a = Unit {0}

abbrev strict_case : Bool → Text → Type 0
strict_case b t = (t ≡ strict_text b) × Unit {0}

strict_takes : (t : Text) (b : Bool) → strict_of t ≡ Some b → (t ≡ strict_text b) × Always b
strict_takes t b e =
    if_takes (begins 114 t) _ _ b e (constant_case (codes "relaxed") false strict_case (refl, tt) t b)
    (constant_case (codes "strict") true strict_case (refl, tt) t b)

strict_again : (b : Bool) → Always b → strict_of (strict_text b) ≡ Some b
strict_again false h = refl
strict_again true h = refl

strict_plain : (b : Bool) → Always b → Passes in_word (strict_text b)
strict_plain false h = refl
strict_plain true h = refl

pub field_strict : IsField in_word strict_of strict_text Always
field_strict = record { takes = strict_takes; again = strict_again; plain = strict_plain }
