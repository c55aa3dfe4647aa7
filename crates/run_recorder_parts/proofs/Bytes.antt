-- Lists of bytes that a test lets through, and joining and splitting.
use Rattle.std.proofs.Common.{◌≡◌, ◌∙◌, ◌<◌, ◌≤◌, ◌^◌, ◌&&◌, ◌==◌, not, ℕ, zero, suc, Bool, true, false, List}
use Rattle.std.proofs.Common.{[], ◌∷◌, ◌++◌, length, refl, sym, ap, arith, true≢false, decimal, le-leb, ne_eqb}
use Rattle.std.proofs.Common.{eqb-true, ◌||◌}
use Rattle.std.specs.Prelude.{nat_le}
use Rattle.std.specs.List.{All, join_with_byte, list_all, slice_split}
use Rattle.std.specs.Str.Parse.{AllDigits}
use Rattle.std.proofs.lemmas.Fmt.{decimal_is_IsNumeral_wide}
use Rattle.std.proofs.lemmas.List.Splits.{slice_split_at, slice_split_none}
use Rattle.std.proofs.lemmas.List.Folds.{list_all-append}
use Rattle.std.proofs.lemmas.Str.Parse.{digit_from_value}
use Rattle.upc_values.specs.Lists.{Each}
use Rattle.run_recorder_text.specs.Words.{Text}
use Rattle.run_recorder_parts.specs.layer.Readers.{begins}

pub both : (a b : Bool) → a && b ≡ true → (a ≡ true) × (b ≡ true)
both true b e = (refl, e)
both false b e = absurd (true≢false (sym e))

pub and_true : (a b : Bool) → a ≡ true → b ≡ true → a && b ≡ true
and_true true b p q = q
and_true false b p q = p

-- ---- tests of bytes

abbrev pub in_line : ℕ → Bool
in_line b = not (b == 10)

abbrev pub in_word : ℕ → Bool
in_word b = not (b == 32) && in_line b

abbrev pub in_part : ℕ → Bool
in_part b = (not (b == 46) && not (b == 58)) && in_word b

-- The test lets each byte through.
abbrev pub Passes : (ℕ → Bool) → Text → Type 0
Passes q t = list_all q t ≡ true

-- It lets digits through.
abbrev pub LetsDigits : (ℕ → Bool) → Type 0
LetsDigits q = (d : ℕ) → 48 ≤ d → d ≤ 57 → q d ≡ true

pub Passes-weaker : (q r : ℕ → Bool) → ((b : ℕ) → q b ≡ true → r b ≡ true) → (t : Text) → Passes q t → Passes r t
Passes-weaker q r w [] h = refl
Passes-weaker q r w (b ∷ bs) h = let p = both (q b) (list_all q bs) h in
    and_true (r b) (list_all r bs) (w b p.0) (Passes-weaker q r w bs p.1)

pub Passes-append : (q : ℕ → Bool) (t u : Text) → Passes q t → Passes q u → Passes q (t ++ u)
Passes-append q t u p h = list_all-append q t u ∙ and_true (list_all q t) (list_all q u) p h

digits_pass : (q : ℕ → Bool) → LetsDigits q → (ds : Text) → AllDigits 10 ds → Passes q ds
digits_pass q l [] h = refl
digits_pass q l (d ∷ ds) h =
    let range = digit_from_value d h.0 in
    and_true (q d) (list_all q ds) (l d (omega (arith, range)) (omega (arith, range))) (digits_pass q l ds h.1)

pub decimal_passes : (q : ℕ → Bool) → LetsDigits q → (n : ℕ) → n < 10 ^ 64 → Passes q (decimal n)
decimal_passes q l n lt = digits_pass q l (decimal n) (decimal_is_IsNumeral_wide n lt).0.1

-- ---- joining and splitting

abbrev pub EachPasses : (ℕ → Bool) → List Text → Type 0
EachPasses q ws = Each (Passes q) ws

pub EachPasses-weaker : (q r : ℕ → Bool) → ((b : ℕ) → q b ≡ true → r b ≡ true) → (ws : List Text) → EachPasses q ws
    → EachPasses r ws
EachPasses-weaker q r w [] h = tt
EachPasses-weaker q r w (t ∷ ts) h = (Passes-weaker q r w t h.0, EachPasses-weaker q r w ts h.1)

pub EachPasses-append : (q : ℕ → Bool) (xs ys : List Text) → EachPasses q xs → EachPasses q ys
    → EachPasses q (xs ++ ys)
EachPasses-append q [] ys h k = k
EachPasses-append q (x ∷ xs) ys h k = (h.0, EachPasses-append q xs ys h.1 k)

pub join_passes : (q : ℕ → Bool) (mark : ℕ) → q mark ≡ true → (ws : List Text) → EachPasses q ws
    → Passes q (join_with_byte mark ws)
join_passes q mark h [] e = refl
join_passes q mark h (w ∷ []) e = e.0
join_passes q mark h (w ∷ v ∷ ws) e =
    Passes-append q w (mark ∷ join_with_byte mark (v ∷ ws)) e.0
    (and_true (q mark) (list_all q (join_with_byte mark (v ∷ ws))) h (join_passes q mark h (v ∷ ws) e.1))

-- No byte is the mark.
is_free : (mark : ℕ) (q : ℕ → Bool) → ((b : ℕ) → q b ≡ true → (b == mark) ≡ false) → (t : Text) → Passes q t
    → All (λ b. (b == mark) ≡ false) t
is_free mark q free [] h k d lt = absurd (omega arith)
is_free mark q free (b ∷ bs) h zero d lt = free b (both (q b) (list_all q bs) h).0
is_free mark q free (b ∷ bs) h (suc k) d lt =
    is_free mark q free bs (both (q b) (list_all q bs) h).1 k d (omega arith)

pub split_join : (mark : ℕ) (q : ℕ → Bool) → ((b : ℕ) → q b ≡ true → (b == mark) ≡ false) → (mark == mark) ≡ true
    → (ws : List Text) → 0 < length ws → EachPasses q ws → slice_split (λ b. b == mark) (join_with_byte mark ws) ≡ ws
split_join mark q free same [] lt e = absurd (omega arith)
split_join mark q free same (w ∷ []) lt e = slice_split_none (λ b. b == mark) w (is_free mark q free w e.0)
split_join mark q free same (w ∷ v ∷ ws) lt e =
    slice_split_at (λ b. b == mark) w mark (join_with_byte mark (v ∷ ws)) (is_free mark q free w e.0) same
    ∙ ap (λ rest. w ∷ rest) (split_join mark q free same (v ∷ ws) (omega arith) e.1)

-- A text whose bytes pass does not begin with one that fails.
pub begins_not : (q : ℕ → Bool) (c : ℕ) (t : Text) → Passes q t → 0 < length t → q c ≡ false → begins c t ≡ false
begins_not q c [] h lt no_c = absurd (omega arith)
begins_not q c (x ∷ xs) h lt no_c = go (x == c) refl
  where
    go : (b : Bool) → (x == c) ≡ b → (x == c) ≡ false
    go true e = absurd (true≢false (sym (both (q x) (list_all q xs) h).0 ∙ ap q (eqb-true x c e) ∙ no_c))
    go false e = e

abbrev pub is_digit_byte : ℕ → Bool
is_digit_byte b = nat_le 48 b && nat_le b 57

abbrev pub is_int_byte : ℕ → Bool
is_int_byte b = b == 45 || is_digit_byte b

pub digits_are : LetsDigits is_digit_byte
digits_are d low high = and_true (nat_le 48 d) (nat_le d 57) (le-leb 48 d low) (le-leb d 57 high)

pub ints_are : LetsDigits is_int_byte
ints_are d low high = go (d == 45)
  where
    go : (b : Bool) → (b || is_digit_byte d) ≡ true
    go true = refl
    go false = digits_are d low high

pub in_part_digits : LetsDigits in_part
in_part_digits d low high =
    rw (
      ne_eqb d 46 (λ e. omega arith),
      ne_eqb d 58 (λ e. omega arith),
      ne_eqb d 32 (λ e. omega arith),
      ne_eqb d 10
          (λ e. omega arith),
    ) refl

pub in_word_digits : LetsDigits in_word
in_word_digits d low high = rw (ne_eqb d 32 (λ e. omega arith), ne_eqb d 10 (λ e. omega arith)) refl

pub part_word : (b : ℕ) → in_part b ≡ true → in_word b ≡ true
part_word b h = (both (not (b == 46) && not (b == 58)) (in_word b) h).1

pub word_line : (b : ℕ) → in_word b ≡ true → in_line b ≡ true
word_line b h = (both (not (b == 32)) (in_line b) h).1

not_true : (b : Bool) → not b ≡ true → b ≡ false
not_true true e = absurd (true≢false (sym e))
not_true false e = refl

pub part_no_dot : (b : ℕ) → in_part b ≡ true → (b == 46) ≡ false
part_no_dot b h = not_true (b ==
    46) (both (not (b == 46)) (not (b == 58)) (both (not (b == 46) && not (b == 58)) (in_word b) h).0).0

pub part_no_colon : (b : ℕ) → in_part b ≡ true → (b == 58) ≡ false
part_no_colon b h = not_true (b ==
    58) (both (not (b == 46)) (not (b == 58)) (both (not (b == 46) && not (b == 58)) (in_word b) h).0).1

pub word_no_blank : (b : ℕ) → in_word b ≡ true → (b == 32) ≡ false
word_no_blank b h = not_true (b == 32) (both (not (b == 32)) (in_line b) h).0

pub line_no_end : (b : ℕ) → in_line b ≡ true → (b == 10) ≡ false
line_no_end b h = not_true (b == 10) h
