-- Comments end at the first `*/`, and are refused where a splice would end them elsewhere.
use Rattle.std.proofs.Common.{◌≡◌, ℕ, ◌+◌, ◌-◌, ◌<◌, ◌≤◌, zero, suc, Bool, true, false, List, [], ◌∷◌, ◌++◌, length, get_or, take, drop, append_assoc, append-nil, add-one, refl, sym, ap, ◌∙◌, subst, inl, inr, arith}
use Rattle.std.proofs.lemmas.List.{get_or-take, length-take, take-append-drop}
use Rattle.std.proofs.lemmas.Bool.Decides.{nat_tests}
use Rattle.std.proofs.Math.Seq.{take-suc, take-append_seam}
use Rattle.std.specs.List.{list_all, prefix_len}
use Rattle.upc_lexer.specs.Bytes.{is_blank, is_in_line}
use Rattle.upc_lexer.specs.Gaps.{Closes, IsCommentEnd, IsGap, blank, line, block, StopsAt, FindsGap}
use Rattle.upc_lexer.specs.declared.gaps.Gap.TheVariants.{Refused}
use Rattle.upc_lexer.specs.Splices.{ends_in_splice, has_spliced_end}
use Rattle.upc_lexer.proofs.Lists.{head_is, fronts, run_is, run_passes, run_stops}

-- no `*/` ends before i
abbrev pub NoPair : List ℕ → ℕ → Type 0
NoPair bytes i = (k : ℕ) → k + 1 < i → get_or bytes k 0 ≡ 42 → get_or bytes (k + 1) 0 ≡ 47 → ⊥

pair_first : (before after : List ℕ) → get_or (before ++ 42 ∷ 47 ∷ after) (length before) 0 ≡ 42
pair_first [] after = refl
pair_first (b ∷ before) after = pair_first before after

pair_second : (before after : List ℕ) → get_or (before ++ 42 ∷ 47 ∷ after) (suc (length before)) 0 ≡ 47
pair_second [] after = refl
pair_second (b ∷ before) after = pair_second before after

pair_length : (before after : List ℕ) → length (before ++ 42 ∷ 47 ∷ after) ≡ length before + (2 + length after)
pair_length [] after = omega arith
pair_length (b ∷ before) after = omega (arith, pair_length before after)

-- bytes with no pair are not closed
pub not_closed : (bytes : List ℕ) (i : ℕ) → length bytes ≤ i → NoPair bytes i → Closes bytes → ⊥
not_closed bytes i le none h =
    let e : bytes ≡ h.before ++ 42 ∷ 47 ∷ h.after = h.found ∙ append_assoc h.before (42 ∷ 47 ∷ []) h.after in
    let second : get_or bytes (length h.before + 1) 0 ≡ 47 = rw (add-one, e) (pair_second h.before h.after) in
    none (length h.before) (omega (arith, ap length e, pair_length h.before h.after)) (rw e (pair_first h.before h.after)) second

take_two : (i : ℕ) (bytes : List ℕ) → suc i < length bytes → take (suc (suc i)) bytes ≡ take i bytes ++ get_or bytes i 0 ∷ get_or bytes (suc i) 0 ∷ []
take_two i [] lt = absurd (omega arith)
take_two zero (a ∷ []) lt = absurd (omega arith)
take_two zero (a ∷ b ∷ bytes) lt = refl
take_two (suc i) (a ∷ bytes) lt = ap (λ xs. a ∷ xs) (take_two i bytes (omega arith))

front_no_pair : (n : ℕ) (bytes : List ℕ) → NoPair bytes n → NoPair (take n bytes) n
front_no_pair n bytes none k lt first second = none k lt (sym (get_or-take n bytes k 0 (omega arith)) ∙ first) (sym (get_or-take n bytes (k + 1) 0 lt) ∙ second)

ends_by : (j : ℕ) (bytes : List ℕ) → suc j < length bytes → NoPair bytes (suc j) → get_or bytes j 0 ≡ 42 → get_or bytes (suc j) 0 ≡ 47 → IsCommentEnd (take (suc (suc j)) bytes)
ends_by j bytes lt none star slash = record {
  body = take j bytes;
  ended = take_two j bytes lt ∙ rw (star, slash) refl;
  first = λ h.
      let front : take (suc j) bytes ≡ take j bytes ++ 42 ∷ [] = take-suc bytes j 0 (omega arith) ∙ rw star refl in
      not_closed (take (suc j) bytes) (suc j) (omega (arith, length-take (suc j) bytes)) (front_no_pair (suc j) bytes none) (subst Closes (sym front) h);
}

-- the first `*/` ends the comment
pub ends_at : (i : ℕ) (bytes : List ℕ) → 1 ≤ i → i < length bytes → NoPair bytes i → get_or bytes (i - 1) 0 ≡ 42 → get_or bytes i 0 ≡ 47 → IsCommentEnd (take (i + 1) bytes)
ends_at zero bytes le lt none star slash = absurd (omega arith)
ends_at (suc j) bytes le lt none star slash =
    let p : suc j - 1 ≡ j = omega arith in
    rw add-one (ends_by j bytes lt none (rw p at star) slash)

-- two runs of one list, and two comments
pub run_same : (p : ℕ → Bool) (xs ys zs ws : List ℕ) → list_all p xs ≡ true → StopsAt p ys → list_all p zs ≡ true → StopsAt p ws → xs ++ ys ≡ zs ++ ws → xs ≡ zs
run_same p xs ys zs ws a b c d e =
    let n : length xs ≡ length zs = sym (run_is p xs ys a b) ∙ ap (prefix_len p) e ∙ run_is p zs ws c d in
    sym (take-append_seam xs ys) ∙ ap (take (length xs)) e ∙ ap (λ n. take n (zs ++ ws)) n ∙ take-append_seam zs ws

-- one body does not go on behind the other
body_front : (xs ys vs ws more : List ℕ) → (Closes (ys ++ 42 ∷ []) → ⊥) → ys ≡ xs ++ more → 42 ∷ 47 ∷ vs ≡ more ++ 42 ∷ 47 ∷ ws → xs ≡ ys
body_front xs ys vs ws [] n e f = sym (e ∙ append-nil xs)
body_front xs ys vs ws (a ∷ []) n e f = absurd (omega (arith, (head_is (head_is f).1).0))
body_front xs ys vs ws (a ∷ b ∷ more) n e f =
    let star : 42 ≡ a = (head_is f).0 in
    let slash : 47 ≡ b = (head_is (head_is f).1).0 in
    absurd (n (record {
      before = xs;
      after = more ++ 42 ∷ [];
      found = ap (λ t. t ++ 42 ∷ []) e ∙ rw (← star, ← slash) (append_assoc xs (42 ∷ 47 ∷ more) (42 ∷ []) ∙ sym (append_assoc xs (42 ∷ 47 ∷ []) (more ++ 42 ∷ [])));
    }))

pub body_same : (xs ys vs ws : List ℕ) → (Closes (xs ++ 42 ∷ []) → ⊥) → (Closes (ys ++ 42 ∷ []) → ⊥) → xs ++ 42 ∷ 47 ∷ vs ≡ ys ++ 42 ∷ 47 ∷ ws → xs ≡ ys
body_same xs ys vs ws n m e = elim (fronts xs (42 ∷ 47 ∷ vs) ys (42 ∷ 47 ∷ ws) e) [
  | inl l ↦ body_front xs ys vs ws l.more m l.front l.back
  | inr l ↦ sym (body_front ys xs ws vs l.more n l.front l.back)
]

pub blank_no_slash : (b : ℕ) → is_blank b ≡ true → b ≡ 47 → ⊥
blank_no_slash b h e = grind (arith, nat_tests)

pub block_rest : (body rest : List ℕ) → (47 ∷ 42 ∷ body ++ 42 ∷ 47 ∷ []) ++ rest ≡ 47 ∷ 42 ∷ (body ++ 42 ∷ 47 ∷ rest)
block_rest body rest = ap (λ t. 47 ∷ 42 ∷ t) (append_assoc body (42 ∷ 47 ∷ []) rest)

-- a comment to the end of its line, and one between marks
pub line_gap : (bytes rest : List ℕ) (n : ℕ) → 2 ≤ length bytes → get_or bytes 0 0 ≡ 47 → get_or bytes 1 0 ≡ 47 → rest ≡ drop 2 bytes → n ≡ prefix_len is_in_line rest → ends_in_splice (take n rest) ≡ false → IsGap (take (2 + n) bytes) (drop (2 + n) bytes)
line_gap [] rest n le a b r e m = absurd (omega arith)
line_gap (x ∷ []) rest n le a b r e m = absurd (omega arith)
line_gap (x ∷ y ∷ bytes) rest n le a b r e m =
    let k : 2 + n ≡ suc (suc n) = omega arith in
    let same : n ≡ prefix_len is_in_line bytes = e ∙ ap (prefix_len is_in_line) r in
    let whole : ends_in_splice (take (prefix_len is_in_line bytes) bytes) ≡ false = sym (ap (λ xs. ends_in_splice (take n xs)) r ∙ ap (λ n. ends_in_splice (take n bytes)) same) ∙ m in
    rw (k, a, b, same) (line (take (prefix_len is_in_line bytes) bytes) refl (run_passes is_in_line bytes) (run_stops is_in_line bytes) whole)

pub block_gap : (bytes rest : List ℕ) (n : ℕ) → 2 ≤ length bytes → get_or bytes 0 0 ≡ 47 → get_or bytes 1 0 ≡ 42 → rest ≡ drop 2 bytes → IsCommentEnd (take n rest) → has_spliced_end (take n rest) ≡ false → IsGap (take (2 + n) bytes) (drop (2 + n) bytes)
block_gap [] rest n le a b r h m = absurd (omega arith)
block_gap (x ∷ []) rest n le a b r h m = absurd (omega arith)
block_gap (x ∷ y ∷ bytes) rest n le a b r h m =
    let k : 2 + n ≡ suc (suc n) = omega arith in
    let end : take n bytes ≡ h.body ++ 42 ∷ 47 ∷ [] = ap (take n) (sym r) ∙ h.ended in
    rw (k, a, b) (block h.body (ap (λ xs. 47 ∷ 42 ∷ xs) end) h.first (sym (ap has_spliced_end h.ended) ∙ m))

pub blank_gap : (bytes : List ℕ) → 1 ≤ length bytes → is_blank (get_or bytes 0 0) ≡ true → IsGap (take 1 bytes) (drop 1 bytes)
blank_gap [] le h = absurd (omega arith)
blank_gap (b ∷ bytes) le h = blank b refl h

true_false : true ≡ false → ⊥
true_false e = cc

-- a comment that is refused is no gap
no_line_gap : (tail text after : List ℕ) → ends_in_splice (take (prefix_len is_in_line tail) tail) ≡ true → 47 ∷ 47 ∷ tail ≡ text ++ after → IsGap text after → ⊥
no_line_gap tail text after s e (blank b x h) = blank_no_slash b h (sym (head_is (e ∙ ap (λ u. u ++ after) x)).0)
no_line_gap tail text after s e (line x f g k m) =
    let two : tail ≡ x ++ after = (head_is (head_is (e ∙ ap (λ u. u ++ after) f)).1).1 in
    let n : prefix_len is_in_line tail ≡ length x = ap (prefix_len is_in_line) two ∙ run_is is_in_line x after g k in
    let front : take (prefix_len is_in_line tail) tail ≡ x = ap (λ n. take n tail) n ∙ ap (take (length x)) two ∙ take-append_seam x after in
    true_false (sym s ∙ ap ends_in_splice front ∙ m)
no_line_gap tail text after s e (block x f g m) = omega (arith, (head_is (head_is (e ∙ ap (λ u. u ++ after) f)).1).0)

no_block_gap : (tail body more text after : List ℕ) → has_spliced_end (body ++ 42 ∷ 47 ∷ []) ≡ true → (Closes (body ++ 42 ∷ []) → ⊥) → tail ≡ body ++ 42 ∷ 47 ∷ more → 47 ∷ 42 ∷ tail ≡ text ++ after → IsGap text after → ⊥
no_block_gap tail body more text after s c t e (blank b x h) = blank_no_slash b h (sym (head_is (e ∙ ap (λ u. u ++ after) x)).0)
no_block_gap tail body more text after s c t e (line x f g k m) = omega (arith, (head_is (head_is (e ∙ ap (λ u. u ++ after) f)).1).0)
no_block_gap tail body more text after s c t e (block x f g m) =
    let two : body ++ 42 ∷ 47 ∷ more ≡ x ++ 42 ∷ 47 ∷ after = sym t ∙ (head_is (head_is (e ∙ ap (λ u. u ++ after) f ∙ block_rest x after)).1).1 in
    let same : body ≡ x = body_same body x more after c g two in
    true_false (sym s ∙ ap (λ b. has_spliced_end (b ++ 42 ∷ 47 ∷ [])) same ∙ m)

pub line_refused : (bytes rest : List ℕ) (n : ℕ) → 2 ≤ length bytes → get_or bytes 0 0 ≡ 47 → get_or bytes 1 0 ≡ 47 → rest ≡ drop 2 bytes → n ≡ prefix_len is_in_line rest → ends_in_splice (take n rest) ≡ true → FindsGap bytes Refused
line_refused [] rest n le a b r e s = absurd (omega arith)
line_refused (x ∷ []) rest n le a b r e s = absurd (omega arith)
line_refused (x ∷ y ∷ bytes) rest n le a b r e s =
    let same : n ≡ prefix_len is_in_line bytes = e ∙ ap (prefix_len is_in_line) r in
    let whole : ends_in_splice (take (prefix_len is_in_line bytes) bytes) ≡ true = sym (ap (λ xs. ends_in_splice (take n xs)) r ∙ ap (λ n. ends_in_splice (take n bytes)) same) ∙ s in
    (rw (a, b) refl, λ text after f h. no_line_gap bytes text after whole (sym (rw (a, b) refl) ∙ f) h)

pub block_refused : (bytes rest : List ℕ) (n : ℕ) → 2 ≤ length bytes → get_or bytes 0 0 ≡ 47 → get_or bytes 1 0 ≡ 42 → rest ≡ drop 2 bytes → IsCommentEnd (take n rest) → has_spliced_end (take n rest) ≡ true → FindsGap bytes Refused
block_refused [] rest n le a b r h s = absurd (omega arith)
block_refused (x ∷ []) rest n le a b r h s = absurd (omega arith)
block_refused (x ∷ y ∷ bytes) rest n le a b r h s =
    let end : take n bytes ≡ h.body ++ 42 ∷ 47 ∷ [] = ap (take n) (sym r) ∙ h.ended in
    let tail : bytes ≡ h.body ++ 42 ∷ 47 ∷ drop n bytes = sym (take-append-drop n bytes) ∙ ap (λ t. t ++ drop n bytes) end ∙ append_assoc h.body (42 ∷ 47 ∷ []) (drop n bytes) in
    (rw (a, b) refl, λ text after f k. no_block_gap bytes h.body (drop n bytes) text after (sym (ap has_spliced_end h.ended) ∙ s) h.first tail (sym (rw (a, b) refl) ∙ f) k)
