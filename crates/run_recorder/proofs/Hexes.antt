-- Words that are bytes.
use Rattle.std.proofs.Common.{◌≡◌, ◌∙◌, ◌≤◌, ◌/◌, ◌%◌, ◌&&◌, ◌==◌, not, ℕ, zero, suc, Bool, true, false, cond, List}
use Rattle.std.proofs.Common.{[], ◌∷◌, length, slice_index, Some, None, Result, Ok, Err, refl, sym, ap, subst, arith}
use Rattle.std.proofs.Common.{codes, leb-true, le-leb}
use Rattle.std.specs.Prelude.{nat_le}
use Rattle.std.specs.List.{list_all}
use Rattle.std.specs.Str.{bytes_eq}
use Rattle.std.proofs.lemmas.Slice.Eq.{bytes_eq-Decides}
use Rattle.hex.specs.Hex.{IsBytes, decode_of, encode_lower, encode_with, lower_digits}
use Rattle.hex.specs.declared.error.FromHexError.{FromHexError}
use Rattle.hex.proofs.HexLemmas.{decode_of-encode_lower, decode_of-ok, length-encode_with}
use Rattle.run_recorder_text.specs.Words.{Text, hex_text}
use Rattle.run_recorder_parts.specs.layer.Readers.{begins}
use Rattle.run_recorder_parts.specs.layer.Values.{spelled_by, pairs_of, hex_of}
use Rattle.run_recorder_parts.proofs.Bytes.{both, and_true, in_word, Passes, begins_not}
use Rattle.run_recorder.proofs.Forms.{guard_some, IsField}
use Rattle.run_recorder.proofs.WordLaws.{if_takes, if_not, constant_case}

index_passes : (q : ℕ → Bool) → q 0 ≡ true → (t : Text) → Passes q t → (k : ℕ) → q (slice_index t k) ≡ true
index_passes q zeros [] h k = zeros
index_passes q zeros (x ∷ xs) h zero = (both (q x) (list_all q xs) h).0
index_passes q zeros (x ∷ xs) h (suc k) = index_passes q zeros xs (both (q x) (list_all q xs) h).1 k

encoded_passes : (q : ℕ → Bool) → q 0 ≡ true → (t : Text) → Passes q t → (bs : List ℕ) → Passes q (encode_with t bs)
unfolding encode_with
encoded_passes q zeros t h [] = refl
encoded_passes q zeros t h (b ∷ bs) =
    and_true _ _ (index_passes q zeros t h (b / 16))
    (and_true _ _ (index_passes q zeros t h (b % 16)) (encoded_passes q zeros t h bs))

abbrev hex_case : List ℕ → Text → Type 0
hex_case bs t = (t ≡ hex_text bs) × IsBytes bs

some_text : (bs : List ℕ) → 1 ≤ length bs → hex_text bs ≡ encode_lower bs
some_text [] h = absurd (omega arith)
some_text (b ∷ bs) h = refl

pairs_takes : (t : Text) (bs : List ℕ) → pairs_of t ≡ Some bs → hex_case bs t
pairs_takes t bs e = go (decode_of t) refl e
  where
    go : (r : Result (List ℕ) FromHexError) → decode_of t ≡ r → spelled_by t r ≡ Some bs → hex_case bs t
    go (Ok xs) is e =
        let g = guard_some (nat_le 1 (length xs) && bytes_eq (encode_lower xs) t) xs bs e in
        let p = both (nat_le 1 (length xs)) (bytes_eq (encode_lower xs) t) g.0 in
        let text : encode_lower xs ≡ t = (bytes_eq-Decides _ _).0 p.1 in
        subst (λ ys. hex_case ys t) g.1 (sym text ∙ sym (some_text xs (leb-true _ _ p.0)), (decode_of-ok t xs is).3)
    go (Err f) is e = absurd cc

hex_takes : (t : Text) (bs : List ℕ) → hex_of t ≡ Some bs → (t ≡ hex_text bs) × IsBytes bs
hex_takes t bs e = if_takes (begins 45 t) _ _ bs e
    (constant_case (codes "-") [] hex_case (refl, λ i. omega arith) t bs) (pairs_takes t bs)

abbrev not_minus : ℕ → Bool
not_minus b = not (b == 45)

spelled : (bs : List ℕ) → 1 ≤ length bs → spelled_by (encode_lower bs) (Ok bs) ≡ Some bs
spelled bs h = chosen (nat_le 1 (length bs) && bytes_eq (encode_lower bs) (encode_lower bs)) bs
    (and_true _ _ (le-leb 1 (length bs) h) ((bytes_eq-Decides (encode_lower bs) (encode_lower bs)).1 refl))
  where
    chosen : (b : Bool) (xs : List ℕ) → b ≡ true → cond b (Some xs) None ≡ Some xs
    chosen true xs e = refl
    chosen false xs e = absurd cc

hex_again : (bs : List ℕ) → IsBytes bs → hex_of (hex_text bs) ≡ Some bs
hex_again [] h = refl
hex_again (b ∷ bs) h =
    if_not (begins 45 (encode_lower (b ∷ bs))) _ _
    (begins_not not_minus 45 (encode_lower (b ∷ bs)) (encoded_passes not_minus refl lower_digits refl (b ∷ bs))
    (omega (arith, length-encode_with lower_digits (b ∷ bs))) refl)
    ∙ ap (spelled_by (encode_lower (b ∷ bs))) (decode_of-encode_lower (b ∷ bs) h) ∙ spelled (b ∷ bs) (omega arith)

hex_plain : (bs : List ℕ) → IsBytes bs → Passes in_word (hex_text bs)
hex_plain [] h = refl
hex_plain (b ∷ bs) h = encoded_passes in_word refl lower_digits refl (b ∷ bs)

pub field_hex : IsField in_word hex_of hex_text IsBytes
field_hex = record { takes = hex_takes; again = hex_again; plain = hex_plain }
