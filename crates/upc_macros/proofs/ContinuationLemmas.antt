-- What is read after a directive's last token, byte by byte.
use Rattle.std.proofs.Common.{◌≡◌, ℕ, ◌+◌, ◌-◌, ◌<◌, ◌≤◌, zero, suc, true, false, List, [], ◌∷◌, length, get_or, take, drop, refl, ap, arith}
use Rattle.std.proofs.lemmas.List.{drop_all, take_all, length-drop}
use Rattle.upc_macros.specs.declared.continuation.Reading.{Reading}
use Rattle.upc_macros.specs.declared.continuation.Reading.TheVariants.{LineEnd, Text}
use Rattle.upc_macros.specs.Continuation.{after_byte, is_text, goes_on}

pub one_byte : (reading : Reading) (xs : List ℕ) (i : ℕ) → i < length xs → goes_on reading (drop i xs) ≡ goes_on (after_byte reading (get_or xs i 0)) (drop (i + 1) xs)
one_byte reading [] i lt = absurd (omega arith)
one_byte reading (x ∷ xs) zero lt = refl
one_byte reading (x ∷ xs) (suc i) lt = let n : suc i + 1 ≡ suc (i + 1) = omega arith in rw n (one_byte reading xs i (omega arith))

pub text_stays : (xs : List ℕ) → goes_on Text xs ≡ true
text_stays [] = refl
text_stays (x ∷ xs) = text_stays xs

pub end_stays : (xs : List ℕ) → goes_on LineEnd xs ≡ false
end_stays [] = refl
end_stays (x ∷ xs) = end_stays xs

pub all_read : (reading : Reading) (xs : List ℕ) (i : ℕ) → length xs ≤ i → goes_on reading (drop i xs) ≡ is_text reading
all_read reading xs i le = ap (goes_on reading) (drop_all i xs le)

-- what `source[n..]` is
pub rest_is : (n : ℕ) (xs : List ℕ) → take (length xs - n) (drop n xs) ≡ drop n xs
rest_is n xs = take_all (length xs - n) (drop n xs) (omega (arith, length-drop n xs))
