-- The value of digits.
use Rattle.std.proofs.Common.{◌≡◌, ℕ, ◌+◌, ◌*◌, ◌<◌, ◌≤◌, List, [], ◌∷◌, length, take, drop, get_or, sym, ap, ◌∙◌, subst, arith}
use Rattle.std.proofs.lemmas.List.{take-append-drop}
use Rattle.std.proofs.lemmas.List.Sums.{fold-append, fold_more}
use Rattle.std.specs.List.{fold}
use Rattle.upc_lexer.specs.declared.numbers.Base.{Base}
use Rattle.upc_lexer.specs.declared.numbers.Base.TheVariants.{Decimal, Octal, Hexadecimal}
use Rattle.upc_lexer.specs.Numbers.{radix, digit_value, value_in}

grows_once : (base : Base) (a d : ℕ) → a ≤ a * radix base + d
grows_once Decimal a d = omega arith
grows_once Octal a d = omega arith
grows_once Hexadecimal a d = omega arith

grows : (base : Base) (a : ℕ) (xs : List ℕ) → a ≤ fold (λ value digit. value * radix base + digit_value digit) a xs
grows base a [] = omega arith
grows base a (x ∷ xs) = omega (arith, grows_once base a (digit_value x), grows base (a * radix base + digit_value x) xs)

-- the value of a front is no more than that of the whole
pub front_value : (base : Base) (n : ℕ) (xs : List ℕ) → value_in base (take n xs) ≤ value_in base xs
front_value base n xs =
    let whole : value_in base xs ≡ fold (λ value digit. value * radix base + digit_value digit) (value_in base (take n xs)) (drop n xs) = ap (value_in base) (sym (take-append-drop n xs)) ∙ fold-append _ 0 (take n xs) (drop n xs) in
    omega (arith, whole, grows base (value_in base (take n xs)) (drop n xs))

-- what the next digit makes of the value so far is no more than the whole
pub next_value : (base : Base) (xs : List ℕ) (i a r : ℕ) → i < length xs → a ≡ value_in base (take i xs) → r ≡ radix base → a * r + digit_value (get_or xs i 0) ≤ value_in base xs
next_value base xs i a r lt e f =
    rw (e, f) (subst (λ n. n ≤ value_in base xs) (fold_more _ 0 xs i 0 lt) (front_value base (i + 1) xs))
