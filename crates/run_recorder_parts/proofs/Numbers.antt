-- Words that are numbers.
use Rattle.std.proofs.Common.{◌≡◌, ◌∙◌, ◌<◌, ◌≤◌, ◌^◌, ◌&&◌, ℕ, Bool, true, false, cond, Option, Some, None, Result}
use Rattle.std.proofs.Common.{Ok, Err, refl, sym, ap, subst, arith, true≢false, decimal, leb-true, le-leb, not}
use Rattle.std.specs.Prelude.{nat_le}
use Rattle.std.specs.Str.{bytes_eq}
use Rattle.std.specs.Str.Parse.{ParsesUnsigned, digits_value}
use Rattle.std.proofs.lemmas.Fmt.{decimal_is_IsNumeral_wide, parse-decimal_wide}
use Rattle.std.proofs.lemmas.Slice.Eq.{bytes_eq-Decides}
use Rattle.run_recorder_text.specs.Words.{Text}
use Rattle.run_recorder_parts.specs.layer.Readers.{number_of}
use Rattle.run_recorder_parts.proofs.Bytes.{both, and_true}

abbrev pub value : Text → ℕ
value t = digits_value 10 t

taken : (b : Bool) (n m : ℕ) → cond b (Some n) None ≡ Some m → (b ≡ true) × (n ≡ m)
taken true n m e = (refl, cc)
taken false n m e = absurd cc

chosen : (b : Bool) (n : ℕ) → b ≡ true → cond b (Some n) None ≡ Some n
chosen true n e = refl
chosen false n e = absurd (true≢false (sym e))

left : (b : Bool) (n : ℕ) → (b ≡ true → ⊥) → cond b (Some n) None ≡ None
left true n e = absurd (e refl)
left false n e = refl

abbrev some_of : ℕ → Option ℕ
some_of m = Some m

pub number_takes : (most : ℕ) (t : Text) (n : ℕ) → number_of most t ≡ Some n → (t ≡ decimal n) × (n ≤ most)
number_takes most t n e =
    let k = taken (nat_le (value t) most && bytes_eq (decimal (value t)) t) (value t) n e in
    let p = both (nat_le (value t) most) (bytes_eq (decimal (value t)) t) k.0 in
    let same : decimal (value t) ≡ t = (bytes_eq-Decides _ _).0 p.1 in
    (sym same ∙ ap decimal k.1, subst (λ m. m ≤ most) k.1 (leb-true _ _ p.0))

pub number_again : (most n : ℕ) → n ≤ most → most < 10 ^ 64 → number_of most (decimal n) ≡ Some n
number_again most n le small =
    let is : value (decimal n) ≡ n = (decimal_is_IsNumeral_wide n (omega arith)).1 in
    let same : decimal (value (decimal n)) ≡ decimal n = ap decimal is in
    chosen (nat_le (value (decimal n)) most && bytes_eq (decimal (value (decimal n))) (decimal n)) (value (decimal n))
    (and_true _ _ (subst (λ m. nat_le m most ≡ true) (sym is) (le-leb n most le)) ((bytes_eq-Decides _ _).1 same))
    ∙ ap some_of is

pub number_none : (most : ℕ) (t : Text) → (value t ≤ most → t ≡ decimal (value t) → ⊥) → number_of most t ≡ None
number_none most t bad = left (nat_le (value t) most && bytes_eq (decimal (value t)) t) (value t)
    (λ e. let p = both (nat_le (value t) most) (bytes_eq (decimal (value t)) t) e in
    bad (leb-true _ _ p.0) (sym ((bytes_eq-Decides _ _).0 p.1)))

-- A word that is read as a number is what `parse` reads.
pub parsed : {E : Type 0} (most : ℕ) (t : Text) (r : Result ℕ E) → most < 2 ^ 128 → ParsesUnsigned 128 10 t r
    → value t ≤ most → t ≡ decimal (value t) → r ≡ Ok (value t)
parsed most t r small p le is = parse-decimal_wide 128 (value t) t r (omega arith) (omega arith) is p

abbrev done : (E : Type 0) → ℕ → Result ℕ E
done E n = Ok n

abbrev failed : (E : Type 0) → E → Result ℕ E
failed E e = Err e

ok_is : (E : Type 0) (a b : ℕ) → done E a ≡ done E b → a ≡ b
ok_is E a b e = cc

never : (E : Type 0) (e : E) (b : ℕ) → failed E e ≡ done E b → ⊥
never E e b h = absurd cc

-- What the code finds, by what `parse` read.
pub read_err : (E : Type 0) (most : ℕ) (t u : Text) (e : E) → most < 2 ^ 128 → u ≡ t
    → ParsesUnsigned 128 10 u (failed E e) → None ≡ number_of most t
read_err E most t u e small same p =
    sym (number_none most t
    (λ le is. never E e (value t)
    (parsed most t (failed E e) small (subst (λ w. ParsesUnsigned 128 10 w (failed E e)) same p) le is)))

pub read_more : (E : Type 0) (most : ℕ) (t u : Text) (n : ℕ) → most < 2 ^ 128 → u ≡ t
    → ParsesUnsigned 128 10 u (done E n) → most < n → None ≡ number_of most t
read_more E most t u n small same p more = sym (number_none most t (λ le is.
    let e = ok_is E n (value t)
    (parsed most t (done E n) small (subst (λ w. ParsesUnsigned 128 10 w (done E n)) same p) le is) in
    absurd (omega arith)))

pub read_other : (E : Type 0) (most : ℕ) (t u : Text) (n : ℕ) → most < 2 ^ 128 → u ≡ t
    → ParsesUnsigned 128 10 u (done E n) → (decimal n ≡ t → ⊥) → None ≡ number_of most t
read_other E most t u n small same p other = sym (number_none most t (λ le is.
    let e = ok_is E n (value t)
    (parsed most t (done E n) small (subst (λ w. ParsesUnsigned 128 10 w (done E n)) same p) le is) in
    other (ap decimal e ∙ sym is)))

pub read_ok : (most : ℕ) (t : Text) (n : ℕ) → most < 2 ^ 128 → decimal n ≡ t → n ≤ most → Some n ≡ number_of most t
read_ok most t n small is le = sym (ap (number_of most) (sym is) ∙ number_again most n le (omega arith))

pub differs : (a b : Text) → true ≡ not (bytes_eq a b) → a ≡ b → ⊥
differs a b e same = true≢false (e ∙ ap not ((bytes_eq-Decides a b).1 same))

pub alike : (a b : Text) → false ≡ not (bytes_eq a b) → a ≡ b
alike a b e = go (bytes_eq a b) refl e
  where
    go : (x : Bool) → bytes_eq a b ≡ x → false ≡ not x → a ≡ b
    go true is e = (bytes_eq-Decides a b).0 is
    go false is e = absurd (true≢false (sym e))
