-- Conversions are congruent, and results are brought into range.
use Rattle.std.proofs.Common.{◌≡◌, ◌≢◌, ◌⊎◌, inl, inr, ℕ, zero, suc, lit<, FitsSigned, ◌+◌, ◌-◌, ◌*◌, ◌/◌, ◌%◌, ◌<◌, ◌≤◌, ◌^◌, Result, refl, sym, ap, ◌∙◌, subst, arith, unsigned_abs, IsTrue, IsErrOf, ◌↔◌, int_div, int_rem, ◌≤ℤ◌, bit_and, bit_or, bit_xor}
use Rattle.std.proofs.Math.IntN.{ℤ, pos, negsuc, neg_ℤ, ◌+ℤ◌, ◌-ℤ◌, ◌*ℤ◌}
use Rattle.std.proofs.lemmas.Int.{ints, fits_signed_mul, fits_signed_from_abs}
use Rattle.std.proofs.lemmas.Nat.{pow_pos, div-add-mod', mul-le, and_mod, or_mod, xor_mod}
use Rattle.std.proofs.Math.Nat.{mod-lt, div-le_self, div-mul-le_self}
use Rattle.std.specs.Int.{w64}
use Rattle.std.specs.Int.Signed.{shr_z, mag_shr, mag_rem}
use borrow.Author.Differences.{neg_is}
use Rattle.block_layout.specs.Floor.{floor_div, floor_mod}
use Rattle.block_layout.proofs.Numbers.{mul-sum, mul-twice, floor-sum, floor_mod-unique, floor_mod-below}
use Rattle.block_layout.specs.declared.kind.Kind.{Kind}
use Rattle.integers.specs.Integers.{width, values, least, AreCongruent, converted, brought, InKind, IsLost, is_signed}
use Rattle.block_layout.specs.declared.run_error.TheConstants.{SIGNED_OVERFLOW}
use Rattle.integers.specs.Operators.{bits_of}
use Rattle.block_layout.specs.declared.kind.Kind.TheVariants.{Char, UChar, Short, UShort, Int, UInt, Long, ULong, Shared, Lock, Private}

-- The negation of a number, times a natural number.
neg-times : (q : ℤ) (d : ℕ) → neg_ℤ q *ℤ pos d ≡ neg_ℤ (q *ℤ pos d)
neg-times q d = omega (arith, ints, ap (λ n. n * d) (neg_is q).0, ap (λ n. n * d) (neg_is q).1)

pub converted-congruent : (v : ℤ) (kind : Kind) → AreCongruent (converted kind v) v kind
converted-congruent v kind =
    let q : ℤ = floor_div (v -ℤ least kind) (values kind) in
    (neg_ℤ q, omega (arith, ints, floor-sum (v -ℤ least kind) (values kind) (pow_pos (width kind)), neg-times q (values kind)))

pub congruent-as : (r v : ℤ) (kind : Kind) → r ≡ converted kind v → AreCongruent r v kind
congruent-as r v kind e = subst (λ (x : ℤ). AreCongruent x v kind) (sym e) (converted-congruent v kind)

-- Numbers that differ by a multiple of the number of a kind's values are converted to one number.
pub congruent-same : (a b m : ℤ) (kind : Kind) → a ≡ b +ℤ m *ℤ pos (values kind) → converted kind a ≡ converted kind b
congruent-same a b m kind e =
    let from : ℤ = b -ℤ least kind in
    let q : ℤ = floor_div from (values kind) in
    let r : ℕ = floor_mod from (values kind) in
    let some : 0 < values kind = pow_pos (width kind) in
    let whole : (q +ℤ m) *ℤ pos (values kind) +ℤ pos r ≡ a -ℤ least kind =
    omega (arith, ints, mul-sum q m (values kind), floor-sum from (values kind) some, e) in
    ap (λ (n : ℕ). least kind +ℤ pos n) (floor_mod-unique (a -ℤ least kind) (q +ℤ m) r (values kind) (floor_mod-below from (values kind) some) whole)

-- How often a kind's values go into 64 bits.
abbrev turns : Kind → ℕ
turns kind = 2 ^ (64 - width kind)

turns-whole : (kind : Kind) → turns kind * values kind ≡ 2 ^ 64
turns-whole Char = refl
turns-whole UChar = refl
turns-whole Short = refl
turns-whole UShort = refl
turns-whole Int = refl
turns-whole UInt = refl
turns-whole Long = refl
turns-whole ULong = refl
turns-whole (Shared n b) = refl
turns-whole Lock = refl
turns-whole (Private n) = refl

-- A number by its lowest 64 bits.
by-low : (v : ℤ) (kind : Kind) → v ≡ pos (floor_mod v (2 ^ 64)) +ℤ (floor_div v (2 ^ 64) *ℤ pos (turns kind)) *ℤ pos (values kind)
by-low v kind =
    let q : ℤ = floor_div v (2 ^ 64) in
    let twice : q *ℤ pos (turns kind) *ℤ pos (values kind) ≡ q *ℤ pos (2 ^ 64) =
    mul-twice q (turns kind) (values kind) ∙ ap (λ (n : ℕ). q *ℤ pos n) (turns-whole kind) in
    omega (arith, ints, twice, floor-sum v (2 ^ 64) (pow_pos 64))

-- The lowest 64 bits of a number are converted as it is.
pub converted-low : (v : ℤ) (kind : Kind) → converted kind (pos (floor_mod v (2 ^ 64))) ≡ converted kind v
converted-low v kind =
    sym (congruent-same v (pos (floor_mod v (2 ^ 64))) (floor_div v (2 ^ 64) *ℤ pos (turns kind)) kind (by-low v kind))

-- So are its lowest bits, as many as the kind is wide.
converted-rest : (n : ℕ) (kind : Kind) → converted kind (pos (n % values kind)) ≡ converted kind (pos n)
converted-rest n kind =
    let e : n / values kind * values kind + n % values kind ≡ n = div-add-mod' n (values kind) in
    sym (congruent-same (pos n) (pos (n % values kind)) (pos (n / values kind)) kind (omega (arith, ints, e)))

-- The bits of a value among its lowest 64 bits.
low-rest : (v : ℤ) (kind : Kind) → floor_mod v (2 ^ 64) % values kind ≡ bits_of kind v
low-rest v kind =
    let r : ℕ = floor_mod v (2 ^ 64) in
    let n : ℕ = values kind in
    let turned : ℤ = floor_div v (2 ^ 64) *ℤ pos (turns kind) in
    let some : 0 < n = pow_pos (width kind) in
    let e : r / n * n + r % n ≡ r = div-add-mod' r n in
    sym (floor_mod-unique v (turned +ℤ pos (r / n)) (r % n) n (mod-lt r some)
    (omega (arith, ints, mul-sum turned (pos (r / n)) n, by-low v kind, e)))

-- An operation on the lowest 64 bits of two numbers that goes bit by bit.
low-operated : (f : ℕ → ℕ → ℕ) → ((a b k : ℕ) → f a b % 2 ^ k ≡ f (a % 2 ^ k) (b % 2 ^ k)) → (a b : ℤ) (kind : Kind) (x y : ℕ)
    → x ≡ floor_mod a (2 ^ 64) → y ≡ floor_mod b (2 ^ 64)
    → converted kind (pos (f x y)) ≡ converted kind (pos (f (bits_of kind a) (bits_of kind b)))
low-operated f by a b kind x y e g =
    let first : x % values kind ≡ bits_of kind a = ap (λ (n : ℕ). n % values kind) e ∙ low-rest a kind in
    let second : y % values kind ≡ bits_of kind b = ap (λ (n : ℕ). n % values kind) g ∙ low-rest b kind in
    let same : f x y % values kind ≡ f (bits_of kind a) (bits_of kind b) =
    by x y (width kind) ∙ ap (λ (n : ℕ). f n (y % values kind)) first ∙ ap (λ (n : ℕ). f (bits_of kind a) n) second in
    sym (converted-rest (f x y) kind) ∙ ap (λ (n : ℕ). converted kind (pos n)) same

pub low-and : (a b : ℤ) (kind : Kind) (x y : ℕ) → x ≡ floor_mod a (2 ^ 64) → y ≡ floor_mod b (2 ^ 64)
    → converted kind (pos (bit_and x y)) ≡ converted kind (pos (bit_and (bits_of kind a) (bits_of kind b)))
low-and = low-operated bit_and and_mod

pub low-xor : (a b : ℤ) (kind : Kind) (x y : ℕ) → x ≡ floor_mod a (2 ^ 64) → y ≡ floor_mod b (2 ^ 64)
    → converted kind (pos (bit_xor x y)) ≡ converted kind (pos (bit_xor (bits_of kind a) (bits_of kind b)))
low-xor = low-operated bit_xor xor_mod

pub low-or : (a b : ℤ) (kind : Kind) (x y : ℕ) → x ≡ floor_mod a (2 ^ 64) → y ≡ floor_mod b (2 ^ 64)
    → converted kind (pos (bit_or x y)) ≡ converted kind (pos (bit_or (bits_of kind a) (bits_of kind b)))
low-or = low-operated bit_or or_mod

-- A number of the kind's range stays as it is.
pub converted-same : (v : ℤ) (kind : Kind) → InKind v kind → v ≡ converted kind v
converted-same v kind h =
    let from : ℤ = v -ℤ least kind in
    let left : floor_mod from (values kind) ≡ unsigned_abs from =
    floor_mod-unique from (pos 0) (unsigned_abs from) (values kind) (omega (arith, ints, h.low, h.high)) (omega (arith, ints, h.low)) in
    omega (arith, ints, left, h.low)

-- A result that is brought into range, by another form of it.
pub brought-as : (kind : Kind) (r : Result ℤ ℕ) (v w : ℤ) → r ≡ brought kind v → v ≡ w → r ≡ brought kind w
brought-as kind r v w e same = e ∙ ap (brought kind) same

-- ---- what lies in a kind's range

zero-in_kind : (kind : Kind) → InKind (pos 0) kind
zero-in_kind Char = record { low = omega (arith, ints); high = omega (arith, ints) }
zero-in_kind UChar = record { low = omega (arith, ints); high = omega (arith, ints) }
zero-in_kind Short = record { low = omega (arith, ints); high = omega (arith, ints) }
zero-in_kind UShort = record { low = omega (arith, ints); high = omega (arith, ints) }
zero-in_kind Int = record { low = omega (arith, ints); high = omega (arith, ints) }
zero-in_kind UInt = record { low = omega (arith, ints); high = omega (arith, ints) }
zero-in_kind Long = record { low = omega (arith, ints); high = omega (arith, ints) }
zero-in_kind ULong = record { low = omega (arith, ints); high = omega (arith, ints) }
zero-in_kind (Shared n b) = record { low = omega (arith, ints); high = omega (arith, ints) }
zero-in_kind Lock = record { low = omega (arith, ints); high = omega (arith, ints) }
zero-in_kind (Private n) = record { low = omega (arith, ints); high = omega (arith, ints) }

-- What lies between 0 and a value of a kind does.
above-in_kind : (r a : ℤ) (kind : Kind) → InKind a kind → pos 0 ≤ℤ r → r ≤ℤ a → InKind r kind
above-in_kind r a kind h low high =
    let zero : InKind (pos 0) kind = zero-in_kind kind in
    record { low = omega (arith, ints, zero.low, low); high = omega (arith, ints, h.high, high) }

below-in_kind : (r a : ℤ) (kind : Kind) → InKind a kind → a ≤ℤ r → r ≤ℤ pos 0 → InKind r kind
below-in_kind r a kind h low high =
    let zero : InKind (pos 0) kind = zero-in_kind kind in
    record { low = omega (arith, ints, h.low, low); high = omega (arith, ints, zero.high, high) }

-- A remainder lies between 0 and its dividend.
pub remainder-in_kind : (a b : ℤ) (kind : Kind) → InKind a kind → InKind (int_rem a b) kind
remainder-in_kind (pos a) b kind h = above-in_kind (int_rem (pos a) b) (pos a) kind h (omega (arith, ints)) (omega (arith, ints))
remainder-in_kind (negsuc a) b kind h = below-in_kind (int_rem (negsuc a) b) (negsuc a) kind h (omega (arith, ints)) (omega (arith, ints))

-- Each value of a kind has at most 64 bits.
pub kind-near : (v : ℤ) (kind : Kind) → InKind v kind → unsigned_abs v ≤ 2 ^ 64
kind-near v Char h = omega (arith, ints, h.low, h.high)
kind-near v UChar h = omega (arith, ints, h.low, h.high)
kind-near v Short h = omega (arith, ints, h.low, h.high)
kind-near v UShort h = omega (arith, ints, h.low, h.high)
kind-near v Int h = omega (arith, ints, h.low, h.high)
kind-near v UInt h = omega (arith, ints, h.low, h.high)
kind-near v Long h = omega (arith, ints, h.low, h.high)
kind-near v ULong h = omega (arith, ints, h.low, h.high)
kind-near v (Shared n b) h = omega (arith, ints, h.low, h.high)
kind-near v Lock h = omega (arith, ints, h.low, h.high)
kind-near v (Private n) h = omega (arith, ints, h.low, h.high)

-- The complement of a signed value is one.
complement-in_kind : (a : ℤ) (kind : Kind) → InKind a kind → IsTrue (is_signed kind) → InKind (neg_ℤ a -ℤ pos 1) kind
complement-in_kind a Char h s = record { low = omega (arith, ints, h.high); high = omega (arith, ints, h.low) }
complement-in_kind a Short h s = record { low = omega (arith, ints, h.high); high = omega (arith, ints, h.low) }
complement-in_kind a Int h s = record { low = omega (arith, ints, h.high); high = omega (arith, ints, h.low) }
complement-in_kind a Long h s = record { low = omega (arith, ints, h.high); high = omega (arith, ints, h.low) }
complement-in_kind a UChar h s = absurd (cc)
complement-in_kind a UShort h s = absurd (cc)
complement-in_kind a UInt h s = absurd (cc)
complement-in_kind a ULong h s = absurd (cc)
complement-in_kind a (Shared n b) h s = absurd (cc)
complement-in_kind a Lock h s = absurd (cc)
complement-in_kind a (Private n) h s = absurd (cc)

pub complement-not_lost : (a : ℤ) (kind : Kind) → InKind a kind → ¬ (IsLost kind (neg_ℤ a -ℤ pos 1))
complement-not_lost a kind h lost = lost.1 (complement-in_kind a kind h lost.0)

-- Where a result is lost, by another form of it.
pub lost-as : (kind : Kind) (r : Result ℤ ℕ) (v w : ℤ) → (IsErrOf r SIGNED_OVERFLOW ↔ IsLost kind v) → v ≡ w → (IsErrOf r SIGNED_OVERFLOW ↔ IsLost kind w)
lost-as kind r v w h same = subst (λ (z : ℤ). IsErrOf r SIGNED_OVERFLOW ↔ IsLost kind z) same h

-- ---- numbers of 64 bits

-- A quotient is no farther from 0 than its dividend.
pub quotient-near : (a b : ℤ) → unsigned_abs (int_div a b) ≤ unsigned_abs a
quotient-near (pos a) (pos b) = div-le_self a b
quotient-near (pos a) (negsuc b) = let e = div-le_self a (suc b) in omega (arith, ints, e)
quotient-near (negsuc a) (pos b) = let e = div-le_self (suc a) b in omega (arith, ints, e)
quotient-near (negsuc a) (negsuc b) = div-le_self (suc a) (suc b)

-- It has 64 bits where the dividend has, but for the least dividend by -1.
pub quotient-fits : (a b : ℤ) → FitsSigned w64 a → b ≢ negsuc 0 → FitsSigned w64 (int_div a b)
quotient-fits (pos a) (pos b) h some = let e = div-le_self a b in record { sfits = omega (arith, ints, e, h.sfits) }
quotient-fits (pos a) (negsuc b) h some = let e = div-le_self a (suc b) in record { sfits = omega (arith, ints, e, h.sfits) }
quotient-fits (negsuc a) (pos b) h some = let e = div-le_self (suc a) b in record { sfits = omega (arith, ints, e, h.sfits) }
quotient-fits (negsuc a) (negsuc zero) h some = absurd (some refl)
quotient-fits (negsuc a) (negsuc (suc b)) h some =
    let q : ℕ = suc a / suc (suc b) in
    let less : q * 2 ≤ q * suc (suc b) = mul-le q 2 q (suc (suc b)) (omega arith) (omega arith) in
    let e : q * suc (suc b) ≤ suc a = div-mul-le_self (suc a) (suc (suc b)) in
    record { sfits = omega (arith, less, e, h.sfits) }

pub rest-fits : (a b : ℤ) → FitsSigned w64 a → FitsSigned w64 (int_rem a b)
rest-fits a b h = let e = mag_rem a b in record { sfits = omega (arith, e, h.sfits) }

pub shifted-fits : (a : ℤ) (m : ℕ) → FitsSigned w64 a → FitsSigned w64 (shr_z a m)
shifted-fits a m h = let e = mag_shr a m in record { sfits = omega (arith, e, h.sfits) }

-- A shift to the right divides, rounding down.
pub shifted-is : (a : ℤ) (m : ℕ) → shr_z a m ≡ floor_div a m
shifted-is (pos a) m = refl
shifted-is (negsuc a) m = refl

pub shifted-in_kind : (a : ℤ) (m : ℕ) (kind : Kind) → InKind a kind → InKind (floor_div a m) kind
shifted-in_kind (pos a) m kind h = let e = div-le_self a m in above-in_kind (pos (a / m)) (pos a) kind h (omega (arith, ints)) (omega (arith, ints, e))
shifted-in_kind (negsuc a) m kind h = let e = div-le_self a m in below-in_kind (negsuc (a / m)) (negsuc a) kind h (omega (arith, ints, e)) (omega (arith, ints))

-- A value of a signed kind, or of one of 32 bits, is a signed number of 64 bits.
pub int-near : (v : ℤ) (kind : Kind) → InKind v kind → (kind ≡ Int) ⊎ (kind ≡ UInt) → unsigned_abs v ≤ 2 ^ 32
int-near v kind h (inl e) = let k : InKind v Int = subst (λ (x : Kind). InKind v x) e h in omega (arith, ints, k.low, k.high)
int-near v kind h (inr e) = let k : InKind v UInt = subst (λ (x : Kind). InKind v x) e h in omega (arith, ints, k.low, k.high)

pub int-fits : (v : ℤ) (kind : Kind) → InKind v kind → (kind ≡ Int) ⊎ (kind ≡ UInt) → FitsSigned w64 v
int-fits v kind h short = fits_signed_from_abs w64 v (let e = int-near v kind h short in omega (arith, e))

pub long-fits : (v : ℤ) (kind : Kind) → InKind v kind → kind ≡ Long → FitsSigned w64 v
long-fits v kind h e = fits v (subst (λ (x : Kind). InKind v x) e h)
  where
    fits : (v : ℤ) → InKind v Long → FitsSigned w64 v
    fits (pos n) k = record { sfits = omega (arith, ints, k.high) }
    fits (negsuc n) k = record { sfits = omega (arith, ints, k.low) }

pub signed-fits : (v : ℤ) (kind : Kind) → InKind v kind → (kind ≡ Int) ⊎ (kind ≡ Long) → FitsSigned w64 v
signed-fits v kind h (inl e) = int-fits v kind h (inl e)
signed-fits v kind h (inr e) = long-fits v kind h e

-- The product of two ints has 64 bits.
pub int-product-fits : (a b : ℤ) → InKind a Int → InKind b Int → FitsSigned w64 (a *ℤ b)
int-product-fits a b h k =
    fits_signed_mul w64 a b (2 ^ 31) (2 ^ 31) (omega (arith, ints, h.low, h.high)) (omega (arith, ints, k.low, k.high)) (lit< tt)

-- The product of two numbers that are not negative, by its lowest 64 bits.
pub low-product : (a b : ℤ) (kind : Kind) → pos 0 ≤ℤ a → pos 0 ≤ℤ b
    → converted kind (pos (unsigned_abs a * unsigned_abs b % 2 ^ 64)) ≡ converted kind (a *ℤ b)
low-product (pos n) (pos m) kind h k = converted-low (pos (n * m)) kind
low-product (pos n) (negsuc m) kind h k = absurd (omega (arith, ints, k))
low-product (negsuc n) b kind h k = absurd (omega (arith, ints, h))
