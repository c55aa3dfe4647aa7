-- What lies in an integer kind is a number that a thread can have.
use Rattle.std.proofs.Common.{ℕ, zero, suc, ◌*◌, ◌≤◌, ◌<◌, ◌^◌, unsigned_abs, List, [], ◌∷◌, length, map, arith}
use Rattle.std.specs.Prelude.{All, slice_index_or}
use Rattle.std.proofs.Math.IntN.{ℤ, pos, neg_ℤ, ◌*ℤ◌}
use Rattle.std.proofs.lemmas.Int.{ints, unsigned_abs-mul}
use Rattle.std.proofs.lemmas.Nat.{mul-le}
use Rattle.block_layout.specs.declared.kind.Kind.{Kind}
use Rattle.block_layout.specs.declared.kind.Kind.TheVariants.{Char, UChar, Short, UShort, Int, UInt, Long, ULong}
use Rattle.block_layout.specs.declared.kind.Kind.TheVariants.{Shared, Lock, Private}
use Rattle.integers.specs.Integers.{InKind}
use Rattle.block_layout.specs.declared.kind.Shape.{Shape}
use Rattle.upc_values.specs.declared.scalar.Scalar.TheVariants as scalar
use Rattle.upc_values.specs.declared.scalar.Value.{Value}
use Rattle.upc_values.specs.declared.scalar.Value.TheVariants as value
use Rattle.upc_values.specs.Lists.{Each}
use Rattle.shared_pointers.specs.layer.Ranges.{IsStep}
use Rattle.thread_steps.specs.layer.Ranges.{IsHeld, IsNumber}
use Rattle.thread_steps.specs.Values.{number_of}

pub in_kind-number : (v : ℤ) (kind : Kind) → InKind v kind → IsNumber v
in_kind-number v Char h = record { least = omega (arith, ints, h.low); most = omega (arith, ints, h.high) }
in_kind-number v UChar h = record { least = omega (arith, ints, h.low); most = omega (arith, ints, h.high) }
in_kind-number v Short h = record { least = omega (arith, ints, h.low); most = omega (arith, ints, h.high) }
in_kind-number v UShort h = record { least = omega (arith, ints, h.low); most = omega (arith, ints, h.high) }
in_kind-number v Int h = record { least = omega (arith, ints, h.low); most = omega (arith, ints, h.high) }
in_kind-number v UInt h = record { least = omega (arith, ints, h.low); most = omega (arith, ints, h.high) }
in_kind-number v Long h = record { least = omega (arith, ints, h.low); most = omega (arith, ints, h.high) }
in_kind-number v ULong h = record { least = omega (arith, ints, h.low); most = omega (arith, ints, h.high) }
in_kind-number v (Shared n b) h = record { least = omega (arith, ints, h.low); most = omega (arith, ints, h.high) }
in_kind-number v Lock h = record { least = omega (arith, ints, h.low); most = omega (arith, ints, h.high) }
in_kind-number v (Private n) h = record { least = omega (arith, ints, h.low); most = omega (arith, ints, h.high) }

zero-number : IsNumber (pos 0)
zero-number = record { least = omega (arith, ints); most = omega (arith, ints) }

pub number-near : (v : ℤ) → IsNumber v → unsigned_abs v ≤ 2 ^ 66
number-near v h = omega (arith, ints, h.least, h.most)

-- Each of the integers that these values are is near 0.
pub numbers-near : (vs : List Value) → All (λ v. IsNumber (number_of v)) vs → (k : ℕ) (d : ℤ)
    → k < length (map number_of vs) → unsigned_abs (slice_index_or (map number_of vs) k d) ≤ 2 ^ 66
numbers-near [] all k d h = absurd (omega arith)
numbers-near (v ∷ vs) all zero d h = number-near (number_of v) (all zero v (omega arith))
numbers-near (v ∷ vs) all (suc k) d h = numbers-near vs (λ j e g. all (suc j) e (omega arith)) k d (omega arith)

-- The integer that a value in range is.
pub held-number : (threads : ℕ) (shapes : List Shape) (v : Value) → IsHeld threads shapes v → IsNumber (number_of v)
held-number threads shapes (value.Scalar (scalar.Int v)) h = h
held-number threads shapes (value.Scalar (scalar.Shared p)) h = zero-number
held-number threads shapes (value.Scalar (scalar.Lock l)) h = zero-number
held-number threads shapes (value.Local p) h = zero-number

-- The integers that several values in range are.
pub held-numbers : (threads : ℕ) (shapes : List Shape) (vs : List Value) → Each (IsHeld threads shapes) vs
    → All (λ v. IsNumber (number_of v)) vs
held-numbers threads shapes [] h k d l = absurd (omega arith)
held-numbers threads shapes (v ∷ vs) h zero d l = held-number threads shapes v h.0
held-numbers threads shapes (v ∷ vs) h (suc k) d l = held-numbers threads shapes vs h.1 k d (omega arith)

-- So many times a number, forward or back, is a step of a pointer.
pub number-step : (v : ℤ) (count : ℕ) → IsNumber v → count ≤ 16777216 → IsStep (v *ℤ pos count)
number-step v count h k =
    let near : unsigned_abs v ≤ 2 ^ 64 = omega (arith, ints, h.least, h.most) in
    let most : unsigned_abs v * count ≤ 2 ^ 64 * 16777216 = mul-le _ _ _ _ near k in
    let size : unsigned_abs (v *ℤ pos count) ≤ 2 ^ 88 = rw (unsigned_abs-mul v (pos count)) most in
    record { least = omega (arith, ints, size); most = omega (arith, ints, size) }

pub back-step : (v : ℤ) (count : ℕ) → IsNumber v → count ≤ 16777216 → IsStep (neg_ℤ v *ℤ pos count)
back-step v count h k =
    let near : unsigned_abs (neg_ℤ v) ≤ 2 ^ 64 = omega (arith, ints, h.least, h.most) in
    let most : unsigned_abs (neg_ℤ v) * count ≤ 2 ^ 64 * 16777216 = mul-le _ _ _ _ near k in
    let size : unsigned_abs (neg_ℤ v *ℤ pos count) ≤ 2 ^ 88 = rw (unsigned_abs-mul (neg_ℤ v) (pos count)) most in
    record { least = omega (arith, ints, size); most = omega (arith, ints, size) }
