-- What computations give are numbers that some integer kind has.
use Rattle.std.proofs.Common.{◌≡◌, ℕ, ◌<◌, ◌≤◌, ◌^◌, Bool, true, false}
use Rattle.std.proofs.Common.{not, refl, sym, arith, int_le, int_rem, if◌then◌else◌, unsigned_abs}
use Rattle.std.proofs.Math.IntN.{ℤ, pos, negsuc, neg_ℤ, ◌+ℤ◌, ◌-ℤ◌, ◌*ℤ◌}
use Rattle.std.specs.Prelude.{Result, Ok, Err, int_lt, int_div, bit_and, bit_or, bit_xor}
use Rattle.std.specs.Ordering.{int_eq}
use Rattle.std.proofs.lemmas.Int.{ints}
use Rattle.std.proofs.Math.Nat.{div-le_self}
use Rattle.std.proofs.lemmas.Bool.{and_parts, and_from}
use Rattle.block_layout.specs.declared.kind.Kind.{Kind}
use Rattle.block_layout.specs.declared.kind.Kind.TheVariants as kind
use Rattle.block_layout.specs.declared.run_error.TheConstants.{SIGNED_OVERFLOW, SHIFT_RANGE}
use Rattle.block_layout.specs.Floor.{floor_div}
use Rattle.integers.specs.Integers.{InKind, in_kind, least, values, is_signed, converted, brought}
use Rattle.integers.specs.Operators.{truth, bits_of, is_count, binary_of, unary_of}
use Rattle.integers.specs.declared.operator.BinOp.{BinOp}
use Rattle.integers.specs.declared.operator.BinOp.TheVariants as op
use Rattle.integers.specs.declared.operator.UnOp.{UnOp}
use Rattle.integers.specs.declared.operator.UnOp.TheVariants as un
use Rattle.integers.proofs.Conversions.{remainder-in_kind}
use Rattle.thread_steps.specs.layer.Ranges.{IsNumber}
use Rattle.thread_steps.proofs.Conversions.{converted_in}
use Rattle.stack_code_laws.proofs.Given.{is_number}

-- ---- numbers

pub number_is : (v : ℤ) → IsNumber v → is_number v ≡ true
number_is v h =
    let low : true ≡ int_le (neg_ℤ (pos (2 ^ 63))) v = omega (arith, ints, h.least) in
    let high : true ≡ int_lt v (pos (2 ^ 64)) = omega (arith, ints, h.most) in
    and_from (int_le (neg_ℤ (pos (2 ^ 63))) v) (int_lt v (pos (2 ^ 64))) (sym low) (sym high)

pub is_numbered : (v : ℤ) → is_number v ≡ true → IsNumber v
is_numbered v h =
    let p : (int_le (neg_ℤ (pos (2 ^ 63))) v ≡ true) × (int_lt v (pos (2 ^ 64)) ≡ true) = and_parts _ _ h in
    record { least = omega (arith, ints, p.0); most = omega (arith, ints, p.1) }

-- The size of a number fits 64 bits.
pub number_size : (v : ℤ) → is_number v ≡ true → unsigned_abs v < 2 ^ 64
number_size v h = let n = is_numbered v h in omega (arith, ints, n.least, n.most)

-- A number near 0 is one.
pub near_number : (v : ℤ) → unsigned_abs v ≤ 2 ^ 60 → is_number v ≡ true
near_number v h = number_is v (record { least = omega (arith, ints, h); most = omega (arith, ints, h) })

pub in_kind-is : (k : Kind) (v : ℤ) → in_kind k v ≡ true → InKind v k
in_kind-is k v h =
    let p : (int_le (least k) v ≡ true) × (int_lt v (least k +ℤ pos (values k)) ≡ true) = and_parts _ _ h in
    record { low = omega (arith, ints, p.0); high = omega (arith, ints, p.1) }

ranged : (k : Kind) (v : ℤ) → InKind v k → IsNumber v
ranged kind.Char v h = record { least = omega (arith, ints, h.low); most = omega (arith, ints, h.high) }
ranged kind.UChar v h = record { least = omega (arith, ints, h.low); most = omega (arith, ints, h.high) }
ranged kind.Short v h = record { least = omega (arith, ints, h.low); most = omega (arith, ints, h.high) }
ranged kind.UShort v h = record { least = omega (arith, ints, h.low); most = omega (arith, ints, h.high) }
ranged kind.Int v h = record { least = omega (arith, ints, h.low); most = omega (arith, ints, h.high) }
ranged kind.UInt v h = record { least = omega (arith, ints, h.low); most = omega (arith, ints, h.high) }
ranged kind.Long v h = record { least = omega (arith, ints, h.low); most = omega (arith, ints, h.high) }
ranged kind.ULong v h = record { least = omega (arith, ints, h.low); most = omega (arith, ints, h.high) }
ranged (kind.Shared n b) v h = record { least = omega (arith, ints, h.low); most = omega (arith, ints, h.high) }
ranged kind.Lock v h = record { least = omega (arith, ints, h.low); most = omega (arith, ints, h.high) }
ranged (kind.Private n) v h = record { least = omega (arith, ints, h.low); most = omega (arith, ints, h.high) }

-- A number of a kind is one.
pub kind_number : (k : Kind) (v : ℤ) → in_kind k v ≡ true → is_number v ≡ true
kind_number k v h = number_is v (ranged k v (in_kind-is k v h))

pub converted_number : (k : Kind) (v : ℤ) → is_number (converted k v) ≡ true
converted_number k v = kind_number k (converted k v) (converted_in k v)

pub truth_number : (b : Bool) → is_number (truth b) ≡ true
truth_number true = refl
truth_number false = refl

-- A number near 0 is a long.
pub near_long : (v : ℤ) → unsigned_abs v ≤ 2 ^ 60 → in_kind kind.Long v ≡ true
near_long v h =
    let low : true ≡ int_le (least kind.Long) v = omega (arith, ints, h) in
    let high : true ≡ int_lt v (least kind.Long +ℤ pos (values kind.Long)) = omega (arith, ints, h) in
    and_from (int_le (least kind.Long) v) (int_lt v (least kind.Long +ℤ pos (values kind.Long))) (sym low) (sym high)

-- ---- operators

-- What is computed is a number, if there is no run error.
abbrev pub NumberIn : Result ℤ ℕ → Type 0
NumberIn (Ok n) = is_number n ≡ true
NumberIn (Err code) = Unit {0}

either_number : (b : Bool) (r s : Result ℤ ℕ) → NumberIn r → NumberIn s → NumberIn (if b then r else s)
either_number true r s h g = h
either_number false r s h g = g

brought_number : (k : Kind) (v : ℤ) → NumberIn (brought k v)
brought_number k v =
    either_number (is_signed k) (if in_kind k v then Ok v else Err SIGNED_OVERFLOW) (Ok (converted k v))
    (tested (in_kind k v) refl) (converted_number k v)
  where
    tested : (b : Bool) → in_kind k v ≡ b → NumberIn (if b then Ok v else Err SIGNED_OVERFLOW)
    tested true e = kind_number k v e
    tested false e = tt

remainder_number : (k : Kind) (a b : ℤ) → in_kind k a ≡ true → is_number (int_rem a b) ≡ true
remainder_number k a b h = number_is (int_rem a b) (ranged k (int_rem a b) (remainder-in_kind a b k (in_kind-is k a h)))

shifted_number : (a : ℤ) (m : ℕ) → is_number a ≡ true → is_number (floor_div a m) ≡ true
shifted_number (pos n) m h =
    let k = is_numbered (pos n) h in
    let le = div-le_self n m in
    number_is (floor_div (pos n) m)
    (record { least = omega (arith, ints, k.least, k.most, le); most = omega (arith, ints, k.least, k.most, le) })
shifted_number (negsuc n) m h =
    let k = is_numbered (negsuc n) h in
    let le = div-le_self n m in
    number_is (floor_div (negsuc n) m)
    (record { least = omega (arith, ints, k.least, k.most, le); most = omega (arith, ints, k.least, k.most, le) })

-- A binary operator gives a number, where its left operand is one of its kind.
pub binary_number : (o : BinOp) (k : Kind) (a b : ℤ) → in_kind k a ≡ true → NumberIn (binary_of o k a b)
binary_number op.Multiply k a b h = brought_number k (a *ℤ b)
binary_number op.Divide k a b h = either_number (int_eq b (pos 0)) _ _ tt (brought_number k (int_div a b))
binary_number op.Remainder k a b h =
    either_number (int_eq b (pos 0)) _ _ tt
    (either_number (in_kind k (int_div a b)) _ _ (remainder_number k a b h) tt)
binary_number op.Add k a b h = brought_number k (a +ℤ b)
binary_number op.Subtract k a b h = brought_number k (a -ℤ b)
binary_number op.ShiftLeft k a b h =
    either_number (int_lt a (pos 0)) _ _ tt
    (either_number (is_count k b) (brought k (a *ℤ pos (2 ^ unsigned_abs b))) (Err SHIFT_RANGE)
    (brought_number k (a *ℤ pos (2 ^ unsigned_abs b))) tt)
binary_number op.ShiftRight k a b h =
    either_number (is_count k b) (Ok (floor_div a (2 ^ unsigned_abs b))) (Err SHIFT_RANGE)
    (shifted_number a (2 ^ unsigned_abs b) (kind_number k a h)) tt
binary_number op.Less k a b h = truth_number (int_lt a b)
binary_number op.Greater k a b h = truth_number (int_lt b a)
binary_number op.LessEqual k a b h = truth_number (int_le a b)
binary_number op.GreaterEqual k a b h = truth_number (int_le b a)
binary_number op.Equal k a b h = truth_number (int_eq a b)
binary_number op.NotEqual k a b h = truth_number (not (int_eq a b))
binary_number op.BitAnd k a b h = converted_number k (pos (bit_and (bits_of k a) (bits_of k b)))
binary_number op.BitXor k a b h = converted_number k (pos (bit_xor (bits_of k a) (bits_of k b)))
binary_number op.BitOr k a b h = converted_number k (pos (bit_or (bits_of k a) (bits_of k b)))

-- So does a unary one.
pub unary_number : (o : UnOp) (k : Kind) (a : ℤ) → in_kind k a ≡ true → NumberIn (unary_of o k a)
unary_number un.Plus k a h = kind_number k a h
unary_number un.Minus k a h = brought_number k (neg_ℤ a)
unary_number un.Complement k a h = brought_number k (neg_ℤ a -ℤ pos 1)
unary_number un.Not k a h = truth_number (int_eq a (pos 0))
