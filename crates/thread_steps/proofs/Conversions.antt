-- What is converted into a kind lies in its range.
use Rattle.std.proofs.Common.{◌≡◌, ℕ, ◌<◌, true, ◌&&◌, sym, arith, int_le, int_lt}
use Rattle.std.proofs.Math.IntN.{ℤ, pos, ◌+ℤ◌, ◌-ℤ◌}
use Rattle.std.proofs.lemmas.Int.{ints}
use Rattle.std.proofs.lemmas.Bool.{and_from}
use Rattle.block_layout.specs.declared.kind.Kind.{Kind}
use Rattle.block_layout.specs.declared.kind.Kind.TheVariants as kind
use Rattle.block_layout.specs.Floor.{floor_mod}
use Rattle.block_layout.proofs.Numbers.{floor_mod-below}
use Rattle.integers.specs.Integers.{least, values, in_kind, converted}

in_span : (low : ℤ) (m n : ℕ) → m < n → (int_le low (low +ℤ pos m) && int_lt (low +ℤ pos m) (low +ℤ pos n)) ≡ true
in_span low m n lt =
    let a : true ≡ int_le low (low +ℤ pos m) = omega (arith, ints) in
    let b : true ≡ int_lt (low +ℤ pos m) (low +ℤ pos n) = omega (arith, ints) in
    and_from (int_le low (low +ℤ pos m)) (int_lt (low +ℤ pos m) (low +ℤ pos n)) (sym a) (sym b)

some_values : (k : Kind) → 0 < values k
some_values kind.Char = omega arith
some_values kind.UChar = omega arith
some_values kind.Short = omega arith
some_values kind.UShort = omega arith
some_values kind.Int = omega arith
some_values kind.UInt = omega arith
some_values kind.Long = omega arith
some_values kind.ULong = omega arith
some_values (kind.Shared n b) = omega arith
some_values kind.Lock = omega arith
some_values (kind.Private n) = omega arith

pub converted_in : (k : Kind) (w : ℤ) → in_kind k (converted k w) ≡ true
converted_in k w =
    in_span (least k) (floor_mod (w -ℤ least k) (values k)) (values k)
    (floor_mod-below (w -ℤ least k) (values k) (some_values k))
