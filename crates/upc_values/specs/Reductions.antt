-- The operators of reductions (UPC 7.3): their numbers, and the values that they build from left to right.
use Rattle.std.specs.Prelude.{ℕ, ℤ, pos, int_lt, unsigned_abs, not, ◌&&◌, ◌||◌, cond, List, [], ◌∷◌, Option, None}
use Rattle.std.specs.Prelude.{Result, Ok, Err, slice_index_or}
use Rattle.std.specs.Int.{int_min, int_max}
use Rattle.std.specs.Ordering.{int_eq}
use Rattle.block_layout.specs.declared.kind.Kind.{Kind}
use Rattle.block_layout.specs.declared.kind.Kind.TheVariants.{Char, UChar, Short, UShort, Int, UInt, Long, ULong}
use Rattle.integers.specs.declared.operator.BinOp.TheVariants.{Add, Multiply, BitAnd, BitOr, BitXor}
use Rattle.block_layout.specs.Lists.{under}
use Rattle.integers.specs.Integers.{converted, promoted}
use Rattle.integers.specs.Operators.{truth, binary_of}

-- The kind of a reduction's elements, by number: those of the calls that end in C UC S US I UI L UL (UPC 7.3.2.1).
abbrev pub element_kind : ℕ → Kind
element_kind k =
    slice_index_or (Char ∷ UChar ∷ Short ∷ UShort ∷ Int ∷ UInt ∷ Long ∷ ULong ∷ []) k Int

-- The operators of reductions (UPC 7.3).
pub data Reduction : Type 0 where
  Sum : Reduction
  Product : Reduction
  Bits_and : Reduction
  Bits_or : Reduction
  Bits_xor : Reduction
  Both : Reduction
  Either : Reduction
  Least : Reduction
  Greatest : Reduction

-- The operator with this number, as UPC_ADD, UPC_MULT, UPC_AND, UPC_OR, UPC_XOR, UPC_LOGAND, UPC_LOGOR, UPC_MIN and
-- UPC_MAX have them, if there is one (UPC 7.3).
abbrev pub reduction : ℤ → Option Reduction
reduction n =
    cond (int_lt n (pos 0)) None
    (under (unsigned_abs n)
    ((1, Sum) ∷ (2, Product) ∷ (4, Bits_and) ∷ (8, Bits_or) ∷ (16, Bits_xor) ∷ (32, Both) ∷ (64, Either)
    ∷ (128, Least) ∷ (256, Greatest) ∷ []))

-- What a reduction's operator gives on two numbers of a promoted kind (C99 6.5).
abbrev pub reduced : Reduction → Kind → ℤ → ℤ → Result ℤ ℕ
reduced Sum k a b = binary_of Add k a b
reduced Product k a b = binary_of Multiply k a b
reduced Bits_and k a b = binary_of BitAnd k a b
reduced Bits_or k a b = binary_of BitOr k a b
reduced Bits_xor k a b = binary_of BitXor k a b
reduced Both k a b = Ok (truth (not (int_eq a (pos 0)) && not (int_eq b (pos 0))))
reduced Either k a b = Ok (truth (not (int_eq a (pos 0)) || not (int_eq b (pos 0))))
reduced Least k a b = Ok (int_min a b)
reduced Greatest k a b = Ok (int_max a b)

-- One step of a reduction: the operator after promotion, then the conversion to the elements' kind
-- (C99 6.3.1.3).
abbrev pub step : Reduction → Kind → ℤ → ℤ → Result ℤ ℕ
step op k a b = elim (reduced op (promoted k) a b) [ Ok v ↦ Ok (converted k v) | Err c ↦ Err c ]

-- One step from the result so far, which stays where it is a run error.
abbrev pub step_from : Reduction → Kind → Result ℤ ℕ → ℤ → Result ℤ ℕ
step_from op k (Ok a) b = step op k a b
step_from op k (Err c) b = Err c

-- The steps of a reduction over these elements, from left to right, from the result so far.
abbrev pub folded_from : Reduction → Kind → Result ℤ ℕ → List ℤ → Result ℤ ℕ
folded_from op k a [] = a
folded_from op k a (v ∷ vs) = folded_from op k (step_from op k a v) vs

-- The steps of a reduction over all elements, from left to right, of which the first is the value to begin with
-- (UPC 7.3).
abbrev pub folded : Reduction → Kind → List ℤ → Result ℤ ℕ
folded op k [] = Ok (pos 0)
folded op k (v ∷ vs) = folded_from op k (Ok v) vs
