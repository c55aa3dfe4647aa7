-- The value of a collective call (UPC 7.3): what each destination cell holds after it, by the cells before it.
use Rattle.std.specs.Prelude.{ℕ, ◌≡◌, ◌<◌, ◌+◌, ◌*◌, ◌/◌, ◌%◌, ℤ, pos, List, map, take, Option, Some, None, Result, Ok}
use Rattle.std.specs.List.{range_with_len}
use Rattle.block_layout.specs.declared.place.SharedPtr.{SharedPtr}
use Rattle.block_layout.specs.declared.place.Loc.{Loc}
use Rattle.block_layout.specs.Shapes.{kind_size}
use Rattle.upc_values.specs.declared.scalar.Scalar.{Scalar}
use Rattle.upc_values.specs.declared.scalar.Scalar.TheVariants.{Int}
use Rattle.upc_values.specs.Calls.{Way, Broadcast, Scatter, Gather, Gather_all, Exchange, Call, Copies, Permutes}
use Rattle.upc_values.specs.Calls.{Reduces, Reduces_prefixes}
use Rattle.upc_values.specs.Reductions.{Reduction, reduction, element_kind, folded}
use Rattle.block_layout.specs.Pointers.{location}
use Rattle.upc_values.specs.Views.{destination, source, byte_at, from_phase_0, with_block, element}

-- What the locations of cells hold.
abbrev pub Holding : Type 0
Holding = Loc → Option Scalar

-- The byte of the source that goes to byte x of the destination: a broadcast repeats its n bytes, a scatter and a
-- gather keep their order, a gather_all repeats all blocks, and in an exchange byte r of part j of block t is byte r of
-- part t of block j (UPC 7.3).
abbrev pub source_byte : Way → ℕ → ℕ → ℕ → ℕ
source_byte Broadcast threads n x = x % n
source_byte Scatter threads n x = x
source_byte Gather threads n x = x
source_byte Gather_all threads n x = x % (n * threads)
source_byte Exchange threads n x =
    let t = x / (n * threads) in
    let y = x % (n * threads) in
    y / n * (n * threads) + t * n + y % n

-- Each byte of the destination holds what its byte of the source held; where no cell begins, it is nothing.
abbrev pub AreCopied : ℕ → Way → SharedPtr → SharedPtr → ℕ → Holding → Holding → Type 0
AreCopied threads w dst src n before after =
    let into = destination w threads n in
    let from = source w threads n in
    (x : ℕ) → x < into.bytes
    → after (location (byte_at dst into.block threads x))
    ≡ before (location (byte_at src from.block threads (source_byte w threads n x)))

-- After upc_all_permute the block of the thread whose number element i of the permutation holds is block i of the
-- source (UPC 7.3).
abbrev pub ArePermuted : ℕ → SharedPtr → SharedPtr → SharedPtr → ℕ → Holding → Holding → Type 0
ArePermuted threads dst src perm n before after =
    (i t r : ℕ) → i < threads → t < threads → r < n
    → before (location (element (from_phase_0 perm) 1 4 threads i)) ≡ Some (Int (pos t))
    → after (location (byte_at dst n threads (t * n + r))) ≡ before (location (byte_at src n threads (i * n + r)))

-- The location of element i of a reduction's operand.
abbrev pub operand_at : ℕ → SharedPtr → ℕ → ℕ → ℕ → Loc
operand_at threads p blk k i = location (element (with_block p blk) blk (kind_size (element_kind k)) threads i)

-- The number that a location holds; 0 where it holds none.
abbrev pub number_in : Option Scalar → ℤ
number_in (Some (Int v)) = v
number_in v = pos 0

-- The numbers of a reduction's operand, in order.
abbrev pub numbers : ℕ → SharedPtr → ℕ → ℕ → ℕ → Holding → List ℤ
numbers threads src blk k n before = map (λ i. number_in (before (operand_at threads src blk k i))) (range_with_len 0 n)

-- What the operator of a reduction gives on some numbers, if there is an operator.
abbrev pub folded_by : Option Reduction → ℕ → List ℤ → Option (Result ℤ ℕ)
folded_by (Some op) k vs = Some (folded op (element_kind k) vs)
folded_by None k vs = None

-- The location holds what the operator with this number gives on the numbers, from left to right.
pub record HoldsFold (op : ℤ) (k : ℕ) (vs : List ℤ) (now : Option Scalar) : Type 0 where
  pub value : ℤ
  pub is : folded_by (reduction op) k vs ≡ Some (Ok value)
  pub held : now ≡ Some (Int value)

-- What a collective call from 5 to 12 leaves in its destination, by what the cells held before it (UPC 7.3).
abbrev pub HoldsCollective : ℕ → Call → Holding → Holding → Type 0
HoldsCollective threads (Copies w dst src n f) before after = AreCopied threads w dst src n before after
HoldsCollective threads (Permutes dst src perm n f) before after = ArePermuted threads dst src perm n before after
-- reduce: the value of all elements
HoldsCollective threads (Reduces dst src op n blk k f) before after =
    HoldsFold op k (numbers threads src blk k n before) (after (location dst))
-- prefix_reduce: element i is the value of the elements up to it
HoldsCollective threads (Reduces_prefixes dst src op n blk k f) before after =
    (i : ℕ) → i < n
    → HoldsFold op k (take (i + 1) (numbers threads src blk k n before)) (after (operand_at threads dst blk k i))
HoldsCollective threads call before after = Unit {0}
