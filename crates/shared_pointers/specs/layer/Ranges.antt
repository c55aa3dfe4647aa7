-- The numbers that pointer arithmetic takes.
use Rattle.std.specs.Prelude.{ℕ, zero, suc, ◌≡◌, ◌<◌, ◌≤◌, ◌^◌, ℤ, pos, neg_ℤ, ◌≤ℤ◌}
use Rattle.block_layout.specs.declared.place.SharedPtr.{SharedPtr}
use Rattle.block_layout.specs.Places.{InRange}

-- A phase is below its block. With block 0, which is indefinite, it is 0.
abbrev pub IsPhase : ℕ → ℕ → Type 0
IsPhase phase zero = phase ≡ 0
IsPhase phase (suc b) = phase < suc b

-- A pointer of a type with this block, on so many threads, has its offset, its thread and its phase in range.
pub record IsPointer (p : SharedPtr) (block threads : ℕ) : Type 0 where
  pub offset : InRange p.offset
  pub thread : p.thread < threads
  pub phase : IsPhase p.phase block

-- The block and the size in bytes of the elements that a pointer's type names lie in their ranges.
pub record IsTarget (block size : ℕ) : Type 0 where
  pub block_most : block ≤ 16777216
  pub size_least : 0 < size
  pub size_most : size ≤ 16777216

-- There are from 1 to 32 threads.
pub record IsThreads (threads : ℕ) : Type 0 where
  pub least : 0 < threads
  pub most : threads ≤ 32

-- A number of elements to step over lies in its range, which goes from -2^90 to 2^90.
pub record IsStep (i : ℤ) : Type 0 where
  pub least : neg_ℤ (pos (2 ^ 90)) ≤ℤ i
  pub most : i ≤ℤ pos (2 ^ 90)
