-- Where the elements of a shared array with a block of at least 1 lie (UPC 6.5.1.1, 6.5.2.1). Blocks go to the threads
-- in turn, from thread 0 on.
use Rattle.std.specs.Prelude.{ℕ, ◌*◌, ◌/◌, ◌<◌, ◌^◌, ◌≡◌, ◌&&◌, Bool, int_le, ℤ, pos, neg_ℤ, ◌+ℤ◌, ◌*ℤ◌, ◌≤ℤ◌}
use Rattle.block_layout.specs.Floor.{floor_div, floor_mod}

-- The thread of an element: its block's number, modulo the number of threads (UPC 6.5.1.1).
abbrev pub thread_at : ℤ → ℕ → ℕ → ℕ
thread_at e block threads = floor_mod (floor_div e block) threads

-- The phase of an element: its place in its block (UPC 6.4.2).
abbrev pub phase_at : ℤ → ℕ → ℕ
phase_at e block = floor_mod e block

-- The byte offset of an element on its thread: the elements there before it, times their size (UPC 6.5.1.1).
abbrev pub offset_at : ℤ → ℕ → ℕ → ℕ → ℤ
offset_at e block size threads =
    (floor_div e (block * threads) *ℤ pos block +ℤ pos (phase_at e block)) *ℤ pos size

-- No thread has elements of two blocks, of n elements with this block.
abbrev pub OneBlockPerThread : ℕ → ℕ → ℕ → Type 0
OneBlockPerThread n block threads =
    (e f : ℕ) → e < n → f < n → thread_at (pos e) block threads ≡ thread_at (pos f) block threads
    → e / block ≡ f / block

-- A number lies in the range of elements and offsets, which goes from -2^40 to 2^40.
pub record InRange (z : ℤ) : Type 0 where
  pub least : neg_ℤ (pos (2 ^ 40)) ≤ℤ z
  pub most : z ≤ℤ pos (2 ^ 40)

-- Whether a number lies in the range of elements and offsets, which goes from -2^40 to 2^40.
abbrev pub in_range : ℤ → Bool
in_range z = int_le (neg_ℤ (pos (2 ^ 40))) z && int_le z (pos (2 ^ 40))
