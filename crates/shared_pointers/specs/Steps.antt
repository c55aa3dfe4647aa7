-- Pointer-to-shared arithmetic (UPC 6.4.2), by the elements that pointers stand for.
use Rattle.std.specs.Prelude.{ℕ, zero, suc, ◌*◌, ◌≡◌, ◌&&◌, not, if◌then◌else◌, ℤ, pos, ◌+ℤ◌, ◌-ℤ◌, ◌*ℤ◌}
use Rattle.std.specs.Prelude.{Result, Ok, Err}
use Rattle.block_layout.specs.declared.place.SharedPtr.{SharedPtr}
use Rattle.std.specs.declared.cmp.Ordering.{Ordering}
use Rattle.std.specs.Ordering.{int_cmp}
use Rattle.block_layout.specs.Floor.{floor_div}
use Rattle.block_layout.specs.declared.run_error.TheConstants.{NULL_ACCESS, POINTER_RANGE, POINTER_PAIR}
use Rattle.block_layout.specs.Places.{in_range}
use Rattle.block_layout.specs.Pointers.{StandsFor, is_null, same_pointer, element_in_row, row_offset, moved}

-- The pointer q lies x elements after p: it is in p's object, with an indefinite block on p's thread, and stands for
-- the element of p plus x, with p's shift (UPC 6.4.2).
pub record LiesBehind (p q : SharedPtr) (x : ℤ) (block size threads : ℕ) : Type 0 where
  pub object : q.object ≡ p.object
  pub thread : block ≡ 0 → q.thread ≡ p.thread
  pub element : (e d : ℤ) → StandsFor p e d block size threads → StandsFor q (e +ℤ x) d block size threads

-- What `p + i` gives: the pointer moved, where its offset is in range (UPC 6.4.2).
abbrev pub advanced : SharedPtr → ℤ → ℕ → ℕ → ℕ → Result SharedPtr ℕ
advanced p i block size threads =
    let q = moved p i block size threads in
    if is_null p then Err NULL_ACCESS else if in_range q.offset then Ok q else Err POINTER_RANGE

-- How many elements q would lie after p: with a block of at least 1, whole rows apart, and places in the row apart.
abbrev pub apart : SharedPtr → SharedPtr → ℕ → ℕ → ℕ → ℤ
apart q p zero size threads = floor_div (q.offset -ℤ p.offset) size
apart q p (suc b) size threads =
    floor_div (row_offset q size -ℤ row_offset p size) (suc b * size) *ℤ pos (suc b) *ℤ pos threads
    +ℤ (pos (element_in_row q (suc b)) -ℤ pos (element_in_row p (suc b)))

-- What `q - p` gives: the number x for which `p + x` is q, where there is one (UPC 6.4.2).
abbrev pub difference : SharedPtr → SharedPtr → ℕ → ℕ → ℕ → Result ℤ ℕ
difference q p block size threads =
    let x = apart q p block size threads in
    if not (is_null p) && not (is_null q) && same_pointer q (moved p x block size threads)
    then Ok x
    else Err POINTER_PAIR

-- What a comparison of pointers gives: their difference compared with 0 (UPC 6.4.2).
abbrev pub order_of : Result ℤ ℕ → Result Ordering ℕ
order_of (Ok x) = Ok (int_cmp x (pos 0))
order_of (Err code) = Err code
