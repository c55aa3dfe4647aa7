-- Parts of shared objects that library calls see as arrays of their own (UPC 7.2.5, 7.3).
use Rattle.std.specs.Prelude.{ℕ, zero, suc, ◌+◌, ◌-◌, ◌*◌, ◌%◌, nat_lt, ℤ, pos, ◌+ℤ◌, int_le}
use Rattle.std.specs.Prelude.{unsigned_abs, Bool, false, not, ◌&&◌, ◌||◌, List, Option, Some, None}
use Rattle.std.specs.Prelude.{option_map, slice_get}
use Rattle.std.specs.List.{list_any, filter_map, range_with_len}
use Rattle.block_layout.specs.declared.place.SharedPtr.{SharedPtr}
use Rattle.block_layout.specs.declared.place.Loc.{Loc}
use Rattle.block_layout.specs.declared.kind.Kind.{Kind}
use Rattle.block_layout.specs.declared.kind.Shape.{Shape}
use Rattle.block_layout.specs.Pieces.{piece_of}
use Rattle.block_layout.specs.Places.{in_range}
use Rattle.block_layout.specs.Pointers.{moved}
use Rattle.block_layout.specs.Shapes.{kind_size, same_kind}
use Rattle.upc_values.specs.Shapes.{kind_at}
use Rattle.upc_values.specs.Calls.{Way, Broadcast, Scatter, Gather, Gather_all, Exchange}

-- The pointer with phase 0 in place of its own.
abbrev pub from_phase_0 : SharedPtr → SharedPtr
from_phase_0 p = record p { phase = 0 }

-- The pointer as one with this block: its phase counts with a block of at least 1, and is 0 with an indefinite one
-- (UPC 6.4.2).
abbrev pub with_block : SharedPtr → ℕ → SharedPtr
with_block p zero = from_phase_0 p
with_block p (suc b) = p

-- The pointer to element i of an array with this block and element size, whose element 0 is at p: p stands for some
-- element of such an array, and this pointer for the i-th after it (UPC 6.4.2, 6.5.1.1).
abbrev pub element : SharedPtr → ℕ → ℕ → ℕ → ℕ → SharedPtr
element p block size threads i = moved p (pos i) block size threads

-- The location so many bytes after a pointer.
abbrev pub location_behind : SharedPtr → ℕ → Loc
location_behind p i = record { object = p.object.number; thread = p.thread; offset = unsigned_abs p.offset + i }

-- The n bytes from an offset on lie among the first `room` bytes.
abbrev pub is_within : ℤ → ℕ → ℕ → Bool
is_within offset n room = int_le (pos 0) offset && int_le (offset +ℤ pos n) (pos room)

-- Of n bytes from a pointer on, the first or the last has an offset out of range.
abbrev pub leaves_range : ℕ → SharedPtr → Bool
leaves_range n p = not (in_range p.offset && in_range (p.offset +ℤ pos (n - 1)))

-- The n bytes from a pointer on do not all lie in the piece of its thread (UPC 6.5.1.1).
abbrev pub leaves_piece : ℕ → ℕ → SharedPtr → Bool
leaves_piece threads n p = not (is_within p.offset n (piece_of p.object p.thread threads))

-- Where elements of this shape follow one another, whether a cell begins before this byte and ends after it.
abbrev pub cuts : Option Shape → ℕ → Bool
cuts (Some s) x = list_any (λ c. nat_lt c.0 (x % s.size) && nat_lt (x % s.size) (c.0 + kind_size c.1)) s.cells
cuts None x = false

-- A cell is cut at either end of n bytes from this byte on.
abbrev pub cuts_cell : Option Shape → ℕ → ℕ → Bool
cuts_cell s x n = cuts s x || cuts s (x + n)

-- The cells in n bytes from this byte on: of each how many bytes after the first it begins, and its kind.
abbrev pub cells_within : Option Shape → ℕ → ℕ → List (ℕ × Kind)
cells_within s x n = filter_map (λ i. option_map (λ k. (i, k)) (kind_at s (x + i))) (range_with_len 0 n)

-- The shape of the elements of a pointer's object, if the program has it.
abbrev pub shape_at : List Shape → SharedPtr → Option Shape
shape_at shapes p = slice_get shapes p.object.shape

-- A cell of this kind begins where the pointer leads.
abbrev pub is_cell : List Shape → Kind → SharedPtr → Bool
is_cell shapes k p =
    elim (kind_at (shape_at shapes p) (unsigned_abs p.offset)) [ Some j ↦ same_kind k j | None ↦ false ]

-- An array of char as which a call sees an object: its block and its bytes (UPC 7.3).
pub record View : Type 0 where
  pub block : ℕ
  pub bytes : ℕ

-- An array of char with this block and so many bytes.
abbrev pub view : ℕ → ℕ → View
view block bytes = record { block = block; bytes = bytes }

-- The destination of a copying call in which each thread has n bytes (UPC 7.3).
abbrev pub destination : Way → ℕ → ℕ → View
destination Broadcast threads n = view n (n * threads)
destination Scatter threads n = view n (n * threads)
destination Gather threads n = view 0 (n * threads)
destination Gather_all threads n = view (n * threads) (n * threads * threads)
destination Exchange threads n = view (n * threads) (n * threads * threads)

-- The source of a copying call in which each thread has n bytes (UPC 7.3).
abbrev pub source : Way → ℕ → ℕ → View
source Broadcast threads n = view 0 n
source Scatter threads n = view 0 (n * threads)
source Gather threads n = view n (n * threads)
source Gather_all threads n = view n (n * threads)
source Exchange threads n = view (n * threads) (n * threads * threads)

-- The pointer to byte x of an array of char with this block.
abbrev pub byte_at : SharedPtr → ℕ → ℕ → ℕ → SharedPtr
byte_at p block threads x = element (from_phase_0 p) block 1 threads x
