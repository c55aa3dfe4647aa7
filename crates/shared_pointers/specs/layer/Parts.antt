-- Parts of definitions that code and proofs speak of by a name of their own.
use Rattle.std.specs.Prelude.{ℕ, ◌*◌, ℤ, pos, ◌+ℤ◌, ◌-ℤ◌, ◌*ℤ◌}
use Rattle.block_layout.specs.declared.kind.Shape.{Shape}
use Rattle.block_layout.specs.declared.place.SharedPtr.{SharedPtr}
use Rattle.block_layout.specs.Floor.{floor_div, floor_mod}
use Rattle.block_layout.specs.Places.{thread_at, phase_at, offset_at}
use Rattle.block_layout.specs.Pointers.{element_in_row, row_offset}

-- The pointer that lies i elements after p, with a block of at least 1 (UPC 6.4.2).
abbrev pub moved_by_blocks : SharedPtr → ℤ → ℕ → ℕ → ℕ → SharedPtr
moved_by_blocks p i block size threads =
    let e = pos (element_in_row p block) +ℤ i in
    record {
      object = p.object;
      thread = thread_at e block threads;
      phase = phase_at e block;
      offset = offset_at e block size threads +ℤ row_offset p size;
    }

-- How many elements q would lie after p, with a block of at least 1: whole rows apart, and places in the row apart.
abbrev pub apart_by_blocks : SharedPtr → SharedPtr → ℕ → ℕ → ℕ → ℤ
apart_by_blocks q p block size threads =
    floor_div (row_offset q size -ℤ row_offset p size) (block * size) *ℤ pos block *ℤ pos threads
    +ℤ (pos (element_in_row q block) -ℤ pos (element_in_row p block))

-- The pointer to the member at this offset of the struct to which p points (UPC 6.4.4).
abbrev pub member_pointer : SharedPtr → ℕ → SharedPtr
member_pointer p offset = record p { phase = 0; offset = p.offset +ℤ pos offset }

-- The byte of its element to which a pointer points. The elements follow one another in a piece.
abbrev pub byte_of_element : SharedPtr → Shape → ℕ
byte_of_element p shape = floor_mod p.offset shape.size
