-- The cell that a pointer-to-shared names.
use Rattle.std.specs.Prelude.{ℕ, ◌&&◌, Bool, if◌then◌else◌, pos, ◌+ℤ◌, ◌≤ℤ◌, int_le, Result, Ok, Err}
use Rattle.block_layout.specs.declared.kind.Kind.{Kind}
use Rattle.block_layout.specs.declared.kind.Shape.{Shape}
use Rattle.block_layout.specs.declared.place.SharedPtr.{SharedPtr}
use Rattle.block_layout.specs.declared.place.Loc.{Loc}
use Rattle.block_layout.specs.declared.run_error.TheConstants.{NULL_ACCESS, OUT_OF_OBJECT, CELL_TYPE}
use Rattle.block_layout.specs.Floor.{floor_mod}
use Rattle.block_layout.specs.Pieces.{piece_of}
use Rattle.block_layout.specs.Pointers.{is_null, location}
use Rattle.block_layout.specs.Shapes.{kind_size, has_cell}

-- An access of `width` bytes at a pointer lies inside the piece of the pointer's thread.
pub record IsInPiece (p : SharedPtr) (width threads : ℕ) : Type 0 where
  pub least : pos 0 ≤ℤ p.offset
  pub most : (p.offset +ℤ pos width) ≤ℤ pos (piece_of p.object p.thread threads)

-- Whether an access of `width` bytes at a pointer lies inside the piece of the pointer's thread.
abbrev pub in_piece : SharedPtr → ℕ → ℕ → Bool
in_piece p width threads =
    int_le (pos 0) p.offset && int_le (p.offset +ℤ pos width) (pos (piece_of p.object p.thread threads))

-- The location that an access of this kind through p names, or the first of its run errors, which are tested in this
-- order. The elements follow one another in a piece (C99 6.5.3.2, UPC 6.5.1.1).
abbrev pub cell_at : SharedPtr → Shape → Kind → ℕ → Result Loc ℕ
cell_at p shape kind threads =
    if is_null p
    then Err NULL_ACCESS
    else
    if in_piece p (kind_size kind) threads
    then (if has_cell shape.cells (floor_mod p.offset shape.size) kind then Ok (location p) else Err CELL_TYPE)
    else Err OUT_OF_OBJECT
