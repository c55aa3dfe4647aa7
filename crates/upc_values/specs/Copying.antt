-- The memory calls upc_memcpy, upc_memget, upc_memput and upc_memset (UPC 7.2.5).
use Rattle.std.specs.Prelude.{ℕ, ◌-◌, ◌*◌, ◌/◌, ◌^◌, ◌==◌, ℤ, pos, ◌+ℤ◌, unsigned_abs, Bool, true, false, not, ◌||◌}
use Rattle.std.specs.Prelude.{cond, List, [], ◌∷◌, Option, Some, None}
use Rattle.std.specs.List.{list_any}
use Rattle.block_layout.specs.declared.place.SharedPtr.{SharedPtr}
use Rattle.block_layout.specs.declared.place.LocalPtr.{LocalPtr}
use Rattle.block_layout.specs.declared.place.LocalPtr.TheVariants.{Null, Private, Shared}
use Rattle.block_layout.specs.declared.kind.Kind.{Kind}
use Rattle.block_layout.specs.declared.kind.Shape.{Shape}
use Rattle.block_layout.specs.declared.run_error.TheConstants.{NULL_ACCESS, OUT_OF_OBJECT, PRIVATE_RANGE, CELL_TYPE}
use Rattle.block_layout.specs.Pointers.{is_null}
use Rattle.block_layout.specs.Shapes.{kind_size}
use Rattle.upc_values.specs.declared.scalar.Scalar.{Scalar}
use Rattle.upc_values.specs.declared.scalar.Scalar.TheVariants.{Int}
use Rattle.upc_values.specs.declared.action.Action.TheVariants as act
use Rattle.integers.specs.Integers.{converted}
use Rattle.upc_values.specs.Shapes.{is_integer}
use Rattle.upc_values.specs.Expansion.{Expansion, Reads, Loads, Stores, nothing, does, each_in_turn, refused_by}
use Rattle.block_layout.specs.Cells.{same_cells}
use Rattle.upc_values.specs.Views.{is_within, leaves_piece, cuts_cell, cells_within, shape_at}
use Rattle.upc_values.specs.Views.{location_behind}

-- Where a range of bytes begins: nowhere, in a shared object, or in a private one.
pub data Area : Type 0 where
  Nowhere : Area
  In_shared : (p : SharedPtr) → Area
  In_private : (object : ℕ) (offset : ℤ) → Area

-- The area is nowhere.
abbrev pub is_nowhere : Area → Bool
is_nowhere Nowhere = true
is_nowhere a = false

-- The value whose every byte is c as an unsigned char (UPC 7.2.5).
abbrev pub filled : ℕ → Kind → Scalar
filled c k = Int (converted k (pos (c * ((256 ^ kind_size k - 1) / 255))))

-- So many threads, the program's shapes, and the shape of the private object that the call names, if it has not ended.
module _ (threads : ℕ) (shapes : List Shape) (private : Option Shape) where
  -- The area is in a shared object, and the n bytes from its beginning on do not all lie in the piece of their thread.
  abbrev pub leaves_shared : ℕ → Area → Bool
  leaves_shared n (In_shared p) = leaves_piece threads n p
  leaves_shared n a = false

  -- The area is in a private object, which has ended, or in which the n bytes from its beginning on do not all lie.
  abbrev pub leaves_private : ℕ → Area → Bool
  leaves_private n (In_private object offset) =
      not (elim private [ Some s ↦ is_within offset n s.size | None ↦ false ])
  leaves_private n a = false

  -- The shape whose cells lie in an area: that of a shared object's elements, or that of a private object; there is
  -- none where there is no object.
  abbrev pub shape_in : Area → Option Shape
  shape_in Nowhere = None
  shape_in (In_shared p) = shape_at shapes p
  shape_in (In_private object offset) = private

  -- The byte of its private object, or of its thread's piece, at which an area begins.
  abbrev pub first_byte : Area → ℕ
  first_byte Nowhere = 0
  first_byte (In_shared p) = unsigned_abs p.offset
  first_byte (In_private object offset) = unsigned_abs offset

  -- A cell is cut at either end of n bytes from an area's beginning on.
  abbrev pub is_cut : ℕ → Area → Bool
  is_cut n a = cuts_cell (shape_in a) (first_byte a) n

  -- The cells in n bytes from an area's beginning on.
  abbrev pub cells : ℕ → Area → List (ℕ × Kind)
  cells n a = cells_within (shape_in a) (first_byte a) n

  -- The write of a cell that begins so many bytes after an area's beginning; in a shared object it is relaxed
  -- (UPC 7.2.5).
  abbrev pub written : Area → ℕ × Kind → Scalar → Expansion (Unit {0})
  written Nowhere c v = nothing
  written (In_shared p) c v = does (act.Write false (location_behind p c.0) v)
  written (In_private object offset) c v = Stores (Private object (offset +ℤ pos c.0)) c.1 v nothing

  -- The read of a cell of the source, and the write of its value to the destination's cell.
  abbrev pub copied : Area → Area → ℕ × Kind → Expansion (Unit {0})
  copied dst Nowhere c = nothing
  copied dst (In_shared p) c = Reads (location_behind p c.0) c.1 (λ v. written dst c v)
  copied dst (In_private object offset) c = Loads (Private object (offset +ℤ pos c.0)) c.1 (λ v. written dst c v)

  -- What upc_memcpy, upc_memget and upc_memput do: the whole ranges are tested, then each cell is copied, ascending;
  -- for no byte at all nothing is tested (UPC 7.2.5).
  abbrev pub copy : Area → Area → ℕ → Expansion (Unit {0})
  copy dst src n =
      cond (n == 0) nothing
      (refused_by
      ((is_nowhere dst || is_nowhere src, NULL_ACCESS)
      ∷ (leaves_shared n dst || leaves_shared n src, OUT_OF_OBJECT)
      ∷ (leaves_private n dst || leaves_private n src, PRIVATE_RANGE)
      ∷ (is_cut n dst || (is_cut n src || not (same_cells (cells n dst) (cells n src))), CELL_TYPE)
      ∷ [])
      (each_in_turn (copied dst src) (cells n dst)))

  -- What upc_memset does: the whole range is tested, then each cell gets the value whose every byte is c, ascending; a
  -- cell that holds a pointer is run error 18 (UPC 7.2.5).
  abbrev pub set : Area → ℕ → ℕ → Expansion (Unit {0})
  set dst c n =
      cond (n == 0) nothing
      (refused_by
      ((is_nowhere dst, NULL_ACCESS)
      ∷ (leaves_shared n dst, OUT_OF_OBJECT)
      ∷ (leaves_private n dst, PRIVATE_RANGE)
      ∷ (is_cut n dst || list_any (λ x. not (is_integer x.1)) (cells n dst), CELL_TYPE)
      ∷ [])
      (each_in_turn (λ x. written dst x (filled c x.1)) (cells n dst)))
