-- What the cells of private objects hold, and which accesses are refused.
use Rattle.std.specs.Prelude.{ℕ, ◌+◌, ◌==◌, ◌&&◌, if◌then◌else◌, nat_le, ℤ, pos, negsuc, unsigned_abs, Bool, false}
use Rattle.std.specs.Prelude.{List, map, Option, Some, None, Result, Ok, Err, slice_index_or, slice_set}
use Rattle.std.specs.List.{position}
use Rattle.block_layout.specs.declared.kind.Kind.{Kind}
use Rattle.block_layout.specs.declared.place.LocalPtr.{LocalPtr}
use Rattle.block_layout.specs.declared.place.LocalPtr.TheVariants as local
use Rattle.block_layout.specs.declared.run_error.TheConstants.{NULL_ACCESS, PRIVATE_RANGE, CELL_TYPE}
use Rattle.block_layout.specs.Shapes.{kind_size, same_kind}
use Rattle.upc_values.specs.declared.scalar.Value.{Value}
use Rattle.upc_values.specs.Shapes.{blank_value}
use Rattle.private_store.specs.Live.{Live, Thing, thing}

-- Whether so many bytes from this offset on lie in an object of this size.
abbrev pub lies_within : ℤ → ℕ → ℕ → Bool
lies_within (pos offset) width size = nat_le (offset + width) size
lies_within (negsuc n) width size = false

-- The place, among the cells of a shape, of the cell of this kind that begins at this byte.
abbrev pub cell_place : List (ℕ × Kind) → ℕ → Kind → Option ℕ
cell_place cells byte kind = position (λ c. c.0 == byte && same_kind c.1 kind) cells

-- A cell: its object, and its place among the object's cells.
pub record Cell : Type 0 where
  pub object : Thing
  pub place : ℕ

-- The cell at this place of an object; where there is no such place, run error 18 (C99 6.5).
abbrev pub cell_there : Thing → Option ℕ → Result Cell ℕ
cell_there x (Some c) = Ok record { object = x; place = c }
cell_there x None = Err CELL_TYPE

-- The cell of an object that an access of this kind at this offset reaches. All bytes of the kind must lie in the
-- object.
abbrev pub cell_in : Option Thing → ℤ → Kind → Result Cell ℕ
cell_in None offset kind = Err PRIVATE_RANGE
cell_in (Some x) offset kind =
    if lies_within offset (kind_size kind) x.shape.size
    then cell_there x (cell_place x.shape.cells (unsigned_abs offset) kind)
    else Err PRIVATE_RANGE

-- The cell that an access of this kind through a pointer reaches, or the code of the run error. A pointer into shared
-- space reaches no private cell.
abbrev pub reached : LocalPtr → Kind → List Thing → Result Cell ℕ
reached local.Null kind things = Err NULL_ACCESS
reached (local.Private number offset) kind things = cell_in (thing number things) offset kind
reached (local.Shared o t offset) kind things = Err PRIVATE_RANGE

-- The value of a cell that an access of this kind reaches, or the code of its run error.
abbrev pub cell_value : Kind → Result Cell ℕ → Result Value ℕ
cell_value kind (Ok c) = Ok (slice_index_or c.object.values c.place (blank_value kind))
cell_value kind (Err code) = Err code

-- What a read of this kind through a pointer gives: the value of the cell, or the code of the run error (C99 6.5).
abbrev pub loaded : LocalPtr → Kind → Live → Result Value ℕ
loaded p kind s = cell_value kind (reached p kind s.objects)

-- The object with another value in one of its cells.
abbrev pub changed : Cell → Value → Thing
changed c v = record c.object { values = slice_set c.object.values c.place v }

-- A cell has another value, and all others keep theirs.
abbrev pub cell_set : Cell → Value → Live → Live
cell_set c v s =
    record s { objects = map (λ x. if x.number == c.object.number then changed c v else x) s.objects }

-- What lives after a write to a cell that an access reaches, or the code of its run error.
abbrev pub put_in : Result Cell ℕ → Value → Live → Result Live ℕ
put_in (Ok c) v s = Ok (cell_set c v s)
put_in (Err code) v s = Err code

-- What lives after a write through a pointer, or the code of the run error (C99 6.5.16).
abbrev pub stored : LocalPtr → Kind → Value → Live → Result Live ℕ
stored p kind v s = put_in (reached p kind s.objects) v s

-- A pointer that does not lead into shared space.
abbrev pub IsPrivate : LocalPtr → Type 0
IsPrivate (local.Shared o t offset) = ⊥
IsPrivate p = Unit {0}
