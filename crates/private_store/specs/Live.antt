-- What lives of a thread's private objects, and how blocks and calls come and go.
use Rattle.std.specs.Prelude.{ℕ, ◌+◌, ◌-◌, ◌==◌, nat_le, List, [], ◌∷◌, ◌++◌, length, map, take, drop, reverse}
use Rattle.std.specs.Prelude.{Option, Some, None, slice_get, slice_set, option_map}
use Rattle.std.specs.List.{find, sum_by}
use Rattle.block_layout.specs.declared.kind.Shape.{Shape}
use Rattle.upc_values.specs.declared.scalar.Value.{Value}
use Rattle.upc_values.specs.Shapes.{blank_value}
use Rattle.private_store.specs.declared.frame.Block.{Block}
use Rattle.private_store.specs.declared.frame.Call.{Call}

-- A live object: its number, its shape, and the value of each cell, in the order of the shape's cells.
pub record Thing : Type 0 where
  pub number : ℕ
  pub shape : Shape
  pub values : List Value

-- What lives: the objects, the open blocks and the active calls, each oldest first, and the number of the next object.
pub record Live : Type 0 where
  pub objects : List Thing
  pub blocks : List Block
  pub calls : List Call
  pub next : ℕ

-- The live object with a number.
abbrev pub thing : ℕ → List Thing → Option Thing
thing number things = find (λ x. x.number == number) things

-- The bytes of some objects.
abbrev pub thing_bytes : List Thing → ℕ
thing_bytes things = sum_by (λ x. x.shape.size) things

-- The bytes of objects of these shapes.
abbrev pub bytes_in : List Shape → ℕ
bytes_in shapes = sum_by (λ s. s.size) shapes

-- A new object: each cell holds 0 or null.
abbrev pub blank_thing : ℕ → Shape → Thing
blank_thing number shape =
    record { number = number; shape = shape; values = map (λ c. blank_value c.1) shape.cells }

-- New objects of these shapes, numbered from n.
abbrev pub blank_things : ℕ → List Shape → List Thing
blank_things n [] = []
blank_things n (s ∷ shapes) = blank_thing n s ∷ blank_things (n + 1) shapes

-- The last member, which is the youngest of what is kept oldest first.
abbrev pub youngest : {X : Type 0} → List X → Option X
youngest xs = slice_get xs (length xs - 1)

-- All members but the last, which is the youngest of what is kept oldest first.
abbrev pub older : {X : Type 0} → List X → List X
older xs = take (length xs - 1) xs

-- How many blocks were open when a call began; without a call there were none.
abbrev pub blocks_before : Option Call → ℕ
blocks_before None = 0
blocks_before (Some c) = c.blocks

-- The blocks that are open in the youngest call.
abbrev pub open_blocks : Live → List Block
open_blocks s = drop (blocks_before (youngest s.calls)) s.blocks

-- A block is entered, before which `from` objects of its function are in scope, and its objects are made anew
-- (C99 6.2.4, 6.8.2).
abbrev pub entered : ℕ → List Shape → Live → Live
entered from shapes s =
    record s {
      objects = s.objects ++ blank_things s.next shapes;
      blocks = s.blocks ++ record { from = from; first = s.next; objects = length s.objects } ∷ [];
      next = s.next + length shapes;
    }

-- What lives after the end of this block, which is the youngest: the block and the objects made since its entry are
-- gone; without a block, what lived before (C99 6.2.4).
abbrev pub left_from : Option Block → Live → Live
left_from None s = s
left_from (Some b) s = record s { objects = take b.objects s.objects; blocks = older s.blocks }

-- The youngest block of the youngest call ends, and with it its objects (C99 6.2.4).
abbrev pub left : Live → Live
left s = left_from (youngest (open_blocks s)) s

-- In how many bodies of controlling upc_foralls a call is; without a call it is none (UPC 6.6.2).
abbrev pub controls_in : Option Call → ℕ
controls_in None = 0
controls_in (Some c) = c.controls

-- In how many bodies of controlling upc_foralls the youngest call is, those of its callers counted (UPC 6.6.2).
abbrev pub controls : Live → ℕ
controls s = controls_in (youngest s.calls)

-- A call begins, in as many bodies of controlling upc_foralls as its caller (C99 6.5.2.2, UPC 6.6.2).
abbrev pub call_begun : Live → Live
call_begun s =
    record s {
      calls = s.calls ++ record { controls = controls s; blocks = length s.blocks; objects = length s.objects } ∷ [];
    }

-- What lives after the end of this call, which is the youngest: its blocks and their objects are gone; without a call,
-- what lived before (C99 6.2.4).
abbrev pub returned_from : Option Call → Live → Live
returned_from None s = s
returned_from (Some c) s =
    record s { objects = take c.objects s.objects; blocks = take c.blocks s.blocks; calls = older s.calls }

-- The youngest call ends, and with it its blocks and their objects (C99 6.2.4, 6.8.6.4).
abbrev pub returned : Live → Live
returned s = returned_from (youngest s.calls) s

-- What lives where this call, which is the youngest, is in so many bodies of controlling upc_foralls; without a call
-- nothing changes (UPC 6.6.2).
abbrev pub recounted_from : Option Call → ℕ → Live → Live
recounted_from None n s = s
recounted_from (Some c) n s = record s { calls = slice_set s.calls (length s.calls - 1) (record c { controls = n }) }

-- The youngest call is in so many bodies of controlling upc_foralls (UPC 6.6.2).
abbrev pub recounted : ℕ → Live → Live
recounted n s = recounted_from (youngest s.calls) n s

-- The number of the object for which the n-th local name in scope stands: the youngest block of the call that was
-- entered with at most n names in scope has it (C99 6.2.1).
abbrev pub local_number : ℕ → Live → Option ℕ
local_number n s = option_map (λ b. b.first + (n - b.from)) (find (λ b. nat_le b.from n) (reverse (open_blocks s)))
