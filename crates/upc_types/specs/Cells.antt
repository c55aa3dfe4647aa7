-- The cells of objects: the offset in bytes and the kind of each (C99 6.2.5, 6.5.2.1, 6.7.2.1; UPC 6.5.1).
use Rattle.std.specs.Prelude.{◌≡◌, ◌<◌, ◌↔◌, true, ℕ, ◌+◌, ◌*◌, nat_lt, ◌==◌, Bool, ◌&&◌, if◌then◌else◌}
use Rattle.std.specs.Prelude.{List, [], ◌∷◌, ◌++◌, length, Option, Some, None}
use Rattle.block_layout.specs.declared.kind.Kind.{Kind}
use Rattle.block_layout.specs.declared.kind.Kind.TheVariants as kinds
use Rattle.block_layout.specs.declared.kind.Shape.{Shape}
use Rattle.block_layout.specs.Cells.{moved, copies}
use Rattle.upc_types.specs.declared.layout.Layout.{Layout}
use Rattle.upc_types.specs.Types.{CType, Qualified, Base, Integer, Struct, Array, Pointer, LockObject, base_of}
use Rattle.upc_types.specs.Types.{Member, Completed, Structs}
use Rattle.upc_types.specs.Same.{same_base, same_block}
use Rattle.upc_types.specs.Layout.{aligned, base_layout, layout_in}

-- Whether pointers to two targets count as of one type: the targets are equal but for const, strict and relaxed of
-- their own.
abbrev pub alike : CType → CType → Bool
alike (Qualified a c s x) (Qualified b d t y) = same_block s t && same_base a b

-- The number of the type of a pointer to this target: the place of the first target that is alike, and where none is,
-- their count.
abbrev pub number_of : List CType → CType → ℕ
number_of [] t = 0
number_of (target ∷ targets) t = if alike target t then 0 else number_of targets t + 1

-- A number that was given to a target stands for one pointer type: another target has it exactly where it is alike.
abbrev pub IsItsOwn : List CType → CType → ℕ → Type 0
IsItsOwn targets t number = number < length targets → (other : CType)
    → (number_of targets other ≡ number) ↔ (alike t other ≡ true)

-- The targets with numbers after this one was given a number, where none that is alike had one.
abbrev pub noted : List CType → CType → List CType
noted targets t = if nat_lt (number_of targets t) (length targets) then targets else targets ++ (t ∷ [])

-- The kind of the cell of a pointer whose target has this base and this block, and whose type has this number.
abbrev pub kind_to : Base → Option ℕ → ℕ → Kind
kind_to LockObject block number = kinds.Lock
kind_to b (Some block) number = kinds.Shared number block
kind_to b None number = kinds.Private number

-- The kind of the cell of a pointer to this target: a lock pointer, or a pointer to a shared or a private object with
-- the number of its type (UPC 6.5.1.1, 7.2.4).
abbrev pub pointer_kind : List CType → CType → Kind
pointer_kind targets (Qualified b c s x) = kind_to b s (number_of targets (Qualified b c s x))

-- The type of an object's leaf elements: an array has those of its elements, and another object is its own leaf
-- element.
abbrev pub leaf_base : Base → Base
leaf_base (Array (Qualified e c s x) count) = leaf_base e
leaf_base b = b

-- How many leaf elements an object of this type has.
abbrev pub leaves : Base → ℕ
leaves (Array (Qualified e c s x) count) = count * leaves e
leaves b = 1

-- The cells of an object that is no array, where those of each struct are known: a scalar is one cell (C99 6.2.5).
abbrev pub leaf_cells : List CType → (ℕ → List (ℕ × Kind)) → Base → List (ℕ × Kind)
leaf_cells targets structs (Integer kind) = (0, kind) ∷ []
leaf_cells targets structs (Pointer target) = (0, pointer_kind targets target) ∷ []
leaf_cells targets structs (Struct number) = structs number
leaf_cells targets structs b = []

-- The cells of an object: those of its leaf elements, one after the other (C99 6.2.5).
abbrev pub object_cells : List CType → (ℕ → Layout) → (ℕ → List (ℕ × Kind)) → Base → List (ℕ × Kind)
object_cells targets layouts structs b = copies (leaves b) (base_layout layouts (leaf_base b)).size
    (leaf_cells targets structs (leaf_base b))

-- The cells of members that follow so many bytes, each member at the first place of its alignment after the one before
-- it (C99 6.7.2.1).
abbrev pub member_cells : List CType → (ℕ → Layout) → (ℕ → List (ℕ × Kind)) → ℕ → List Member → List (ℕ × Kind)
member_cells targets layouts structs end [] = []
member_cells targets layouts structs end (m ∷ ms) =
    let start = aligned end (base_layout layouts (base_of m.ctype)).align in
    moved start (object_cells targets layouts structs (base_of m.ctype))
    ++ member_cells targets layouts structs (start + (base_layout layouts (base_of m.ctype)).size) ms

-- The cells of the struct with this number, which are those of its members; an incomplete one has none (C99 6.7.2.1).
abbrev pub struct_cells : List CType → List Completed → ℕ → List (ℕ × Kind)
struct_cells targets [] number = []
struct_cells targets (c ∷ older) number =
    if c.number == number
    then member_cells targets (layout_in older) (struct_cells targets older) 0 c.members
    else struct_cells targets older number

-- The size and the cells of one leaf element of an object of this type.
abbrev pub leaf_shape : Structs → Base → Shape
leaf_shape structs b = record {
  size = (base_layout (layout_in structs.completed) (leaf_base b)).size;
  cells = leaf_cells structs.targets (struct_cells structs.targets structs.completed) (leaf_base b);
}

-- The size and the cells of a whole object of this type.
abbrev pub object_shape : Structs → Base → Shape
object_shape structs b = record {
  size = (base_layout (layout_in structs.completed) b).size;
  cells = object_cells structs.targets (layout_in structs.completed) (struct_cells structs.targets structs.completed) b;
}

-- The structs after this target of pointers was given a number, where none that is alike had one.
abbrev pub with_target : Structs → CType → Structs
with_target structs t = record {
  declared = structs.declared;
  completed = structs.completed;
  targets = noted structs.targets t;
}
