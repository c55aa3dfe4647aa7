-- What the types of a program say to its meaning: kinds of cells, elements of pointers, shapes of objects, conversions.
use Rattle.std.specs.Prelude.{ℕ, min, Bool, true, false, if◌then◌else◌, List, [], ◌∷◌, Option, Some, None, is_some}
use Rattle.block_layout.specs.declared.kind.Kind.{Kind}
use Rattle.block_layout.specs.declared.kind.Kind.TheVariants as kind
use Rattle.block_layout.specs.declared.kind.Shape.{Shape}
use Rattle.upc_types.specs.declared.ctype.Access.TheVariants.{Unsaid, Strict, Relaxed}
use Rattle.upc_types.specs.declared.layout.Layout.{Layout}
use Rattle.upc_types.specs.Types.{CType, Base, Integer, Struct, Pointer, base_of, block_of, access_of, Structs}
use Rattle.upc_types.specs.Same.{same_block, is_lock_object}
use Rattle.upc_types.specs.Layout as layout
use Rattle.upc_types.specs.Layout.{base_within}
use Rattle.upc_types.specs.Cells.{leaf_base, object_shape}
use Rattle.integers.specs.Integers.{promoted}
use Rattle.typing_rules.specs.declared.library.LibraryParameter.{LibraryParameter}
use Rattle.typing_rules.specs.declared.library.LibraryParameter.TheVariants.{SharedPointer, PrivatePointer}
use Rattle.typing_rules.specs.declared.library.LibraryParameter.TheVariants.{LockPointer, Size}
use Rattle.typing_rules.specs.Values.{base_kind, base_target}
use Rattle.typing_rules.specs.Constants.{block_or_none}
use Rattle.typing_rules.specs.Attributes.{target_block}
use Rattle.typed_tree.specs.Initials.{scalar_kind}
use Rattle.thread_steps.specs.declared.cast.CastTo.{CastTo}
use Rattle.thread_steps.specs.declared.cast.CastTo.TheVariants as to
use Rattle.thread_steps.specs.declared.elements.Elements.{Elements}

-- What a value of this type points to, an array being the pointer to its first element (C99 6.3.2.1).
abbrev pub target_of : CType → Option CType
target_of t = base_target (base_of t)

-- The kind of an integer type; no other type has one (C99 6.2.5).
abbrev pub integer_of : CType → Option Kind
integer_of t = base_kind (base_of t)

-- Whether an access to an object of this type is strict: by the word `strict` or `relaxed` of the type, and where it
-- has neither by the block in which the access stands (UPC 6.5.1.1, 6.7).
abbrev pub is_strict : Bool → CType → Bool
is_strict block t = elim (access_of t) [ Unsaid ↦ block | Strict ↦ true | Relaxed ↦ false ]

-- ---- conversions (C99 6.3, 6.5.4; UPC 6.4.3)

-- The conversion into a pointer to this target of a value whose target, if it has one, has this block: into a pointer
-- to a lock, into a pointer-to-shared with the same block or with another one, or into a pointer to a private object
-- (UPC 6.4.3).
abbrev pub pointer_conversion : Option ℕ → CType → CastTo
pointer_conversion from target =
    if is_lock_object (base_of target)
    then to.Lock
    else (if is_some (block_of target)
    then (if same_block from (block_of target) then to.Shared else to.OtherBlock)
    else to.Local)

-- The conversion into a type of a value whose target, if it has one, has this block: into its integer kind or its kind
-- of pointer; into any other type, as void, the value is discarded (C99 6.3.2.2).
abbrev pub base_conversion : Option ℕ → Base → CastTo
base_conversion from (Integer kind) = to.Integer kind
base_conversion from (Pointer target) = pointer_conversion from target
base_conversion from base = to.Nothing

-- The conversion of a value of one type into another type (C99 6.3, 6.5.4; UPC 6.4.3).
abbrev pub conversion : CType → CType → CastTo
conversion from t = base_conversion (target_block (target_of from)) (base_of t)

-- The conversion of an argument into the type of a parameter of the library, in which a pointer-to-shared keeps its
-- phase (C99 6.5.2.2; UPC 7).
abbrev pub parameter_conversion : LibraryParameter → CastTo
parameter_conversion SharedPointer = to.Shared
parameter_conversion PrivatePointer = to.Local
parameter_conversion LockPointer = to.Lock
parameter_conversion Size = to.Integer kind.ULong
parameter_conversion _ = to.Integer kind.Int

-- The integer promotion of a value of this type; a value of no integer type is discarded (C99 6.3.1.1, 6.5.2.2).
abbrev pub promotion : CType → CastTo
promotion t = elim (integer_of t) [ Some k ↦ to.Integer (promoted k) | None ↦ to.Nothing ]

-- Each argument's conversion into its parameter's type, while there are both (C99 6.5.2.2).
abbrev pub conversions : (arguments parameters : List CType) → List CastTo
conversions (a ∷ as_) (p ∷ ps) = conversion a p ∷ conversions as_ ps
conversions as_ ps = []

-- ---- layout, where the structs have these members and the targets of pointers these numbers. A type without layout
-- counts as one byte without cells; in a typed program no object has such a type.
module _ (structs : Structs) where
  -- The kind of the cell of a scalar type; an array or a struct has none of its own (C99 6.2.5).
  abbrev pub cell_kind : CType → Option Kind
  cell_kind t = scalar_kind structs.targets (base_of t)

  -- The size and the cells of an object whose type has a layout; a type without layout counts as one byte without
  -- cells.
  abbrev pub shape_or_byte : Option Layout → Base → Shape
  shape_or_byte (Some l) b = object_shape structs b
  shape_or_byte None b = record { size = 1; cells = [] }

  -- The size and the cells of an object of this type (C99 6.2.5, 6.7.2.1).
  abbrev pub shape_of : CType → Shape
  shape_of t = shape_or_byte (base_within structs.completed (base_of t)) (base_of t)

  -- The block and the size in bytes of the elements that a pointer to this type counts, which are leaf elements
  -- (C99 6.5.3.4; UPC 6.4.2, 6.5.1.1); a block of more than 16,777,216, which no typed program has, counts as that.
  abbrev pub elements_of : CType → Elements
  elements_of target = record {
    block = min (block_or_none (block_of target)) 16777216;
    size = elim (base_within structs.completed (leaf_base (base_of target))) [ Some l ↦ l.size | None ↦ 1 ];
  }

  -- The bytes before member n of a struct of this type, 0 where there is no struct (C99 6.7.2.1).
  abbrev pub member_offset : CType → ℕ → ℕ
  member_offset t n = elim (base_of t) [ Struct s ↦ layout.member_offset structs s n | _ ↦ 0 ]
