-- Sizes and alignments (C99 6.5.3.4, 6.7.2.1), in bytes.
use Rattle.std.specs.Prelude.{ℕ, zero, suc, ◌+◌, ◌-◌, ◌*◌, ◌/◌, max, nat_lt, nat_le, Bool, true, false, ◌==◌, ◌&&◌}
use Rattle.std.specs.Prelude.{not, if◌then◌else◌, List, [], ◌∷◌, length, map, Option, Some, None, is_some}
use Rattle.std.specs.List.{list_any}
use Rattle.block_layout.specs.Shapes.{kind_size}
use Rattle.upc_types.specs.declared.layout.Layout.{Layout}
use Rattle.upc_types.specs.declared.layout.Known.{Known}
use Rattle.upc_types.specs.Types.{CType, Qualified, Base, Integer, Struct, Array, Pointer, LockObject, base_of}
use Rattle.upc_types.specs.Types.{Member, Completed, Structs, members_of}
use Rattle.upc_types.specs.Same.{is_lock_object}

-- The layout of a scalar of so many bytes, whose alignment is its size.
abbrev pub scalar : ℕ → Layout
scalar n = record { size = n; align = n }

-- The layout that stands for an incomplete type, which has no size (C99 6.2.5).
abbrev pub no_layout : Layout
no_layout = record { size = 0; align = 1 }

-- The least multiple of the alignment that is at least n.
abbrev pub aligned : ℕ → ℕ → ℕ
aligned n align = (n + (align - 1)) / align * align

-- Where members with these layouts end that follow so many bytes, each at the first place of its alignment after the
-- one before it (C99 6.7.2.1).
abbrev pub end_behind : ℕ → List Layout → ℕ
end_behind end [] = end
end_behind end (m ∷ ms) = end_behind (aligned end m.align + m.size) ms

-- The widest of this alignment and those of members with these layouts.
abbrev pub widest : ℕ → List Layout → ℕ
widest least [] = least
widest least (m ∷ ms) = widest (max least m.align) ms

-- The layout of a struct of members with these layouts: it is aligned as its widest member, and padded at its end to a
-- multiple of its alignment (C99 6.7.2.1).
abbrev pub struct_layout : List Layout → Layout
struct_layout ms = record { size = aligned (end_behind 0 ms) (widest 1 ms); align = widest 1 ms }

-- The bytes of a pointer by its target: 16 to a shared object or to a lock, and 8 to another.
abbrev pub pointer_size : Base → Option ℕ → ℕ
pointer_size LockObject shared = 16
pointer_size b (Some block) = 16
pointer_size b None = 8

-- The size and alignment of a type, where those of each struct are known; an array has the size of all its elements and
-- the alignment of one (C99 6.5.3.4).
abbrev pub base_layout : (ℕ → Layout) → Base → Layout
base_layout structs (Integer kind) = scalar (kind_size kind)
base_layout structs (Struct number) = structs number
base_layout structs (Array (Qualified e c s x) count) = record {
  size = count * (base_layout structs e).size;
  align = (base_layout structs e).align;
}
base_layout structs (Pointer (Qualified target c s x)) = scalar (pointer_size target s)
base_layout structs b = no_layout

-- Whether a type is complete, where it is known which structs are (C99 6.2.5).
abbrev pub base_complete : (ℕ → Bool) → Base → Bool
base_complete structs (Integer kind) = true
base_complete structs (Struct number) = structs number
base_complete structs (Array (Qualified e c s x) count) = nat_lt 0 count && base_complete structs e
base_complete structs (Pointer target) = true
base_complete structs b = false

-- The layouts of members in order, where that of each struct is known.
abbrev pub member_layouts : (ℕ → Layout) → List Member → List Layout
member_layouts structs ms = map (λ m. base_layout structs (base_of m.ctype)) ms

-- The layout of a struct by what is known of it; where nothing is, that of an incomplete type.
abbrev pub layout_or_none : Option Known → Layout
layout_or_none None = no_layout
layout_or_none (Some k) = k.layout

-- Whether an object of a type is a pointer to a private object, which leads neither to a shared object nor to a lock,
-- or holds one in a member or an element, where it is known of which structs that is so (UPC 6.5.1.1).
abbrev pub base_holds_private : (ℕ → Bool) → Base → Bool
base_holds_private structs (Pointer (Qualified b c s x)) = not (is_some s) && not (is_lock_object b)
base_holds_private structs (Struct number) = structs number
base_holds_private structs (Array (Qualified e c s x) count) = base_holds_private structs e
base_holds_private structs b = false

-- Whether one of these members is or holds a pointer to a private object, where it is known of which structs that is
-- so.
abbrev pub members_hold_private : (ℕ → Bool) → List Member → Bool
members_hold_private structs ms = list_any (λ m. base_holds_private structs (base_of m.ctype)) ms

-- Whether an object of a struct holds a pointer to a private object, by what is known of the struct; one of which
-- nothing is known does not.
abbrev pub private_or_not : Option Known → Bool
private_or_not None = false
private_or_not (Some k) = k.holds_private

-- What is known of a struct by its number, nothing where it is incomplete: its place in the order of completion, from
-- 0, its layout, and whether an object of it holds a pointer to a private object.
abbrev pub known_in : List Completed → ℕ → Option Known
known_in [] number = None
known_in (c ∷ older) number =
    if c.number == number
    then Some record {
      place = length older;
      layout = struct_layout (member_layouts (λ n. layout_or_none (known_in older n)) c.members);
      holds_private = members_hold_private (λ n. private_or_not (known_in older n)) c.members;
    }
    else known_in older number

-- The layout of a struct by its number; where it is incomplete, that of an incomplete type (C99 6.7.2.1).
abbrev pub layout_in : List Completed → ℕ → Layout
layout_in completed number = layout_or_none (known_in completed number)

-- The offset of a member by its number, from 0, among members with these layouts that follow so many bytes, each at the
-- first place of its alignment after the one before it; where they end, if there is no such member (C99 6.7.2.1).
abbrev pub offset_behind : (end : ℕ) → List Layout → (member : ℕ) → ℕ
offset_behind end [] member = end
offset_behind end (m ∷ ms) zero = aligned end m.align
offset_behind end (m ∷ ms) (suc member) = offset_behind (aligned end m.align + m.size) ms member

-- The offset in bytes of the member with this number, from 0, in the struct with this number; where the members end, if
-- it has no such member (C99 6.7.2.1).
abbrev pub member_offset : Structs → (number member : ℕ) → ℕ
member_offset structs number member =
    offset_behind 0 (member_layouts (layout_in structs.completed) (members_of structs number)) member

-- Whether the struct with this number is complete (C99 6.2.5, 6.7.2.3).
abbrev pub complete_in : List Completed → ℕ → Bool
complete_in completed number = is_some (known_in completed number)

-- Whether a type is complete (C99 6.2.5).
abbrev pub is_complete : Structs → CType → Bool
is_complete structs t = base_complete (complete_in structs.completed) (base_of t)

-- Whether an object of a type is a pointer to a private object, or holds one in a member or an element (UPC 6.5.1.1).
abbrev pub holds_private : Structs → CType → Bool
holds_private structs t = base_holds_private (λ n. private_or_not (known_in structs.completed n)) (base_of t)

-- The size of a type in bytes, 0 where it is incomplete (C99 6.5.3.4).
abbrev pub size : Structs → CType → ℕ
size structs t = (base_layout (layout_in structs.completed) (base_of t)).size

-- The most bytes that an object may have (typing rule 6).
abbrev pub most_bytes : ℕ
most_bytes = 16777216

-- The layout of a type, None where it is incomplete or has more bytes than an object can have.
abbrev pub base_within : List Completed → Base → Option Layout
base_within completed b =
    if base_complete (complete_in completed) b && nat_le (base_layout (layout_in completed) b).size most_bytes
    then Some (base_layout (layout_in completed) b)
    else None

-- Whether each of these members has a complete type, where it is known which structs are complete (C99 6.7.2.1).
abbrev pub all_complete : (ℕ → Bool) → List Member → Bool
all_complete structs [] = true
all_complete structs (m ∷ ms) = base_complete structs (base_of m.ctype) && all_complete structs ms

-- The layout of a struct of these members, None where one is incomplete or the struct has more bytes than an object can
-- have.
abbrev pub members_within : List Completed → List Member → Option Layout
members_within completed ms =
    if all_complete (complete_in completed) ms && nat_le
    (struct_layout (member_layouts (layout_in completed) ms)).size most_bytes
    then Some (struct_layout (member_layouts (layout_in completed) ms))
    else None

-- The layout of an array of so many elements of this layout, None where the element has none, where there is no
-- element, or where the array has more bytes than an object can have.
abbrev pub many : Option Layout → ℕ → Option Layout
many None count = None
many (Some e) count = if nat_lt 0 count && nat_le (count * e.size) most_bytes
    then Some record { size = count * e.size; align = e.align } else None

-- The layout of a struct with some members up to `end`, the widest of this alignment, and then these; None where one of
-- these is incomplete or the struct has more bytes than an object can have.
abbrev pub members_from : List Completed → ℕ → ℕ → List Member → Option Layout
members_from completed end align ms =
    if all_complete (complete_in completed) ms && nat_le
    (aligned (end_behind end (member_layouts (layout_in completed) ms))
    (widest align (member_layouts (layout_in completed) ms))) most_bytes
    then Some record {
      size = aligned (end_behind end (member_layouts (layout_in completed) ms))
          (widest align (member_layouts (layout_in completed) ms));
      align = widest align (member_layouts (layout_in completed) ms);
    }
    else None

-- The layout of a struct whose members end there and whose widest alignment is this, None where it has more bytes than
-- an object can have.
abbrev pub finished : ℕ → ℕ → Option Layout
finished end align = if nat_le (aligned end align) most_bytes
    then Some record { size = aligned end align; align = align } else None
