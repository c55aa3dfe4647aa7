-- Layouts of members, one after the other.
use Rattle.std.proofs.Common.{◌≡◌, ℕ, ◌+◌, ◌<◌, ◌≤◌, max, nat_le, Bool, true, false, ◌==◌, ◌&&◌, ◌⊎◌, inl, inr, if◌then◌else◌, List, [], ◌∷◌, length, map, drop, get_or, Option, Some, None, refl, sym, ap, ◌∙◌, arith, leb-false}
use Rattle.std.proofs.lemmas.List.{drop_more}
use Rattle.std.proofs.lemmas.Bool.{lt-leb}
use Rattle.std.proofs.Math.Bool.{and-false}
use Rattle.block_layout.specs.declared.kind.Kind.{Kind}
use Rattle.block_layout.specs.declared.kind.Kind.TheVariants.{Char, UChar, Short, UShort, Int, UInt, Long, ULong, Shared, Lock, Private}
use Rattle.block_layout.specs.Shapes.{kind_size}
use Rattle.upc_types.specs.declared.layout.Layout.{Layout}
use Rattle.upc_types.specs.layer.Parts.{private_in}
use Rattle.upc_types.specs.Types.{Qualified, Base, Void, Integer, Struct, Array, Pointer, LockObject, base_of, Member, Completed}
use Rattle.upc_types.specs.Layout.{most_bytes, aligned, end_behind, widest, pointer_size, base_layout, base_complete, complete_in, layout_in, layout_or_none, known_in, members_hold_private, struct_layout, member_layouts, base_within, members_from}

-- One part of a list that is gone through.
pub next : {X Y : Type 0} (f : X → Y) (xs : List X) (i : ℕ) (x : X) → i < length xs → x ≡ get_or xs i x → map f (drop i xs) ≡ f x ∷ map f (drop (i + 1) xs)
next f xs i x h e = ap (map f) (drop_more xs i x h) ∙ ap (λ y. f y ∷ map f (drop (i + 1) xs)) (sym e)

pub aligned_low : (n a : ℕ) → 0 < a → n ≤ aligned n a
aligned_low n a p = grind arith

pub kind_some : (k : Kind) → 0 < kind_size k
kind_some Char = omega arith
kind_some UChar = omega arith
kind_some Short = omega arith
kind_some UShort = omega arith
kind_some Int = omega arith
kind_some UInt = omega arith
kind_some Long = omega arith
kind_some ULong = omega arith
kind_some (Shared n b) = omega arith
kind_some Lock = omega arith
kind_some (Private n) = omega arith

pub pointer_some : (b : Base) (s : Option ℕ) → 0 < pointer_size b s
pointer_some LockObject s = omega arith
pointer_some Void (Some n) = omega arith
pointer_some Void None = omega arith
pointer_some (Integer k) (Some n) = omega arith
pointer_some (Integer k) None = omega arith
pointer_some (Struct k) (Some n) = omega arith
pointer_some (Struct k) None = omega arith
pointer_some (Array e m) (Some n) = omega arith
pointer_some (Array e m) None = omega arith
pointer_some (Pointer t) (Some n) = omega arith
pointer_some (Pointer t) None = omega arith

base_some : (f : ℕ → Layout) → ((n : ℕ) → 0 < (f n).align) → (b : Base) → 0 < (base_layout f b).align
base_some f h Void = omega arith
base_some f h (Integer k) = kind_some k
base_some f h (Struct n) = h n
base_some f h (Array (Qualified e c s x) n) = base_some f h e
base_some f h (Pointer (Qualified t c s x)) = pointer_some t s
base_some f h LockObject = omega arith

pub widest_low : (ls : List Layout) (a : ℕ) → a ≤ widest a ls
widest_low [] a = omega arith
widest_low (l ∷ ls) a = let h = widest_low ls (max a l.align) in omega arith

layout_some : (cs : List Completed) (n : ℕ) → 0 < (layout_in cs n).align
layout_some [] n = omega arith
layout_some (c ∷ older) n = elim (c.number == n) as (λ b. 0 < (layout_or_none (if b then Some record { place = length older; layout = struct_layout (member_layouts (layout_in older) c.members); holds_private = members_hold_private (private_in older) c.members } else known_in older n)).align)
    [ true ↦ let h = widest_low (member_layouts (layout_in older) c.members) 1 in omega arith | false ↦ layout_some older n ]

-- No type has the alignment 0.
pub alignment_some : (cs : List Completed) (b : Base) → 0 < (base_layout (layout_in cs) b).align
alignment_some cs b = base_some (layout_in cs) (layout_some cs) b

-- Members do not end before they begin.
pub grow : (cs : List Completed) (end : ℕ) (ms : List Member) → end ≤ end_behind end (member_layouts (layout_in cs) ms)
grow cs end [] = omega arith
grow cs end (m ∷ ms) =
    let l = base_layout (layout_in cs) (base_of m.ctype) in
    let a = aligned_low end l.align (alignment_some cs (base_of m.ctype)) in
    let r = grow cs (aligned end l.align + l.size) ms in
    omega arith

too_large : (cs : List Completed) (end align : ℕ) (ms : List Member) → 0 < align → most_bytes < end →
    nat_le (aligned (end_behind end (member_layouts (layout_in cs) ms)) (widest align (member_layouts (layout_in cs) ms))) most_bytes ≡ false
too_large cs end align ms p h =
    let ls = member_layouts (layout_in cs) ms in
    let g = grow cs end ms in
    let w = widest_low ls align in
    let a = aligned_low (end_behind end ls) (widest align ls) (omega arith) in
    lt-leb _ most_bytes (omega arith)

-- Members that end after the last byte that an object can have make no struct.
pub from_large : (cs : List Completed) (end align : ℕ) (ms : List Member) → 0 < align → most_bytes < end → members_from cs end align ms ≡ None
from_large cs end align ms p h = rw (too_large cs end align ms p h, and-false) refl

pub some_is : (c q : Bool) (l p : Layout) → (if c && q then Some l else None) ≡ Some p → (c ≡ true) × (l ≡ p)
some_is true true l p h = (refl, cc)
some_is true false l p h = absurd cc
some_is false true l p h = absurd cc
some_is false false l p h = absurd cc

none_is : (c q : Bool) (l : Layout) → ◌≡◌ {A = Option Layout} (if c && q then Some l else None) None → (c ≡ false) ⊎ (q ≡ false)
none_is true true l h = absurd cc
none_is true false l h = inr refl
none_is false q l h = inl refl

-- A member that fits goes after those before it.
pub from_more : (cs : List Completed) (end align : ℕ) (m : Member) (ms : List Member) (p : Layout) → base_within cs (base_of m.ctype) ≡ Some p →
    members_from cs end align (m ∷ ms) ≡ members_from cs (aligned end p.align + p.size) (max align p.align) ms
from_more cs end align m ms p h =
    let s = some_is (base_complete (complete_in cs) (base_of m.ctype)) (nat_le (base_layout (layout_in cs) (base_of m.ctype)).size most_bytes) (base_layout (layout_in cs) (base_of m.ctype)) p h in
    rw (s.0, s.1) refl

-- A member that does not fit makes no struct.
pub from_none : (cs : List Completed) (end align : ℕ) (m : Member) (ms : List Member) → 0 < align → base_within cs (base_of m.ctype) ≡ None →
    members_from cs end align (m ∷ ms) ≡ None
from_none cs end align m ms p h =
    let l = base_layout (layout_in cs) (base_of m.ctype) in
    elim (none_is (base_complete (complete_in cs) (base_of m.ctype)) (nat_le l.size most_bytes) l h) [
      | inl f ↦ rw f refl
      | inr f ↦
          let s = leb-false l.size most_bytes f in
          rw (too_large cs (aligned end l.align + l.size) (max align l.align) ms (omega arith) (omega arith), and-false) refl
    ]
