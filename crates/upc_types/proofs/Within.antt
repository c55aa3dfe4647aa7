-- Cells lie inside their object, ascending and without overlap.
use Rattle.std.proofs.Common.{◌≡◌, ℕ, ◌+◌, ◌*◌, ◌≤◌, Bool, true, false, ◌==◌, if◌then◌else◌, List, [], ◌∷◌, length, Option, Some, None, refl, sym, subst, arith}
use Rattle.block_layout.specs.declared.kind.Kind.{Kind}
use Rattle.block_layout.specs.Shapes.{kind_size, CellsWithin}
use Rattle.upc_types.specs.declared.layout.Layout.{Layout}
use Rattle.upc_types.specs.layer.Parts.{private_in}
use Rattle.upc_types.specs.Cells.{kind_to}
use Rattle.upc_types.specs.declared.layout.Known.{Known}
use Rattle.upc_types.specs.Types.{CType, Qualified, Base, Void, Integer, Struct, Array, Pointer, LockObject, base_of, Member, Completed}
use Rattle.upc_types.specs.Layout.{aligned, end_behind, widest, pointer_size, base_layout, known_in, layout_in, layout_or_none, member_layouts, struct_layout, members_hold_private}
use Rattle.block_layout.specs.Cells.{moved}
use Rattle.upc_types.specs.Cells.{pointer_kind, number_of, leaf_base, leaves, leaf_cells, object_cells, member_cells, struct_cells}
use Rattle.block_layout.proofs.Within.{wider_within, append_within, moved_within, copies_within}
use Rattle.upc_types.proofs.Members.{aligned_low, alignment_some, grow, widest_low}

pub kind_bytes : (b : Base) (s : Option ℕ) (n : ℕ) → kind_size (kind_to b s n) ≡ pointer_size b s
kind_bytes LockObject s n = refl
kind_bytes Void (Some m) n = refl
kind_bytes Void None n = refl
kind_bytes (Integer k) (Some m) n = refl
kind_bytes (Integer k) None n = refl
kind_bytes (Struct k) (Some m) n = refl
kind_bytes (Struct k) None n = refl
kind_bytes (Array e k) (Some m) n = refl
kind_bytes (Array e k) None n = refl
kind_bytes (Pointer t) (Some m) n = refl
kind_bytes (Pointer t) None n = refl

one_within : (k : Kind) (size : ℕ) → kind_size k ≤ size → CellsWithin ((0, k) ∷ []) 0 size
one_within k size h = (omega arith, omega arith, tt)

leaf_in : (targets : List CType) (f : ℕ → Layout) (g : ℕ → List (ℕ × Kind)) → ((n : ℕ) → CellsWithin (g n) 0 (f n).size) → (b : Base) →
    CellsWithin (leaf_cells targets g b) 0 (base_layout f b).size
leaf_in targets f g h Void = tt
leaf_in targets f g h (Integer k) = one_within k (kind_size k) (omega arith)
leaf_in targets f g h (Struct n) = h n
leaf_in targets f g h (Array t n) = tt
leaf_in targets f g h (Pointer (Qualified b c s x)) = let e = kind_bytes b s (number_of targets (Qualified b c s x)) in one_within (pointer_kind targets (Qualified b c s x)) (pointer_size b s) (omega arith)
leaf_in targets f g h LockObject = tt

-- The size of an array is that of all its leaf elements.
pub leaf_sizes : (f : ℕ → Layout) (b : Base) → (base_layout f b).size ≡ leaves b * (base_layout f (leaf_base b)).size
leaf_sizes f Void = refl
leaf_sizes f (Integer k) = omega arith
leaf_sizes f (Struct n) = omega arith
leaf_sizes f (Array (Qualified e c s x) n) = let h = leaf_sizes f e in rw h (omega arith)
leaf_sizes f (Pointer (Qualified b c s x)) = omega arith
leaf_sizes f LockObject = refl

object_in : (targets : List CType) (f : ℕ → Layout) (g : ℕ → List (ℕ × Kind)) → ((n : ℕ) → CellsWithin (g n) 0 (f n).size) → (b : Base) →
    CellsWithin (object_cells targets f g b) 0 (base_layout f b).size
object_in targets f g h b =
    subst (λ m. CellsWithin (object_cells targets f g b) 0 m) (sym (leaf_sizes f b))
    (copies_within (leaves b) (base_layout f (leaf_base b)).size (leaf_cells targets g (leaf_base b)) (leaf_in targets f g h (leaf_base b)))

members_in' : (targets : List CType) (cs : List Completed) → ((n : ℕ) → CellsWithin (struct_cells targets cs n) 0 (layout_in cs n).size) → (ms : List Member) (end : ℕ) →
    CellsWithin (member_cells targets (layout_in cs) (struct_cells targets cs) end ms) end (end_behind end (member_layouts (layout_in cs) ms))
members_in' targets cs h [] end = tt
members_in' targets cs h (m ∷ ms) end =
    let b = base_of m.ctype in
    let l = base_layout (layout_in cs) b in
    let start = aligned end l.align in
    let low = aligned_low end l.align (alignment_some cs b) in
    let more = grow cs (start + l.size) ms in
    append_within (moved start (object_cells targets (layout_in cs) (struct_cells targets cs) b)) (member_cells targets (layout_in cs) (struct_cells targets cs) (start + l.size) ms)
    end (start + l.size) (end_behind (start + l.size) (member_layouts (layout_in cs) ms)) (omega arith) more
    (moved_within (object_cells targets (layout_in cs) (struct_cells targets cs) b) start 0 l.size end (omega arith) (object_in targets (layout_in cs) (struct_cells targets cs) h b))
    (members_in' targets cs h ms (start + l.size))

struct_one : (b : Bool) (xs ys : List (ℕ × Kind)) (k : Known) (o : Option Known) → CellsWithin xs 0 k.layout.size → CellsWithin ys 0 (layout_or_none o).size →
    CellsWithin (if b then xs else ys) 0 (layout_or_none (if b then Some k else o)).size
struct_one true xs ys k o h i = h
struct_one false xs ys k o h i = i

struct_in : (targets : List CType) (cs : List Completed) (n : ℕ) → CellsWithin (struct_cells targets cs n) 0 (layout_in cs n).size
struct_in targets [] n = tt
struct_in targets (c ∷ older) n =
    let ls = member_layouts (layout_in older) c.members in
    let xs = member_cells targets (layout_in older) (struct_cells targets older) 0 c.members in
    let w = widest_low ls 1 in
    let a = aligned_low (end_behind 0 ls) (widest 1 ls) (omega arith) in
    struct_one (c.number == n) xs (struct_cells targets older n) record { place = length older; layout = struct_layout ls; holds_private = members_hold_private (private_in older) c.members } (known_in older n)
    (wider_within xs 0 (end_behind 0 ls) (aligned (end_behind 0 ls) (widest 1 ls)) a (members_in' targets older (struct_in targets older) c.members 0))
    (struct_in targets older n)

pub leaf_within : (targets : List CType) (cs : List Completed) (b : Base) → CellsWithin (leaf_cells targets (struct_cells targets cs) b) 0 (base_layout (layout_in cs) b).size
leaf_within targets cs b = leaf_in targets (layout_in cs) (struct_cells targets cs) (struct_in targets cs) b

pub object_within : (targets : List CType) (cs : List Completed) (b : Base) →
    CellsWithin (object_cells targets (layout_in cs) (struct_cells targets cs) b) 0 (base_layout (layout_in cs) b).size
object_within targets cs b = object_in targets (layout_in cs) (struct_cells targets cs) (struct_in targets cs) b
