-- Types that have a size.
use Rattle.std.proofs.Common.{◌≡◌, ℕ, ◌*◌, ◌/◌, ◌<◌, ◌≤◌, nat_lt, nat_le, Bool, true, false, ◌&&◌, if◌then◌else◌}
use Rattle.std.proofs.Common.{List, Option, Some, None, is_some, refl, sym, ap, ◌∙◌, subst, arith, ltb-true}
use Rattle.std.proofs.Common.{leb-true}
use Rattle.std.proofs.lemmas.Bool.{and_parts, and_from, le-leb}
use Rattle.std.proofs.Math.Nat.{mul-div_cancel}
use Rattle.upc_types.specs.declared.layout.Layout.{Layout}
use Rattle.upc_types.specs.Types.{CType, Qualified, Base, Void, Integer, Struct, Array, Pointer, LockObject}
use Rattle.upc_types.specs.Types.{Completed}
use Rattle.upc_types.specs.Layout.{base_layout, base_complete, base_within, complete_in, layout_in, most_bytes}
use Rattle.upc_types.specs.Cells.{leaf_base, leaves}
use Rattle.upc_types.proofs.Within.{leaf_sizes}

-- ---- what has a size

abbrev pub fits : List Completed → Base → Bool
fits cs b = base_complete (complete_in cs) b && nat_le (base_layout (layout_in cs) b).size most_bytes

pub some_is_true : (p : Bool) (l : Layout) → is_some {T = Layout} (if p then Some l else None) ≡ p
some_is_true true l = refl
some_is_true false l = refl

pub within_is : (cs : List Completed) (b : Base) → is_some (base_within cs b) ≡ fits cs b
within_is cs b = some_is_true (fits cs b) (base_layout (layout_in cs) b)

one_of : (n s : ℕ) → 0 < n → n * s ≤ most_bytes → s ≤ most_bytes
one_of n s h k = grind arith

element_fits : (n s : ℕ) (e : Bool) → ((nat_lt 0 n && e) && nat_le (n * s) most_bytes) ≡ true →
    (e && nat_le s most_bytes) ≡ true
element_fits n s e h =
    let p = and_parts (nat_lt 0 n && e) (nat_le (n * s) most_bytes) h in
    let q = and_parts (nat_lt 0 n) e p.0 in
    and_from e (nat_le s most_bytes) q.1
    (le-leb s most_bytes (one_of n s (ltb-true 0 n q.0) (leb-true (n * s) most_bytes p.1)))

leaf_fits : (cs : List Completed) (b : Base) → fits cs b ≡ true → fits cs (leaf_base b) ≡ true
leaf_fits cs Void h = h
leaf_fits cs (Integer k) h = h
leaf_fits cs (Struct n) h = h
leaf_fits cs (Array (Qualified e c s x) n) h =
    leaf_fits cs e (element_fits n (base_layout (layout_in cs) e).size (base_complete (complete_in cs) e) h)
leaf_fits cs (Pointer t) h = h
leaf_fits cs LockObject h = h

-- The leaf elements of a type that has a size have one.
pub leaf_within : (cs : List Completed) (b : Base) → is_some (base_within cs b) ≡ true →
    is_some (base_within cs (leaf_base b)) ≡ true
leaf_within cs b h = within_is cs (leaf_base b) ∙ leaf_fits cs b (sym (within_is cs b) ∙ h)

some_chosen : (p : Bool) (l m : Layout) → ◌≡◌ {A = Option Layout} (if p then Some l else None) (Some m) → l ≡ m
some_chosen true l m h = cc
some_chosen false l m h = absurd cc

pub layout_is : (cs : List Completed) (b : Base) (l : Layout) → base_within cs b ≡ Some l →
    base_layout (layout_in cs) b ≡ l
layout_is cs b l h = some_chosen (fits cs b) (base_layout (layout_in cs) b) l h

-- How many leaf elements there are, by the sizes.
pub leaves_are : (cs : List Completed) (b : Base) (whole part : Layout) → base_within cs b ≡ Some whole →
    base_within cs (leaf_base b) ≡ Some part → 0 < part.size →
    whole.size / part.size ≡ leaves b
leaves_are cs b whole part h k some =
    let e : whole.size ≡ leaves b * part.size = ap (λ (l : Layout). l.size) (sym (layout_is cs b whole h))
    ∙ leaf_sizes (layout_in cs) b ∙ ap (λ (l : Layout). leaves b * l.size) (layout_is cs (leaf_base b) part k) in
    ap (λ n. n / part.size) e ∙ mul-div_cancel (leaves b) some

pub none_some : {A : Type 0} (o : Option A) → is_some o ≡ true → o ≡ None → ⊥
none_some None h e = absurd cc
none_some (Some x) h e = absurd cc
