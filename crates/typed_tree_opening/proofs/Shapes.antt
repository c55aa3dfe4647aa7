-- Shapes of elements: their cells, and their numbers.
use Rattle.std.proofs.Common.{◌≡◌, ℕ, ◌+◌, ◌≤◌, Bool, true, false, ◌&&◌, not, nat_le, if◌then◌else◌, List}
use Rattle.std.proofs.Common.{[], ◌∷◌, ◌++◌, is_some, refl, arith}
use Rattle.std.proofs.lemmas.Bool.{and_parts, leb-true}
use Rattle.block_layout.specs.declared.kind.Kind.{Kind}
use Rattle.block_layout.specs.declared.kind.Shape.{Shape}
use Rattle.block_layout.specs.Shapes.{kind_size, CellsWithin}
use Rattle.block_layout.specs.Cells.{is_private, sharable}
use Rattle.upc_values.specs.Lists.{Each}
use Rattle.upc_types.specs.declared.layout.Layout.{Layout}
use Rattle.upc_types.specs.Types.{CType, base_of, Structs}
use Rattle.upc_types.specs.Layout.{base_layout, layout_in, is_complete, size, most_bytes}
use Rattle.typed_tree.specs.Elements.{with_shape}
use Rattle.typed_tree.specs.layer.Parts.{with_shapes}
use Rattle.typing_rules.specs.Rules.{has_size}
use Rattle.block_layout.proofs.Within.{lower}
use Rattle.upc_types.proofs.Sizes.{if_small}

-- ---- types with a layout

pub record HasLayout (structs : Structs) (t : CType) : Type 0 where
  pub complete : is_complete structs t ≡ true
  pub few : size structs t ≤ most_bytes

some_if : (a b : Bool) (l : Layout) → is_some (if_small (a && b) l) ≡ true → (a && b) ≡ true
some_if true true l h = refl
some_if true false l h = absurd cc
some_if false b l h = absurd cc

pub layout_is : (structs : Structs) (t : CType) → has_size structs t ≡ true → HasLayout structs t
layout_is structs t h =
    let l = base_layout (layout_in structs.completed) (base_of t) in
    let p = and_parts (is_complete structs t) (nat_le l.size most_bytes)
    (some_if (is_complete structs t) (nat_le l.size most_bytes) l h) in
    record { complete = p.0; few = leb-true l.size most_bytes p.1 }

-- ---- cells that a shared object can have

kept_one : (b : Bool) (c : ℕ × Kind) (ys : List (ℕ × Kind)) (from size : ℕ) → from ≤ c.0 →
    c.0 + kind_size c.1 ≤ size → CellsWithin ys (c.0 + kind_size c.1) size →
    CellsWithin (if b then c ∷ ys else ys) from size
kept_one true c ys from size l m h = (l, m, h)
kept_one false c ys from size l m h = lower ys from (c.0 + kind_size c.1) size (omega arith) h

pub sharable_within : (cells : List (ℕ × Kind)) (from size : ℕ) → CellsWithin cells from size →
    CellsWithin (sharable cells) from size
sharable_within [] from size h = tt
sharable_within (c ∷ cells) from size h =
    kept_one (not (is_private c.1)) c (sharable cells) from size h.0 h.1
    (sharable_within cells (c.0 + kind_size c.1) size h.2)

each_one : (b : Bool) (c : ℕ × Kind) (ys : List (ℕ × Kind)) → is_private c.1 ≡ b →
    Each (λ d. is_private d.1 ≡ false) ys → Each (λ d. is_private d.1 ≡ false) (if not b then c ∷ ys else ys)
each_one true c ys e h = h
each_one false c ys e h = (e, h)

pub sharable_each : (cells : List (ℕ × Kind)) → Each (λ c. is_private c.1 ≡ false) (sharable cells)
sharable_each [] = tt
sharable_each (c ∷ cells) = each_one (is_private c.1) c (sharable cells) refl (sharable_each cells)

-- ---- numbers of shapes

pub shapes_append : (known a b : List Shape) → with_shapes known (a ++ b) ≡ with_shapes (with_shapes known a) b
shapes_append known [] b = refl
shapes_append known (s ∷ a) b = shapes_append (with_shape known s) a b
