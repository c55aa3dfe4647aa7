-- What a program keeps has one proof at most, so it comes out of what is only known to hold.
use Rattle.std.proofs.Common.{◌≡◌, ◌≢◌, ℕ, ◌+◌, List, [], ◌∷◌, true}
use Rattle.std.proofs.Math.Logic.{∥∥₁_elim}
use Rattle.std.proofs.Math.Bridge.{le_prop}
use mathlib.Core.Bool.{Bool-set}
use Rattle.std.specs.Coded.{×_prop, Unit-prop}
use Rattle.block_layout.specs.declared.kind.Kind.{Kind}
use Rattle.block_layout.specs.declared.kind.Shape.{Shape}
use Rattle.block_layout.specs.declared.place.LocalPtr.{LocalPtr}
use Rattle.block_layout.specs.Shapes.{IsShape, CellsWithin, kind_size}
use Rattle.upc_values.specs.Lists.{Each, Pairwise}
use Rattle.upc_values.specs.Openings.{IsOpening}
use Rattle.upc_values.specs.declared.scalar.Value.{Value}
use Rattle.private_store.specs.Beginnings as store
use Rattle.typed_tree.specs.Beginnings.{Beginning, opening_in}
use Rattle.typed_tree.specs.layer.PrivateOpenings.{IsPrivateOpening}

pub each_prop : {X : Type 0} (P : X → Type 0) → ((x : X) → IsProp (P x)) → (xs : List X) → IsProp (Each P xs)
each_prop P h [] = Unit-prop
each_prop P h (x ∷ xs) = ×_prop (h x) (each_prop P h xs)

pairwise_prop : {X : Type 0} (R : X → X → Type 0) → ((x y : X) → IsProp (R x y)) → (xs : List X)
    → IsProp (Pairwise R xs)
pairwise_prop R h [] = Unit-prop
pairwise_prop R h (x ∷ xs) = ×_prop (each_prop (R x) (h x) xs) (pairwise_prop R h xs)

cells_prop : (cells : List (ℕ × Kind)) (from size : ℕ) → IsProp (CellsWithin cells from size)
cells_prop [] from size = Unit-prop
cells_prop (c ∷ cells) from size =
    let k = cells_prop cells (c.0 + kind_size c.1) size in
    hlevel (le_prop, k)

shape_prop : (s : Shape) → IsProp (IsShape s)
shape_prop s = ×_prop le_prop (cells_prop s.cells 0 s.size)

-- The shapes of shared elements are shapes.
pub shapes_fit : (threads : ℕ) (b : Beginning) → ∥ IsOpening (opening_in threads b) ∥₁ → Each IsShape b.shapes
shapes_fit threads b h = ∥∥₁_elim h (each_prop IsShape shape_prop b.shapes) (λ o. o.shapes)

private_begins : (threads : ℕ) (b : Beginning) → IsPrivateOpening threads b
    → store.IsBeginning b.private_shapes b.private_initials
private_begins threads b h = record {
  are_shapes = h.values.shapes;
  room = h.bytes;
  once = h.values.once;
  fit = h.values.fit;
}

beginning_prop : (shapes : List Shape) (initials : List (LocalPtr × Value))
    → IsProp (store.IsBeginning shapes initials)
beginning_prop shapes initials =
    let a = each_prop IsShape shape_prop shapes in
    let c = pairwise_prop (λ (x y : LocalPtr × Value). x.0 ≢ y.0) (λ x y. hlevel le_prop) initials in
    let d = each_prop (λ (x : LocalPtr × Value). store.fits_cell x.1 (store.private_cell shapes x.0) ≡ true)
    (λ x. Bool-set _ _) initials in
    hlevel (le_prop, a, c, d)

-- A store may begin with its private objects.
pub privates_begin : (threads : ℕ) (b : Beginning) → ∥ IsPrivateOpening threads b ∥₁
    → store.IsBeginning b.private_shapes b.private_initials
privates_begin threads b h =
    ∥∥₁_elim h (beginning_prop b.private_shapes b.private_initials) (private_begins threads b)
