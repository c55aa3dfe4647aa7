-- Shapes that have a number while more get theirs.
use Rattle.std.proofs.Common.{◌≡◌, ◌≢◌, ℕ, ◌<◌, Bool, true, false, nat_eq, nat_lt, if◌then◌else◌, List, [], ◌∷◌, ◌++◌, length, get_or, replicate, refl, sym, ap, ◌∙◌, subst, arith}
use Rattle.std.proofs.lemmas.Bool.{eqb-true, eqb-false, lt-ltb, cases_lt}
use Rattle.block_layout.specs.declared.kind.Kind.{Kind}
use Rattle.block_layout.specs.declared.kind.Shape.{Shape}
use Rattle.block_layout.specs.Cells.{sharable}
use Rattle.upc_types.specs.declared.layout.Layout.{Layout}
use Rattle.upc_types.specs.Types.{CType, Base, Struct, Structs, base_of}
use Rattle.upc_types.specs.Layout.{base_layout, layout_in}
use Rattle.upc_types.specs.Cells.{leaf_base, leaf_cells, struct_cells}
use Rattle.typed_tree.specs.Elements.{element_shape, number_among, with_shape}
use Rattle.typed_tree_opening.specs.code.Apart.{struct_shape, AreNumbered}
use Rattle.typed_tree_opening.proofs.Numbering.{new_by, more_by}
use Rattle.typed_tree_opening.proofs.Pendings.{none_by}

-- The shape of an element with this layout and these cells.
abbrev shape_with : Layout → List (ℕ × Kind) → Shape
shape_with l cells = record { size = l.size; cells = sharable cells }

-- The shape of an element, by the type of its leaf elements.
abbrev shape_by : Structs → Base → Shape
shape_by s b = shape_with (base_layout (layout_in s.completed) b) (leaf_cells s.targets (struct_cells s.targets s.completed) b)

-- The shape of an element is that of each struct with the layout and the cells of its leaf elements.
pub shape_like : (s : Structs) (t : CType) (n m : ℕ) → leaf_base (base_of t) ≡ Struct n → layout_in s.completed m ≡ layout_in s.completed n →
    struct_cells s.targets s.completed m ≡ struct_cells s.targets s.completed n → element_shape s t ≡ struct_shape s m
shape_like s t n m e l h = ap (shape_by s) e ∙ (λ i. shape_with (sym l i) (sym h i))

-- A shape that has a number gets no other one.
pub has_number : (shapes : List Shape) (x : Shape) → number_among shapes x < length shapes → with_shape shapes x ≡ shapes
has_number shapes x h = rw (lt-ltb (number_among shapes x) (length shapes) h) refl

-- Shapes that have a number have one when one more has.
pub numbered_kept : (s : Structs) (shapes : List Shape) (x : Shape) (seen : List Bool) → AreNumbered s shapes seen → AreNumbered s (with_shape shapes x) seen
numbered_kept s shapes x seen a n h =
    let p = more_by shapes x (struct_shape s n) (nat_lt (number_among shapes x) (length shapes)) (a n h) in
    omega (arith, a n h, p.0, p.1)

more_one : (s : Structs) (shapes : List Shape) (x : Shape) (old new : List Bool) (number n : ℕ) (b : Bool) → nat_eq n number ≡ b → AreNumbered s shapes old → x ≡ struct_shape s number →
    (n ≢ number → get_or old n false ≡ true) → number_among (with_shape shapes x) (struct_shape s n) < length (with_shape shapes x)
more_one s shapes x old new number n true e a same f =
    let here : struct_shape s n ≡ x = ap (struct_shape s) (eqb-true n number e) ∙ sym same in
    subst (λ y. number_among (with_shape shapes x) y < length (with_shape shapes x)) (sym here) (new_by shapes x (nat_lt (number_among shapes x) (length shapes)) refl).1
more_one s shapes x old new number n false e a same f = numbered_kept s shapes x old a n (f (eqb-false n number e))

-- Where one struct more is marked, whose shape has got a number, the shapes of all that are marked have one.
pub numbered_more : (s : Structs) (shapes : List Shape) (x : Shape) (old new : List Bool) (number : ℕ) → AreNumbered s shapes old → x ≡ struct_shape s number →
    ((n : ℕ) → get_or new n false ≡ true → n ≢ number → get_or old n false ≡ true) → AreNumbered s (with_shape shapes x) new
numbered_more s shapes x old new number a same f n h = more_one s shapes x old new number n (nat_eq n number) refl a same (f n h)

-- Where no struct is marked, none needs a number.
pub numbered_none : (s : Structs) (shapes : List Shape) (count : ℕ) → AreNumbered s shapes (replicate count false)
numbered_none s shapes count n h = let e = none_by count n (cases_lt n count) in absurd cc
