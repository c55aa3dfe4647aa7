-- Shared objects, one after the other.
use Rattle.std.proofs.Common.{◌≡◌, ℕ, ◌+◌, ◌*◌, ◌<◌, ◌≤◌, ◌/◌, min, List, [], ◌∷◌, ◌++◌, refl, sym, ap, ◌∙◌, subst}
use Rattle.std.proofs.Common.{append_assoc, arith}
use Rattle.std.proofs.lemmas.List.Sums.{sum_by-cons}
use Rattle.block_layout.specs.declared.kind.Shape.{Shape}
use Rattle.upc_types.specs.Types.{Structs, base_of, block_of}
use Rattle.upc_types.specs.Layout.{size, layout_in}
use Rattle.upc_types.specs.Cells.{leaves}
use Rattle.upc_types.proofs.Steps.{leaf_count}
use Rattle.typing_rules.specs.Constants.{block_or_none}
use Rattle.typed_tree.specs.Tree.{DeclaredObject}
use Rattle.typed_tree.specs.declared.beginning.SharedDecl.{SharedDecl}
use Rattle.typed_tree.specs.Elements.{element_shape, number_among}
use Rattle.typed_tree.specs.Objects.{bytes_in, placed, placed_from}

-- An object by its fields.
abbrev declared_as : List ℕ → ℕ → ℕ → ℕ → ℕ → ℕ → ℕ → ℕ → ℕ → SharedDecl
declared_as name number total bytes shape base block count one = record {
  name = name;
  object = record { number = number; total = total; block = bytes; home = 0; shape = shape; base = base };
  block = block;
  elements = count;
  size = one;
}

pub placed_as : (s : Structs) (shapes : List Shape) (number base : ℕ) (x : DeclaredObject) (name : List ℕ)
    (total bytes shape block count one : ℕ) → name ≡ x.name →
    one ≡ (element_shape s x.ctype).size → 0 < one → total ≡ size s x.ctype → block
    ≡ block_or_none (block_of x.ctype) → bytes ≡ min (block * one) total →
    shape ≡ number_among shapes (element_shape s x.ctype) → count ≡ total / one →
    declared_as name number total bytes shape base block count one ≡ placed s shapes number base x
placed_as s shapes number base x name total bytes shape block count one d e some f g h i j =
    let t = x.ctype in
    let q : bytes ≡ min (block_or_none (block_of t) * (element_shape s t).size) (size s t) = h ∙ rw (e, f, g) refl in
    let k : count ≡ leaves (base_of t) = j ∙ rw (e, f) refl
    ∙ leaf_count (layout_in s.completed) (base_of t) (subst (λ n. 0 < n) e some) in
    let a : declared_as name number total bytes shape base block count one
    ≡ declared_as x.name number (size s t)
    (min (block_or_none (block_of t) * (element_shape s t).size) (size s t))
    (number_among shapes (element_shape s t)) base (block_or_none (block_of t)) (leaves (base_of t))
    (element_shape s t).size = cc in
    a

-- One more object.
pub placed_step : (s : Structs) (shapes : List Shape) (number base : ℕ) (x : DeclaredObject)
    (xs : List DeclaredObject) (ys : List SharedDecl) →
    (ys ++ (placed s shapes number base x ∷ [])) ++ placed_from s shapes (number + 1) (base + size s x.ctype) xs
    ≡ ys ++ placed_from s shapes number base (x ∷ xs)
placed_step s shapes number base x xs ys =
    append_assoc ys (placed s shapes number base x ∷ [])
    (placed_from s shapes (number + 1) (base + size s x.ctype) xs)

pub bytes_step : (s : Structs) (x : DeclaredObject) (xs : List DeclaredObject) → bytes_in s (x ∷ xs)
    ≡ size s x.ctype + bytes_in s xs
bytes_step s x xs = sum_by-cons (λ (y : DeclaredObject). size s y.ctype) x xs

-- What is placed, once one more object is.
pub placed_more : (s : Structs) (shapes : List Shape) (number base : ℕ) (x : DeclaredObject)
    (xs all : List DeclaredObject) (ys zs whole : List SharedDecl) (m b : ℕ) →
    zs ≡ ys ++ (placed s shapes number base x ∷ []) → m ≡ number + 1 → b ≡ base + size s x.ctype → all
    ≡ x ∷ xs → ys ++ placed_from s shapes number base all ≡ whole →
    zs ++ placed_from s shapes m b xs ≡ whole
placed_more s shapes number base x xs all ys zs whole m b e f g h k =
    rw (e, f, g) (placed_step s shapes number base x xs ys
    ∙ ap (λ os. ys ++ placed_from s shapes number base os) (sym h) ∙ k)

pub bytes_more : (s : Structs) (base b room : ℕ) (x : DeclaredObject) (xs all : List DeclaredObject) → b
    ≡ base + size s x.ctype → all ≡ x ∷ xs → base + bytes_in s all ≤ room → b + bytes_in s xs ≤ room
bytes_more s base b room x xs all e f h =
    let k = bytes_step s x xs in
    let l : bytes_in s all ≡ size s x.ctype + bytes_in s xs = ap (bytes_in s) f ∙ k in
    omega arith
