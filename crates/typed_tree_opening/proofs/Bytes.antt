-- The bytes of the private objects, by their shapes.
use Rattle.std.proofs.Common.{◌≡◌, List, [], ◌∷◌, map, refl, sym, ap, ◌∙◌, ◌+◌, ℕ}
use Rattle.std.proofs.lemmas.List.Sums.{sum_by-cons}
use Rattle.block_layout.specs.declared.kind.Shape.{Shape}
use Rattle.upc_types.specs.Types.{Structs, base_of}
use Rattle.upc_types.specs.Layout.{size}
use Rattle.upc_types.specs.Cells.{object_shape}
use Rattle.typed_tree.specs.Tree.{DeclaredObject}
use Rattle.typed_tree.specs.Objects.{bytes_in}
use Rattle.typed_tree.specs.layer.PrivateOpenings.{shape_bytes}

abbrev shape_at : Structs → DeclaredObject → Shape
shape_at s x = object_shape s (base_of x.ctype)

-- Objects of these shapes have as many bytes as objects of the types.
pub bytes_are : (s : Structs) (xs : List DeclaredObject) → shape_bytes (map (shape_at s) xs) ≡ bytes_in s xs
bytes_are s [] = refl
bytes_are s (x ∷ xs) =
    sum_by-cons (λ (y : Shape). y.size) (shape_at s x) (map (shape_at s) xs)
    ∙ ap (λ (n : ℕ). size s x.ctype + n) (bytes_are s xs)
    ∙ sym (sum_by-cons (λ (y : DeclaredObject). size s y.ctype) x xs)
