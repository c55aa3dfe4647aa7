-- Lists that are walked part by part, forwards.
use Rattle.std.proofs.Common.{◌≡◌, ℕ, ◌+◌, ◌<◌, List, [], ◌∷◌, ◌++◌, length, map, drop, get_or, refl, sym, ap, ◌∙◌}
use Rattle.std.proofs.Common.{append_assoc}
use Rattle.std.proofs.lemmas.List.{append-nil, map-append}
use Rattle.block_layout.specs.declared.kind.Shape.{Shape}
use Rattle.upc_values.proofs.Membership.{left_from}
use Rattle.upc_types.specs.declared.ctype.CType as c
use Rattle.upc_types.specs.Types.{Structs}
use Rattle.upc_types.specs.View.{view}
use Rattle.typed_tree.specs.declared.tree.Object as o
use Rattle.typed_tree.specs.declared.tree.Item as m
use Rattle.typed_tree.specs.Tree.{DeclaredObject, NoItems}
use Rattle.typed_tree.specs.ViewStatements.{view_object, view_item, view_items}
use Rattle.source_meaning.specs.Types.{shape_of}
use Rattle.source_meaning.specs.Running.{Running}
use Rattle.source_meaning.specs.Statements.{shapes_of, objects_in}

module _ {X Y : Type 0} (g : List X → List Y) (one : X → List Y)
    (more_is : (x : X) (xs : List X) → g (x ∷ xs) ≡ one x ++ g xs) where
  pub part_step : (xs : List X) (i : ℕ) (x : X) (new old : List Y) → i < length xs → x ≡ get_or xs i x →
      new ≡ old ++ one x → new ++ g (drop (i + 1) xs) ≡ old ++ g (drop i xs)
  part_step xs i x new old l e h =
      let rest = g (drop (i + 1) xs) in
      ap (λ (ys : List Y). ys ++ rest) h
      ∙ append_assoc old (one x) rest
      ∙ ap (λ (ys : List Y). old ++ ys) (sym (more_is x (drop (i + 1) xs)) ∙ sym (ap g (left_from xs i x l e)))

pub type_step : (s : Structs) (xs : List c.CType) (i : ℕ) (x : c.CType) (new old : List Shape) → i < length xs →
    x ≡ get_or xs i x → new ≡ old ++ (shape_of s (view x) ∷ []) →
    new ++ map (shape_of s) (map view (drop (i + 1) xs)) ≡ old ++ map (shape_of s) (map view (drop i xs))
type_step s =
    part_step (λ xs. map (shape_of s) (map view xs)) (λ x. shape_of s (view x) ∷ []) (λ x xs. refl)

pub object_step : (ρ : Running) (xs : List o.Object) (i : ℕ) (x : o.Object) (new old : List Shape) → i < length xs →
    x ≡ get_or xs i x → new ≡ old ++ (shape_of ρ.structs (view x.ctype) ∷ []) →
    new ++ shapes_of ρ (map view_object (drop (i + 1) xs)) ≡ old ++ shapes_of ρ (map view_object (drop i xs))
object_step ρ =
    part_step (λ xs. shapes_of ρ (map view_object xs)) (λ x. shape_of ρ.structs (view x.ctype) ∷ []) (λ x xs. refl)

pub objects_more : (x : m.Item) (xs : List m.Item) → objects_in (view_items (x ∷ xs))
    ≡ objects_in (view_item x NoItems) ++ objects_in (view_items xs)
objects_more (m.Declare objects) xs =
    ap (λ (ys : List DeclaredObject). ys ++ objects_in (view_items xs))
    (sym (append-nil (map view_object objects.items)))
objects_more (m.Do' p at kind) xs = refl

pub item_step : (ρ : Running) (xs : List m.Item) (i : ℕ) (x : m.Item) (new old : List Shape) → i < length xs →
    x ≡ get_or xs i x → new ≡ old ++ shapes_of ρ (objects_in (view_item x NoItems)) →
    new ++ shapes_of ρ (objects_in (view_items (drop (i + 1) xs)))
    ≡ old ++ shapes_of ρ (objects_in (view_items (drop i xs)))
item_step ρ =
    part_step (λ xs. shapes_of ρ (objects_in (view_items xs))) (λ x. shapes_of ρ (objects_in (view_item x NoItems)))
    (λ x xs. ap (shapes_of ρ) (objects_more x xs)
    ∙ map-append (λ (y : DeclaredObject). shape_of ρ.structs y.ctype) (objects_in (view_item x NoItems))
    (objects_in (view_items xs)))
