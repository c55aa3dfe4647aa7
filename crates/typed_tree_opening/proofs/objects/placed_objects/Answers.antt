use Rattle.std.proofs.Common.{◌≡◌, ◌+◌, ◌≤◌, ◌++◌, ◌∷◌, [], map, drop, ap, sym, ◌∙◌, subst}
use Rattle.upc_types.specs.View.{view}
use Rattle.upc_types.specs.Layout.{size}
use Rattle.upc_types.specs.ViewStructs.{view_structs}
use Rattle.typed_tree.specs.Elements.{element_shape, with_shape}
use Rattle.typed_tree.specs.layer.Parts.{with_shapes}
use Rattle.typed_tree.specs.Objects.{shared_in, type_of, placed, placed_from, bytes_in}
use Rattle.typed_tree.specs.ViewStatements.{view_object}
use Rattle.typed_tree.specs.declared.beginning.SharedDecl.{SharedDecl}
use Rattle.typed_tree_opening.proofs.Chosen.{shared_next, shared_skip, object_rest}
use Rattle.typed_tree_opening.proofs.Shapes.{shapes_append}
use Rattle.typed_tree_opening.proofs.Placing.{placed_more, bytes_more}
use Rattle.typed_tree_opening.proofs.objects.placed_objects.Goals as goal
use Rattle.typed_tree_opening.proofs.objects.placed_objects.Goals.{then-is_shared+in_ok-placed_next+in_ok-push+in_ok-number}
use Rattle.typed_tree_opening.proofs.objects.placed_objects.Goals.{else-is_shared}

pub loop-object-preserved : goal.loop-object-preserved
loop-object-preserved c =
    let s = view_structs c.args.structs.now in
    let one = element_shape s in
    let xs = c.args.objects.now in
    let i = c.loop-object.object-index in
    let x = c.object-item.result in
    let ys = c.loop-object.shared.items in
    let number = c.loop-object.number in
    let base = c.loop-object.base in
    let rest = shared_in (map view_object (drop (i + 1) xs)) in
    let all = shared_in (map view_object (drop i xs)) in
    let last = with_shapes c.args.shapes.now.list.items (map one (map type_of (shared_in (map view_object xs)))) in
    let layouts = object_rest s xs i x c.loop-object-test.true c.object-item.is c.loop-object.invariant.layouts in
    elim c.if-is_shared.branch [
      | then-is_shared+in_ok-placed_next+in_ok-push+in_ok-number w ↦
          let h = shared_next xs i x c.loop-object-test.true c.object-item.is
          (sym c.is_shared.ensures ∙ w.if-is_shared.true) in
          let new : w.placed_next.new.shapes.list.items ≡ with_shape c.loop-object.shapes.list.items (one (view x.ctype)) =
          w.in_ok-placed_next.ensures.shapes in
          let ending : with_shapes w.placed_next.new.shapes.list.items (map one (map type_of rest)) ≡ last =
          ap (λ l. with_shapes l (map one (map type_of rest))) new
          ∙ ap (λ os. with_shapes c.loop-object.shapes.list.items (map one (map type_of os))) (sym h)
          ∙ c.loop-object.invariant.shapes in
          let f : c.if-is_shared.number ≡ number + 1 = w.number-is ∙ w.in_ok-number.ensures in
          let g : c.if-is_shared.base ≡ base + size s (view x.ctype) = w.base-is
          ∙ ap (λ n. base + n) w.size_of.ensures.value in
          record {
            shapes = rw (ap (λ v. v.list.items) w.shapes-is) ending;
            rest = λ more.
                let shapes = with_shapes last more in
                let object = w.in_ok-placed_next.ensures.object (map one (map type_of rest) ++ more)
                ∙ ap (λ l. placed s l number base (view_object x))
                (shapes_append w.placed_next.new.shapes.list.items (map one (map type_of rest)) more
                ∙ ap (λ l. with_shapes l more) ending) in
                let e : c.if-is_shared.shared.items ≡ ys ++ (placed s shapes number base (view_object x) ∷ []) =
                ap (λ v. v.items) w.shared-is ∙ w.in_ok-push.ensures.items
                ∙ ap (λ (y : SharedDecl). ys ++ (y ∷ [])) object in
                placed_more s shapes number base (view_object x) rest all ys c.if-is_shared.shared.items _
                c.if-is_shared.number c.if-is_shared.base e f g h (c.loop-object.invariant.rest more);
            layouts = layouts;
            bytes =
                bytes_more s base c.if-is_shared.base 16777216
                (view_object x) rest all g h c.loop-object.invariant.bytes;
          }
      | else-is_shared w ↦
          let h = shared_skip xs i x c.loop-object-test.true c.object-item.is
          (sym c.is_shared.ensures ∙ w.if-is_shared.false) in
          record {
            shapes = rw w.shapes-is
                (ap (λ os. with_shapes c.loop-object.shapes.list.items (map one (map type_of os))) (sym h)
                ∙ c.loop-object.invariant.shapes);
            rest = λ more.
                rw (ap (λ v. v.items) w.shared-is, w.number-is, w.base-is)
                (ap (λ os. ys ++ placed_from s (with_shapes last more) number base os) (sym h)
                ∙ c.loop-object.invariant.rest more);
            layouts = layouts;
            bytes = rw w.base-is (subst (λ os. base + bytes_in s os ≤ 16777216) h c.loop-object.invariant.bytes);
          }
    ]
