use Rattle.std.proofs.Common.{◌≡◌, ◌≤◌, ◌++◌, map, sym, ap, ◌∙◌, subst}
use Rattle.upc_values.specs.Openings.{IsOpening}
use Rattle.upc_types.specs.Types.{Structs}
use Rattle.upc_types.specs.View.{view}
use Rattle.upc_types.specs.ViewStructs.{view_structs}
use Rattle.typed_tree.specs.Beginnings.{Beginning, begun, beginning_of, opening_in, view_beginning}
use Rattle.typed_tree.specs.Objects.{bytes_in, shared_in, type_of}
use Rattle.typed_tree.specs.layer.PrivateOpenings.{HavePrivateValues}
use Rattle.typed_tree.specs.ViewStatements.{view_object}
use Rattle.typed_tree_opening.proofs.Chosen.{objects_kept, types_kept}
use Rattle.typed_tree_opening.proofs.Opened.{opening_is, private_values_are, if_ok_grow}
use Rattle.typed_tree_opening.proofs.beginning.open.Goals as goal

pub begun-requires-clause-layouts : goal.begun-requires-clause-layouts
begun-requires-clause-layouts c =
    let objects = map view_object c.args.objects.now in
    let noted = map type_of objects ++ map view c.args.allocated.now ++ map view c.args.inside.now in
    objects_kept (view_structs c.args.structs) (view_structs c.prepare.new.structs) noted objects
    c.in_ok-prepare.ensures c.requires.layouts

pub begun-requires-clause-allocated : goal.begun-requires-clause-allocated
begun-requires-clause-allocated c =
    let types = map view c.args.allocated.now in
    let noted = map type_of (map view_object c.args.objects.now) ++ types ++ map view c.args.inside.now in
    types_kept (view_structs c.args.structs) (view_structs c.prepare.new.structs) noted types
    c.in_ok-prepare.ensures c.requires.allocated

pub begun-requires-clause-bytes : goal.begun-requires-clause-bytes
begun-requires-clause-bytes c =
    subst (λ (z : Structs). bytes_in z (shared_in (map view_object c.args.objects.now)) ≤ 16777216)
    (sym c.in_ok-prepare.ensures) c.requires.bytes

pub returns-clause-value : goal.returns-clause-value
returns-clause-value c =
    let objects = map view_object c.args.objects.now in
    let types = map view c.args.allocated.now in
    let n = view_structs c.prepare.new.structs in
    if_ok_grow (λ b. view_beginning b ≡ begun c.args.threads n objects types)
    (λ b. view_beginning b
    ≡ beginning_of c.args.threads (view_structs c.args.structs) objects types (map view c.args.inside.now))
    c.begun.result
    (λ b q. q ∙ ap (λ (z : Structs). begun c.args.threads z objects types) c.in_ok-prepare.ensures)
    c.begun.ensures

pub returns-clause-opening : goal.returns-clause-opening
returns-clause-opening c =
    let s = view_structs c.args.structs in
    let n = view_structs c.prepare.new.structs in
    let objects = map view_object c.args.objects.now in
    let types = map view c.args.allocated.now in
    let noted = map type_of objects ++ types ++ map view c.args.inside.now in
    let e = c.in_ok-prepare.ensures in
    let laid = objects_kept s n noted objects e c.requires.layouts in
    let typed = types_kept s n noted types e c.requires.allocated in
    let bytes = subst (λ (z : Structs). bytes_in z (shared_in objects) ≤ 16777216) (sym e) c.requires.bytes in
    let fine = c.prepare.new.structs.kept.fine in
    let opening = opening_is c.args.threads n objects types fine c.requires.least c.requires.most laid typed bytes in
    if_ok_grow (λ b. view_beginning b ≡ begun c.args.threads n objects types)
    (λ b. IsOpening (opening_in c.args.threads (view_beginning b))) c.begun.result
    (λ b q. subst (λ (y : Beginning). IsOpening (opening_in c.args.threads y)) (sym q) opening) c.begun.ensures

pub returns-clause-private : goal.returns-clause-private
returns-clause-private c =
    let n = view_structs c.prepare.new.structs in
    let objects = map view_object c.args.objects.now in
    let types = map view c.args.allocated.now in
    let noted = map type_of objects ++ types ++ map view c.args.inside.now in
    let laid = objects_kept (view_structs c.args.structs) n noted objects c.in_ok-prepare.ensures
    c.requires.layouts in
    let opening = private_values_are c.args.threads n objects types c.prepare.new.structs.kept.fine laid in
    if_ok_grow (λ b. view_beginning b ≡ begun c.args.threads n objects types)
    (λ b. HavePrivateValues c.args.threads (view_beginning b)) c.begun.result
    (λ b q. subst (λ (y : Beginning). HavePrivateValues c.args.threads y) (sym q) opening) c.begun.ensures
