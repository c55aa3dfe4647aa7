use Rattle.std.proofs.Common.{◌++◌, map, ap, ◌∙◌}
use Rattle.upc_types.specs.View.{view}
use Rattle.upc_types.specs.Types.{Structs}
use Rattle.upc_types.specs.ViewStructs.{view_structs}
use Rattle.typed_tree.specs.Objects.{type_of}
use Rattle.typed_tree.specs.Targets.{with_targets}
use Rattle.typed_tree.specs.ViewStatements.{view_object}
use Rattle.typed_tree_opening.proofs.Pointed.{with_append}
use Rattle.typed_tree_opening.proofs.targets.note_all_types.Goals as goal

pub returns : goal.returns
returns c =
    let s = view_structs c.args.structs.now in
    let objects = map type_of (map view_object c.args.objects.now) in
    let allocated = map view c.args.allocated.now in
    let inside = map view c.args.inside.now in
    let both = c.in_ok-note_types.ensures.noted
    ∙ ap (λ (z : Structs). with_targets z allocated) c.in_ok-note_objects.ensures.noted
    ∙ with_append s objects allocated in
    c.in_ok-note_types-2.ensures.noted ∙ ap (λ (z : Structs). with_targets z inside) both
    ∙ with_append s (objects ++ allocated) inside
