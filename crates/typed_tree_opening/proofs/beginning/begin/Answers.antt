use Rattle.std.proofs.Common.{◌≡◌, ◌≤◌, List, map, true, sym, ap, ◌∙◌, subst}
use Rattle.upc_values.specs.Lists.{Each}
use Rattle.upc_types.specs.declared.ctype.CType as r
use Rattle.upc_types.specs.Types.{CType, Structs}
use Rattle.upc_types.specs.View.{view}
use Rattle.upc_types.specs.ViewStructs.{view_structs}
use Rattle.typing_rules.specs.Rules.{has_size}
use Rattle.typed_tree.specs.Allocated.{allocated_in}
use Rattle.typed_tree.specs.Beginnings.{Beginning, beginning_of, view_beginning}
use Rattle.typed_tree.specs.LocalObjects.{types_in}
use Rattle.typed_tree.specs.Objects.{bytes_in, private_in, shared_in}
use Rattle.typed_tree.specs.layer.PrivateOpenings.{shape_bytes}
use Rattle.typed_tree.specs.Programs.{checked_of, start_of, without_targets}
use Rattle.typed_tree.specs.ViewStatements.{view_function, view_object}
use Rattle.typed_tree_opening.proofs.Bytes.{bytes_are}
use Rattle.typed_tree_opening.proofs.Opened.{if_ok_grow}
use Rattle.typed_tree_opening.proofs.beginning.begin.Goals as goal

pub open-requires-clause-layouts : goal.open-requires-clause-layouts
open-requires-clause-layouts c =
    subst (λ (z : Structs). Each (λ x. has_size z x.ctype ≡ true) (map view_object c.args.objects.now))
    (sym c.forget_targets.ensures) c.requires.layouts

pub open-requires-clause-bytes : goal.open-requires-clause-bytes
open-requires-clause-bytes c =
    subst (λ (z : Structs). bytes_in z (shared_in (map view_object c.args.objects.now)) ≤ 16777216)
    (sym c.forget_targets.ensures) c.requires.bytes

pub open-requires-clause-allocated : goal.open-requires-clause-allocated
open-requires-clause-allocated c =
    subst (λ (ts : List r.CType). Each (λ t. has_size (view_structs c.forget_targets.new.self) t ≡ true) (map view ts))
    (sym c.as_slice.ensures.value) c.in_ok-allocated.ensures.layouts

pub open-requires-clause-inside : goal.open-requires-clause-inside
open-requires-clause-inside c =
    subst (λ (ts : List r.CType). Each (λ t. has_size (view_structs c.forget_targets.new.self) t ≡ true) (map view ts))
    (sym c.as_slice-2.ensures.value) c.in_ok-inside.ensures.layouts

pub returns-clause-value : goal.returns-clause-value
returns-clause-value c =
    let threads = c.args.threads in
    let n = view_structs c.forget_targets.new.self in
    let objects = map view_object c.args.objects.now in
    let functions = map view_function c.args.functions.now in
    let x = checked_of threads (view_structs c.args.structs) objects functions in
    let allocated = map view c.as_slice.result.now in
    let inside = map view c.as_slice-2.result.now in
    let types = ap (λ (ts : List r.CType). map view ts) c.as_slice.ensures.value ∙ c.in_ok-allocated.ensures.value in
    let others = ap (λ (ts : List r.CType). map view ts) c.as_slice-2.ensures.value ∙ c.in_ok-inside.ensures.value in
    let start : beginning_of threads n objects allocated inside ≡ start_of x =
    ap (λ (ts : List CType). beginning_of threads n objects ts inside) types
    ∙ ap (λ (ts : List CType). beginning_of threads n objects (allocated_in n functions) ts) others
    ∙ ap (λ (z : Structs). beginning_of threads z objects (allocated_in z functions) (types_in z functions))
    c.forget_targets.ensures in
    if_ok_grow (λ b. view_beginning b ≡ beginning_of threads n objects allocated inside)
    (λ b. view_beginning b ≡ start_of x) c.open.result (λ b q. q ∙ start) c.open.ensures.value

pub returns-clause-same : goal.returns-clause-same
returns-clause-same c =
    let s = view_structs c.args.structs in
    let n = view_structs c.forget_targets.new.self in
    let objects = map view_object c.args.objects.now in
    let types = map view c.as_slice.result.now in
    let inside = map view c.as_slice-2.result.now in
    if_ok_grow (λ b. view_beginning b ≡ beginning_of c.args.threads n objects types inside)
    (λ b. without_targets (view_structs b.structs) ≡ without_targets s) c.open.result
    (λ b q. ap (λ (y : Beginning). without_targets y.structs) q ∙ ap without_targets c.forget_targets.ensures)
    c.open.ensures.value

pub returns-clause-private_bytes : goal.returns-clause-private_bytes
returns-clause-private_bytes c =
    let s = view_structs c.args.structs in
    let n = view_structs c.forget_targets.new.self in
    let objects = map view_object c.args.objects.now in
    let types = map view c.as_slice.result.now in
    let inside = map view c.as_slice-2.result.now in
    let start = beginning_of c.args.threads n objects types inside in
    if_ok_grow (λ b. view_beginning b ≡ start)
    (λ b. shape_bytes b.private_shapes.items ≡ bytes_in s (private_in objects)) c.open.result
    (λ b q. ap (λ (y : Beginning). shape_bytes y.private_shapes) q
    ∙ (bytes_are start.structs (private_in objects)
    ∙ ap (λ (z : Structs). bytes_in z (private_in objects)) c.forget_targets.ensures)) c.open.ensures.value
