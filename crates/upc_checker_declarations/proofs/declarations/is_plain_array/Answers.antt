use Rattle.std.proofs.Common.{true, false, ◌&&◌, sym, ap, ◌∙◌}
use Rattle.upc_tree.specs.layer.Lists.{dimensions_of, pointers_of}
use Rattle.upc_tree.specs.layer.View.{view_declarator, view_dimension, view_pointer}
use Rattle.upc_tree.proofs.Rows.{object_is}
use Rattle.upc_checker_declarations.specs.Declarations as pure
use Rattle.upc_checker_types.specs.Shapes.{is_none, has_sizes}
use Rattle.upc_checker_declarations.proofs.declarations.is_plain_array.Goals as goal
use Rattle.std.proofs.Common.{map}

pub returns-then-is_none : goal.returns-then-is_none
returns-then-is_none c =
    let v = ap pure.is_plain_array (ap view_declarator c.in-Object.is ∙ object_is c.in-Object.pointers c.in-Object.name c.in-Object.sizes) in
    let n = sym c.if-is_none.true ∙ c.is_none.ensures ∙ ap (λ xs. is_none (pointers_of (map view_pointer xs))) c.as_slice.ensures.value in
    let s = c.has_sizes.ensures ∙ ap (λ xs. has_sizes (dimensions_of (map view_dimension xs))) c.as_slice-then-is_none.ensures.value in
    s ∙ ap (λ b. b && has_sizes (dimensions_of (map view_dimension c.in-Object.sizes.items))) n ∙ sym v

pub returns-else-is_none : goal.returns-else-is_none
returns-else-is_none c =
    let v = ap pure.is_plain_array (ap view_declarator c.in-Object.is ∙ object_is c.in-Object.pointers c.in-Object.name c.in-Object.sizes) in
    let n = sym c.if-is_none.false ∙ c.is_none.ensures ∙ ap (λ xs. is_none (pointers_of (map view_pointer xs))) c.as_slice.ensures.value in
    c.if-is_none.false ∙ ap (λ b. b && has_sizes (dimensions_of (map view_dimension c.in-Object.sizes.items))) n ∙ sym v
