-- The parameters of functions by their numbers.
use Rattle.std.proofs.Common.{◌≡◌, ℕ, ◌<◌, ◌≤◌, List, [], length, map, sym, ap, ◌∙◌, option_map, Some}
use Rattle.source_meaning.specs.layer.Parts.{parameters_in}
use Rattle.std.specs.Prelude.{slice_get, slice_index_or}
use Rattle.std.proofs.lemmas.Option.{slice_get-get_or, slice_get-map, slice_get_past}
use Rattle.upc_types.specs.View.{view}
use Rattle.typed_tree.specs.declared.tree.Function.{Function}
use Rattle.typed_tree.specs.ViewStatements.{view_function}

-- Those of a function that is there.
pub parameters_at : (fs : List Function) (n : ℕ) (f : Function) → n < length fs → f ≡ slice_index_or fs n f
    → map view f.parameters.items ≡ parameters_in (slice_get (map view_function fs) n)
parameters_at fs n f h e =
    let found = slice_get-get_or fs n f h ∙ ap Some (sym e) in
    sym (ap parameters_in (slice_get-map view_function fs n ∙ ap (option_map view_function) found))

-- One that is not there has none.
pub no_parameters : (fs : List Function) (n : ℕ) → length fs ≤ n
    → [] ≡ parameters_in (slice_get (map view_function fs) n)
no_parameters fs n h =
    let past = slice_get_past fs n h in
    sym (ap parameters_in (slice_get-map view_function fs n ∙ ap (option_map view_function) past))
