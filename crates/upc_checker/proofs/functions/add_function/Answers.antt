use Rattle.std.proofs.Common.{ℕ, List, [], ◌∷◌, ◌++◌, map, ap, ◌∙◌}
use Rattle.std.proofs.lemmas.List.{map-append}
use Rattle.upc_types.specs.View.{view}
use Rattle.typed_tree.specs.Tree as k
use Rattle.typed_tree.specs.ViewStatements.{view_function, view_statement}
use Rattle.upc_checker.proofs.functions.add_function.Goals as goal

pub returns : goal.returns
returns c =
    let one = λ (t : List ℕ).
    let y : k.Function = record { at = c.args.place; name = t; result = view c.args.gives; parameters = map view c.args.parameters.items; body = view_statement c.args.body.value } in
    y in
    let before = map view_function c.args.functions.now.items in
    ap (map view_function) c.in_ok-push.ensures.items ∙ map-append view_function c.args.functions.now.items _ ∙ ap (λ t. before ++ (one t ∷ [])) (c.in_ok-name.ensures ∙ c.spelling.ensures)
