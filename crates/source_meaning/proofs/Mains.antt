-- The first function of the name main.
use Rattle.std.proofs.Common.{◌≡◌, ℕ, ◌+◌, ◌<◌, ◌≤◌, Bool, true, false, cond, List, length, map, drop}
use Rattle.std.proofs.Common.{get_or, Some, None, ap, ◌∙◌}
use Rattle.std.proofs.lemmas.List.{drop_all}
use Rattle.upc_types.proofs.Members.{next}
use Rattle.typed_tree.specs.declared.tree.Function as f
use Rattle.typed_tree.specs.ViewStatements.{view_function}
use Rattle.source_meaning.specs.Threads.{main_of}
use Rattle.source_meaning.specs.layer.Parts.{is_main}

pub main_found : (xs : List f.Function) (i : ℕ) (x : f.Function) → i < length xs → x ≡ get_or xs i x
    → is_main (view_function x) ≡ true → main_of (map view_function (drop i xs)) ≡ Some (view_function x)
main_found xs i x l e h =
    let more = map view_function (drop (i + 1) xs) in
    ap main_of (next view_function xs i x l e)
    ∙ ap (λ (b : Bool). cond b (Some (view_function x)) (main_of more)) h

pub main_behind : (xs : List f.Function) (i : ℕ) (x : f.Function) → i < length xs → x ≡ get_or xs i x
    → is_main (view_function x) ≡ false
    → main_of (map view_function (drop i xs)) ≡ main_of (map view_function (drop (i + 1) xs))
main_behind xs i x l e h =
    let more = map view_function (drop (i + 1) xs) in
    ap main_of (next view_function xs i x l e)
    ∙ ap (λ (b : Bool). cond b (Some (view_function x)) (main_of more)) h

pub main_nowhere : (xs : List f.Function) (i : ℕ) → length xs ≤ i → main_of (map view_function (drop i xs)) ≡ None
main_nowhere xs i h = ap (λ (ys : List f.Function). main_of (map view_function ys)) (drop_all i xs h)
