-- The number of the first function of the name main.
use Rattle.std.proofs.Common.{◌≡◌, ℕ, suc, ◌+◌, ◌<◌, ◌≤◌, Bool, true, false, List, length, map, drop}
use Rattle.std.proofs.Common.{get_or, ap, ◌∙◌, arith}
use Rattle.std.proofs.lemmas.List.{drop_all}
use Rattle.upc_types.proofs.Members.{next}
use Rattle.typed_tree.specs.declared.tree.Function as f
use Rattle.typed_tree.specs.ViewStatements.{view_function}
use Rattle.source_meaning.proofs.Mains.{main_found, main_behind, main_nowhere}
use Rattle.source_meaning.specs.layer.Parts.{is_main}
use Rattle.gen_stmt.specs.layer.Programs.{counted, main_number}

pub number_found : (xs : List f.Function) (i : ℕ) (x : f.Function) → i < length xs → x ≡ get_or xs i x
    → is_main (view_function x) ≡ true → main_number (map view_function (drop i xs)) ≡ 0
number_found xs i x l e h =
    let more = map view_function (drop (i + 1) xs) in
    ap main_number (next view_function xs i x l e) ∙ ap (λ (b : Bool). counted b (main_number more)) h

pub number_behind : (xs : List f.Function) (i : ℕ) (x : f.Function) → i < length xs → x ≡ get_or xs i x
    → is_main (view_function x) ≡ false
    → main_number (map view_function (drop i xs)) ≡ main_number (map view_function (drop (i + 1) xs)) + 1
number_behind xs i x l e h =
    let more = map view_function (drop (i + 1) xs) in
    let one : suc (main_number more) ≡ main_number more + 1 = omega arith in
    ap main_number (next view_function xs i x l e) ∙ ap (λ (b : Bool). counted b (main_number more)) h ∙ one

pub number_nowhere : (xs : List f.Function) (i : ℕ) → length xs ≤ i → main_number (map view_function (drop i xs)) ≡ 0
number_nowhere xs i h = ap (λ (ys : List f.Function). main_number (map view_function ys)) (drop_all i xs h)

pub ruleset first_main =
    (main_found, main_behind, main_nowhere, number_found, number_behind, number_nowhere)
