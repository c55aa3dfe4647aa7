-- What contracts see of functions that were declared.
use Rattle.std.specs.Prelude.{◌≡◌, ℕ, ◌<◌, not, List, length, map, reverse, take, get_or}
use Rattle.typed_tree.specs.Scopes.{KnownFunction, differs, was_defined}
use Rattle.typing_rules.specs.layer.Views.{view_signature}
use Rattle.upc_checker_scopes.specs.declared.functions.KnownFunction as known_function

-- The function that was declared, as the code holds it.
abbrev pub view_function : known_function.KnownFunction → KnownFunction
view_function x = record { name = x.name; signature = view_signature x.signature; is_defined = x.is_defined }

-- The names of functions that the code holds, by number and in order.
abbrev pub names_of : List known_function.KnownFunction → List ℕ
names_of xs = map (λ (x : KnownFunction). x.name) (map view_function xs)

-- What the code holds with a function of those declared before it is true: whether they agree with it, and whether one
-- of them defined it.
abbrev pub IsNoted : List KnownFunction → known_function.KnownFunction → Type 0
IsNoted older x =
    (x.agrees ≡ not (differs x.name (view_signature x.signature) older)) × (x.defined_before ≡ was_defined x.name older)

-- With each of these functions the code holds what is true of those declared before it.
abbrev pub AreNoted : List known_function.KnownFunction → Type 0
AreNoted xs =
    (place : ℕ) (d : known_function.KnownFunction) → place < length xs →
    IsNoted (reverse (take place (map view_function xs))) (get_or xs place d)
