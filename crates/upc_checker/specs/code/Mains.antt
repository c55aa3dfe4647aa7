-- The function main of a program (C99 5.1.2.2.1).
use Rattle.std.specs.Prelude.{◌≡◌, nat_eq, Bool, true, List, [], ◌∷◌, filter, find, Some}
use Rattle.std.specs.Cmp.Lexicographic.{pointwise}
use Rattle.typed_tree.specs.Tree.{Function}
use Rattle.typed_tree.specs.Words.{main_text, is_main_function}

-- Whether a function is named main (C99 5.1.2.2.1).
abbrev pub is_named_main : Function → Bool
is_named_main f = pointwise nat_eq f.name main_text

-- Exactly one of the functions is named main (C99 5.1.2.2.1). It is the one that is found under this name, which the
-- threads call; it has no parameters and gives an int.
pub record HasOneMain (functions : List Function) : Type 0 where
  pub main : Function
  pub only : filter is_named_main functions ≡ main ∷ []
  pub found : find is_named_main functions ≡ Some main
  pub as_main : is_main_function main ≡ true
