-- Files that are found under their names.
use Rattle.std.proofs.Common.{◌≡◌, Bool, true, false, cond, ℕ, List, [], ◌∷◌, ◌++◌, Option, None, Some, IsNone, refl, ◌∙◌, ap}
use Rattle.std.specs.Option.{option_map, option_or}
use Rattle.std.specs.Str.{bytes_eq}
use Rattle.std.proofs.lemmas.List.Folds.{find-append}
use Rattle.std.proofs.lemmas.Slice.Eq.{bytes_eq-Decides}
use Rattle.upc_text.specs.code.Memory.{held_under}

-- what comes after a list in which nothing was found
only_last :
    (found : Option (List ℕ × List ℕ)) (file : List ℕ × List ℕ) (same : Bool) → same ≡ true →
    IsNone (option_map (λ (f : List ℕ × List ℕ). f.1) found) →
    option_map (λ (f : List ℕ × List ℕ). f.1) (option_or found (cond same (Some file) None)) ≡ Some file.1
only_last None file true e absent = refl
only_last None file false e absent = cc
only_last (Some other) file same e absent = cc

-- a file that was added under a new name is found under it
pub held_under_added :
    (files : List (List ℕ × List ℕ)) (name bytes : List ℕ) → IsNone (held_under files name) →
    held_under (files ++ (name, bytes) ∷ []) name ≡ Some bytes
held_under_added files name bytes absent =
    ap (option_map (λ (f : List ℕ × List ℕ). f.1)) (find-append (λ (f : List ℕ × List ℕ). bytes_eq f.0 name) files ((name, bytes) ∷ []))
    ∙ only_last _ (name, bytes) (bytes_eq name name) ((bytes_eq-Decides name name).1 refl) absent
