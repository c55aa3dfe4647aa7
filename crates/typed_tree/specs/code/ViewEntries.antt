-- What contracts see of the names of a scope.
use Rattle.std.specs.Prelude.{◌≡◌, ℕ, nat_eq, Bool, true, false, List, [], ◌∷◌, length, map, reverse, Option, Some}
use Rattle.std.specs.Prelude.{None}
use Rattle.std.specs.HashMap.{get, HashMap}
use Rattle.upc_types.specs.View.{view}
use Rattle.typed_tree.specs.declared.scope.Declared.{Declared}
use Rattle.typed_tree.specs.declared.scope.Declared.TheVariants as declared_variant
use Rattle.typed_tree.specs.declared.scope.Entry as entries
use Rattle.typing_rules.specs.Meanings as meaning
use Rattle.typed_tree.specs.Scopes.{Entry}
use Rattle.typing_rules.specs.layer.Views.{view_signature}

-- What a declaration of the code makes of a name, seen without where it lies in memory.
abbrev pub view_declared : Declared → meaning.Meaning
view_declared (declared_variant.Object t home) = meaning.Object (view t) home
view_declared (declared_variant.Function signature) = meaning.Function (view_signature signature)

-- A name that is declared in a scope of the code, with what it stands for, seen without where it lies in memory.
abbrev pub view_entry : entries.Entry → Entry
view_entry x = record { name = x.name; means = view_declared x.means }

-- The names that are declared in a scope of the code, the latest first, seen without where they lie in memory.
abbrev pub view_entries : List entries.Entry → List Entry
view_entries xs = reverse (map view_entry xs)

-- The place of an entry where it is of the name that is looked for, else that of an older one, if there is one.
abbrev pub latest : Bool → ℕ → Option ℕ → Option ℕ
latest true place older = Some place
latest false place older = older

-- The place of the latest entry of a name, in the order of their declarations, from 0; none where there is no such
-- entry.
abbrev pub place_in : ℕ → List Entry → Option ℕ
place_in name [] = None
place_in name (x ∷ older) = latest (nat_eq x.name name) (length older) (place_in name older)

-- The map finds the place of the latest entry of each name.
abbrev pub IsIndexed : {S : Type 0} → HashMap ℕ ℕ S → List Entry → Type 0
IsIndexed m es = (q : ℕ) → get nat_eq m q ≡ place_in q es
