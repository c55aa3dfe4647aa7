-- Members of structs and parameters of functions, one by one (C99 6.7.2.1, 6.7.5.3).
use Rattle.std.specs.Prelude.{◌≡◌, ℕ, nat_eq, Bool, List, [], ◌∷◌, ◌++◌, Option, Some, None, is_some}
use Rattle.std.specs.BTreeMap.{BTreeMap}
use Rattle.std.specs.List.{list_any}
use Rattle.std.specs.Cmp.Lexicographic.{pointwise}
use Rattle.upc_tree.specs.declared.span.Name.{Name}
use Rattle.upc_types.specs.layer.Named.{at_name}
use Rattle.upc_types.specs.Types.{CType, Member}
use Rattle.typed_tree.specs.Scopes.{Env, declare, declare_unnamed}
use Rattle.upc_checker_types.specs.Shapes.{adjusted}

-- Some member of a struct has this name (C99 6.7.2.1).
abbrev pub has_member : List Member → List ℕ → Bool
has_member members name = list_any (λ x. pointwise nat_eq x.name name) members

-- The map has a number at exactly the names of these members.
abbrev pub AreNamed : {K : Type 0} → BTreeMap K ℕ → (K → List ℕ) → List Member → Type 0
AreNamed numbers bytes members = (name : List ℕ) → is_some (at_name numbers bytes name) ≡ has_member members name

-- The members of a struct with one more at the end, of this name and type (C99 6.7.2.1).
abbrev pub with_member : List Member → List ℕ → CType → List Member
with_member members name t = members ++ (record { name = name; ctype = t } ∷ [])

-- The parameters of a function so far: their types in order, and the scope in which they are declared (C99 6.7.5.3).
pub record Declared : Type 0 where
  pub types : List CType
  pub scope : Env

-- The scope after one more parameter of this type; one without a name is an object all the same (C99 6.2.1, 6.7.5.3).
abbrev pub declare_parameter : Option Name → CType → Env → Env
declare_parameter None t Γ = declare_unnamed t Γ
declare_parameter (Some name) t Γ = declare name.number t Γ

-- The parameters with one more at the end, whose type is adjusted: an array becomes a pointer (C99 6.7.5.3).
abbrev pub with_parameter : Declared → Option Name → CType → Declared
with_parameter before name t =
    record { types = before.types ++ (adjusted t ∷ []); scope = declare_parameter name (adjusted t) before.scope }
