-- Tags, structs and functions that are known, and which names are declared again (C99 6.2.1, 6.2.3, 6.7).
use Rattle.std.specs.Prelude.{ℕ, nat_eq, Bool, true, false, ◌||◌, if◌then◌else◌, List, [], ◌∷◌, length, Option, Some}
use Rattle.std.specs.Prelude.{None}
use Rattle.std.specs.Cmp.Lexicographic.{pointwise}
use Rattle.upc_text.specs.declared.place.Place.{Place}
use Rattle.upc_tree.specs.declared.span.Name.{Name}
use Rattle.upc_types.specs.Types.{Member}
use Rattle.upc_types.specs.declared.layout.Layout.{Layout as StructLayout}
use Rattle.upc_types.specs.Layout.{members_within, complete_in}
use Rattle.typed_tree.specs.Scopes.{Setting, spelling, Env, is_taken, is_known, here, level_of, State, find_tag}
use Rattle.typed_tree.specs.Scopes.{tag_here, with_tag, with_members, is_object, differs, was_defined}
use Rattle.typing_rules.specs.Nodes as nodes
use Rattle.upc_checker_scopes.specs.Walk.{Walk, ◌>>=◌, ◌>>◌, judge, update, look}
use Rattle.typing_rules.specs.Meanings.{Signature}
pub use Rattle.typed_tree.specs.Words.{main_text}

-- Whether a name is `main` (C99 5.1.2.2.1).
abbrev pub is_main : Setting → ℕ → Bool
is_main ξ name = pointwise nat_eq (spelling ξ name) main_text

-- The number of the struct that was found for a tag, or that of the next new struct where none was found (C99 6.7.2.3).
abbrev pub tag_number : Option ℕ → State → ℕ
tag_number None s = s.structs.declared
tag_number (Some number) s = number

-- What is known after a search for a struct: the same where it was found, else with this change.
abbrev pub unless_found : Option ℕ → (State → State) → State → State
unless_found None f s = f s
unless_found (Some number) f s = s

-- The struct that a tag names: in `struct T;` and in a definition that of the scope itself, else the visible one; none
-- where there is none yet (C99 6.7.2.3).
abbrev pub tag_seen : Bool → Env → ℕ → State → Option ℕ
tag_seen alone Γ name s = if alone then tag_here name (level_of Γ) s.tags else find_tag name s.tags

-- The walk over a tag, which gives the number of its struct; where there is none yet, a new one is declared, which is
-- incomplete (C99 6.7.2.3).
abbrev pub refer : Bool → Env → ℕ → Walk ℕ
refer alone Γ name s =
    record {
      seen = [];
      state = unless_found (tag_seen alone Γ name s) (with_tag name (level_of Γ)) s;
      value =
          tag_number (tag_seen alone Γ name s) s;
    }

-- The walk over the tag of a struct that is being defined, which belongs to the scope itself (C99 6.7.2.3).
abbrev pub open_struct : Env → ℕ → Walk ℕ
open_struct Γ name = refer true Γ name

-- Whether the struct with this number is complete (C99 6.2.5).
abbrev pub is_complete_struct : State → ℕ → Bool
is_complete_struct s number = complete_in s.structs.completed number

-- The size of a layout, or more than an object can have where there is no layout.
abbrev pub size_or_more : Option StructLayout → ℕ
size_or_more None = 16777217
size_or_more (Some l) = l.size

-- The size of a struct of these members; more than an object can have where one is incomplete too (C99 6.7.2.1).
abbrev pub members_size : State → List Member → ℕ
members_size s members = size_or_more (members_within s.structs.completed members)

-- The walk over the end of a definition of a struct: its node is finished, and the struct has these members
-- (C99 6.7.2.1).
abbrev pub close_struct : Setting → Place → ℕ → List Member → Walk (Unit {0})
close_struct ξ place number members = do
  s ← look (λ s. s)
  judge ξ place (nodes.Struct (is_complete_struct s number) (length members) (members_size s members))
  update (with_members number members)

-- Whether a declaration declares its name again, if it has one: the name is one of the library, or is declared in the
-- scope itself (C99 6.7).
abbrev pub is_again : Setting → Env → Option Name → Bool
is_again ξ Γ None = false
is_again ξ Γ (Some name) = is_taken ξ name.number || is_known (here name.number Γ)

-- Whether a prototype declares its name again: it is one of the library or of an object of the scope, or it was
-- declared with other types (C99 6.7).
abbrev pub prototype_again : Setting → Env → State → ℕ → Signature → Bool
prototype_again ξ Γ s name signature =
    is_taken ξ name || (is_object (here name Γ) || differs name signature s.functions)

-- Whether a definition declares its name again: it is one of the library or of an object of the scope, or the function
-- was defined (C99 6.9).
abbrev pub definition_again : Setting → Env → State → ℕ → Bool
definition_again ξ Γ s name = is_taken ξ name || (is_object (here name Γ) || was_defined name s.functions)

-- Whether the declaration of an object declares its name again: the name is one of the library, or is declared in the
-- scope itself (C99 6.7).
abbrev pub object_again : Setting → Env → Name → Bool
object_again ξ Γ name = is_taken ξ name.number || is_known (here name.number Γ)
