-- Scopes of names and of tags (C99 6.2.1, 6.2.3), and what else a walk over a source knows.
use Rattle.std.specs.Prelude.{ℕ, ◌+◌, nat_eq, ◌==◌, Bool, true, false, ◌&&◌, not, if◌then◌else◌, List, [], ◌∷◌}
use Rattle.std.specs.Prelude.{Option, Some, None, slice_get}
use Rattle.std.specs.List.{list_any}
use Rattle.std.specs.Cmp.Lexicographic.{pointwise}
use Rattle.upc_text.specs.declared.place.Place.{Place}
use Rattle.upc_types.specs.Types.{CType, Member, Structs}
use Rattle.upc_types.specs.Same.{same_type}
use Rattle.typing_rules.specs.declared.setting.Home.{Home}
use Rattle.typing_rules.specs.declared.setting.Home.TheVariants.{Private, Shared, Local}
use Rattle.upc_values.specs.declared.library.LibraryCall.{LibraryCall}
use Rattle.typing_rules.specs.declared.library.LibraryConstant.{LibraryConstant}
use Rattle.typing_rules.specs.Library.{call_named, constant_named}
use Rattle.typing_rules.specs.Values.{is_shared, value_type}
use Rattle.typing_rules.specs.Meanings.{Meaning, Unknown, Object, Library, Named, Signature}

-- What is the same for the whole source: its names by number, the number of threads, the names of the functions that it
-- defines, in order, and how many structs, objects, parameters of definitions and functions there may be.
pub record Setting : Type 0 where
  pub names : List (List ℕ)
  pub threads : ℕ
  pub defined : List ℕ
  pub most : ℕ

-- A text, or the empty one where there is none.
abbrev pub text_or_none : Option (List ℕ) → List ℕ
text_or_none None = []
text_or_none (Some text) = text

-- How the name with this number is spelled, byte by byte (C99 6.4.2.1).
abbrev pub spelling : Setting → ℕ → List ℕ
spelling ξ name = text_or_none (slice_get ξ.names name)

-- ---- names

-- A name that is declared in a scope, by its number, and what it stands for there (C99 6.2.1).
pub record Entry : Type 0 where
  pub name : ℕ
  pub means : Meaning

-- How many objects have a number: private objects of the file, shared ones, and those of the function that are in
-- scope.
pub record Counts : Type 0 where
  pub privates : ℕ
  pub shareds : ℕ
  pub locals : ℕ

mutual
  -- A scope: its level, which is 0 for the file, its names in the order of their declarations, the latest first, how
  -- many objects have a number, and what is around it (C99 6.2.1).
  pub data Env : Type 0 where
    Scope : (level : ℕ) (top : List Entry) (counts : Counts) (outer : Outer) → Env

  -- What is around a scope: nothing, as around that of the file, or the next scope outside (C99 6.2.1).
  pub data Outer : Type 0 where
    NoScope : Outer
    Within : (Γ : Env) → Outer

-- The scope of the file before its first declaration (C99 6.2.1).
abbrev pub file : Env
file = Scope 0 [] (record { privates = 0; shareds = 0; locals = 0 }) NoScope

-- The level of a scope: how many scopes are around it.
abbrev pub level_of : Env → ℕ
level_of (Scope level top counts outer) = level

-- Whether a scope is that of the file (C99 6.2.1).
abbrev pub is_file : Env → Bool
is_file Γ = level_of Γ == 0

-- How many objects have a number at this point of a scope.
abbrev pub counts_of : Env → Counts
counts_of (Scope level top counts outer) = counts

-- What a name stands for: what an entry says where it is of this name, else what the others say.
abbrev pub found_or : Bool → Meaning → Meaning → Meaning
found_or true m rest = m
found_or false m rest = rest

-- What a name stands for by its latest entry among these, the latest first; where none is of this name, the other
-- meaning.
abbrev pub find_in : ℕ → List Entry → Meaning → Meaning
find_in name [] other = other
find_in name (e ∷ es) other = found_or (nat_eq e.name name) e.means (find_in name es other)

-- The innermost declaration of a name, in a scope and in those around it (C99 6.2.1).
abbrev mutual
  -- What a name stands for by its innermost declaration in a scope and those around it; unknown where there is none.
  pub find : ℕ → Env → Meaning
  find name (Scope level top counts outer) = find_in name top (find_outside name outer)

  -- What a name stands for by its innermost declaration in the scopes around one; unknown where there is none.
  pub find_outside : ℕ → Outer → Meaning
  find_outside name NoScope = Unknown
  find_outside name (Within Γ) = find name Γ

-- What a name stands for by a declaration of the scope itself; unknown where the scope has none (C99 6.2.1).
abbrev pub here : ℕ → Env → Meaning
here name (Scope level top counts outer) = find_in name top Unknown

-- What a name stands for in the library where it is no call: a constant, if it is one, else unknown.
abbrev pub library_constant : Option LibraryConstant → Meaning
library_constant None = Unknown
library_constant (Some c) = Named c

-- What a name stands for in the library, by the call and the constant of this name, if there are such; else unknown.
abbrev pub library_call : Option LibraryCall → Option LibraryConstant → Meaning
library_call None c = library_constant c
library_call (Some call) c = Library call

-- What a name with this spelling stands for where no declaration of it is in scope: a call or a constant of the
-- library, or unknown (C99 7.19.6.3, UPC 7).
abbrev pub in_library : List ℕ → Meaning
in_library text = library_call (call_named text) (constant_named text)

-- What a name with this spelling stands for: what a declaration in scope says, else what the library says.
abbrev pub or_library : Meaning → List ℕ → Meaning
or_library Unknown text = in_library text
or_library m text = m

-- What a name stands for: what its innermost declaration says, and where none is in scope, what the library says
-- (C99 6.2.1, 6.2.3).
abbrev pub meaning : Setting → Env → ℕ → Meaning
meaning ξ Γ name = or_library (find name Γ) (spelling ξ name)

-- Whether a name stands for anything.
abbrev pub is_known : Meaning → Bool
is_known Unknown = false
is_known m = true

-- Whether a name stands for an object.
abbrev pub is_object : Meaning → Bool
is_object (Object t home) = true
is_object m = false

-- Whether a name is one of the library, which no object, function or parameter may bear (typing rule 2).
abbrev pub is_taken : Setting → ℕ → Bool
is_taken ξ name = is_known (in_library (spelling ξ name))

-- A scope after one more declaration, by which this name stands for this (C99 6.2.1).
abbrev pub with_entry : ℕ → Meaning → Env → Env
with_entry name means (Scope level top counts outer) =
    Scope level (record { name = name; means = means } ∷ top) counts outer

-- Where the next object of this type lies that a scope declares: at file scope with the next number of a shared or a
-- private object, in a function with the next number of its objects in scope.
abbrev pub next_home : CType → Env → Home
next_home t Γ =
    if is_file Γ
    then (if is_shared t then Shared ((counts_of Γ).shareds + 1) else Private (counts_of Γ).privates)
    else Local (counts_of Γ).locals

-- How many objects have a number after one more that lies there.
abbrev pub counted : Home → Counts → Counts
counted (Private object) c = record c { privates = c.privates + 1 }
counted (Shared object) c = record c { shareds = c.shareds + 1 }
counted (Local object) c = record c { locals = c.locals + 1 }

-- A scope in which one more object has a number, that which lies there.
abbrev pub with_count : Home → Env → Env
with_count home (Scope level top counts outer) = Scope level top (counted home counts) outer

-- A scope after it declared an object of this name and type, which lies in the next place for one (C99 6.2.1).
abbrev pub declare : ℕ → CType → Env → Env
declare name t Γ = with_count (next_home t Γ) (with_entry name (Object t (next_home t Γ)) Γ)

-- A scope after an object without a name, as a parameter may be, took the next place for one of its type.
abbrev pub declare_unnamed : CType → Env → Env
declare_unnamed t Γ = with_count (next_home t Γ) Γ

-- A scope directly inside another, before its first declaration (C99 6.2.1).
abbrev pub inside : Env → Env
inside Γ = Scope (level_of Γ + 1) [] (counts_of Γ) (Within Γ)

-- ---- tags, structs and functions

-- A tag of a struct: its name, the level of its scope, and the number of the struct (C99 6.2.3, 6.7.2.3).
pub record Tag : Type 0 where
  pub name : ℕ
  pub level : ℕ
  pub number : ℕ

-- A declaration of a function: its name, its types, and whether it is the definition (C99 6.7, 6.9.1).
pub record KnownFunction : Type 0 where
  pub name : ℕ
  pub signature : Signature
  pub is_defined : Bool

-- What grows on the way through a source: the tags in scope, the latest first, the structs, the declarations of
-- functions so far, how many objects, parameters of definitions and functions have come, and the first declaration up
-- to whose end there are more than there may be.
pub record State : Type 0 where
  pub tags : List Tag
  pub structs : Structs
  pub functions : List KnownFunction
  pub come : ℕ
  pub above : Option Place

-- What is known before the first declaration of a source: no tag, no struct, and no function.
abbrev pub begin : State
begin =
    let structs : Structs = record { declared = 0; completed = []; targets = [] } in
    record { tags = []; structs = structs; functions = []; come = 0; above = None }

-- The number of the struct that a tag names, by its innermost declaration; none where it is not in scope (C99 6.7.2.3).
abbrev pub find_tag : ℕ → List Tag → Option ℕ
find_tag name [] = None
find_tag name (t ∷ ts) = if nat_eq t.name name then Some t.number else find_tag name ts

-- The number of the struct that a tag names by a declaration in the scope of this level itself; none where there is
-- none (C99 6.7.2.3).
abbrev pub tag_here : ℕ → ℕ → List Tag → Option ℕ
tag_here name level [] = None
tag_here name level (t ∷ ts) =
    if nat_eq t.name name && nat_eq t.level level then Some t.number else tag_here name level ts

-- What is known after a tag in the scope of this level names one more struct, which is incomplete (C99 6.7.2.3).
abbrev pub with_tag : ℕ → ℕ → State → State
with_tag name level s = record s {
  tags = record { name = name; level = level; number = s.structs.declared } ∷ s.tags;
  structs = record { declared = s.structs.declared + 1; completed = s.structs.completed; targets = s.structs.targets };
}

-- What is known after the struct with this number is completed with these members (C99 6.7.2.3).
abbrev pub with_members : ℕ → List Member → State → State
with_members number members s = record s {
  structs = record {
    declared = s.structs.declared;
    completed = record { number = number; members = members } ∷ s.structs.completed;
    targets = s.structs.targets;
  };
}

-- What is known after one more declaration of a function, which may be its definition (C99 6.7, 6.9.1).
abbrev pub with_function : ℕ → Signature → Bool → State → State
with_function name signature is_defined s =
    record s { functions = record { name = name; signature = signature; is_defined = is_defined } ∷ s.functions }

-- Whether two lists of parameters have the same types, but for qualifiers of the parameters themselves (C99 6.7.5.3).
abbrev pub same_types : List CType → List CType → Bool
same_types xs ys = pointwise (λ a b. same_type (value_type a) (value_type b)) xs ys

-- Whether two declarations give a function the same types, but for qualifiers of the parameters themselves
-- (C99 6.7.5.3).
abbrev pub same_signature : Signature → Signature → Bool
same_signature s t = same_type s.result t.result && same_types s.parameters t.parameters

-- Whether one of these declarations gives the function of this name other types (C99 6.7, 6.7.5.3).
abbrev pub differs : ℕ → Signature → List KnownFunction → Bool
differs name signature functions =
    list_any (λ f. nat_eq f.name name && not (same_signature f.signature signature)) functions

-- Whether one of these declarations is the definition of the function of this name (C99 6.9).
abbrev pub was_defined : ℕ → List KnownFunction → Bool
was_defined name functions = list_any (λ f. nat_eq f.name name && f.is_defined) functions
