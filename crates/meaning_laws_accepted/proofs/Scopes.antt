-- What the names of a scope stand for.
use Rattle.std.proofs.Common.{◌≡◌, ℕ, nat_eq, Bool, true, false, not, ◌&&◌, if◌then◌else◌, List, [], ◌∷◌, Option}
use Rattle.std.proofs.Common.{Some}
use Rattle.std.proofs.Common.{None, sym}
use Rattle.std.proofs.lemmas.Bool.{false≢true}
use Rattle.upc_values.specs.declared.library.LibraryCall.{LibraryCall}
use Rattle.upc_values.specs.Lists.{Each}
use Rattle.upc_types.specs.Types.{CType, block_of}
use Rattle.typing_rules.specs.declared.library.LibraryConstant.{LibraryConstant}
use Rattle.typing_rules.specs.declared.setting.Home.{Home}
use Rattle.typing_rules.specs.declared.setting.Home.TheVariants as home
use Rattle.typing_rules.specs.Library.{call_named, constant_named}
use Rattle.typing_rules.specs.Values.{is_nested, is_struct, is_shared, present}
use Rattle.typing_rules.specs.Meanings as m
use Rattle.typing_rules.specs.Meanings.{Meaning, Signature}
use Rattle.typed_tree.specs.Scopes.{Setting, Env, Scope, Outer, NoScope, Within, Entry, find, find_outside, find_in}
use Rattle.typed_tree.specs.Scopes.{found_or, or_library, library_call, meaning, spelling, is_file}
use Rattle.typed_tree.specs.Scopes.{with_entry, with_count, next_home, declare, declare_unnamed}
use Rattle.upc_checker.specs.Units.{with_outer_entry}
use Rattle.meaning_laws.specs.layer.Formed.{LiesBy}
use Rattle.meaning_laws_accepted.proofs.Types.{IsSoundType}

-- What a function gives is a value, and what it takes are objects.
pub record IsSignature (s : Signature) : Type 0 where
  pub result : IsSoundType s.result
  pub rows : is_nested s.result ≡ false
  pub struct : is_struct s.result ≡ false
  pub parameters : Each IsSoundType s.parameters

-- An object lies where its type says, and what a function gives and takes is formed.
abbrev pub StandsFormed : Meaning → Type 0
StandsFormed (m.Object t place) = IsSoundType t × LiesBy place (block_of t)
StandsFormed (m.Function s) = IsSignature s
StandsFormed x = Unit {0}

-- The names of a scope, and of those around it, stand for what is formed.
abbrev mutual
  pub Knows : Env → Type 0
  Knows (Scope level top counts outer) = Each (λ (e : Entry). StandsFormed e.means) top × KnowsOuter outer

  pub KnowsOuter : Outer → Type 0
  KnowsOuter NoScope = Unit {0}
  KnowsOuter (Within Γ) = Knows Γ

either_stands : (b : Bool) (x y : Meaning) → StandsFormed x → StandsFormed y → StandsFormed (found_or b x y)
either_stands true x y h i = h
either_stands false x y h i = i

top_stands : (name : ℕ) (top : List Entry) (rest : Meaning) → Each (λ (e : Entry). StandsFormed e.means) top
    → StandsFormed rest → StandsFormed (find_in name top rest)
top_stands name [] rest h i = i
top_stands name (e ∷ es) rest h i =
    either_stands (nat_eq e.name name) e.means (find_in name es rest) h.0 (top_stands name es rest h.1 i)

mutual
  find_stands : (name : ℕ) (Γ : Env) → Knows Γ → StandsFormed (find name Γ)
  find_stands name (Scope level top counts outer) h =
      top_stands name top (find_outside name outer) h.0 (outside_stands name outer h.1)

  outside_stands : (name : ℕ) (outer : Outer) → KnowsOuter outer → StandsFormed (find_outside name outer)
  outside_stands name NoScope h = tt
  outside_stands name (Within Γ) h = find_stands name Γ h

library_stands : (call : Option LibraryCall) (c : Option LibraryConstant) → StandsFormed (library_call call c)
library_stands None None = tt
library_stands None (Some c) = tt
library_stands (Some call) c = tt

or_stands : (x : Meaning) (text : List ℕ) → StandsFormed x → StandsFormed (or_library x text)
or_stands m.Unknown text h = library_stands (call_named text) (constant_named text)
or_stands (m.Object t place) text h = h
or_stands (m.Function s) text h = h
or_stands (m.Library call) text h = h
or_stands (m.Named c) text h = h

-- What a name stands for.
pub stands : (ξ : Setting) (Γ : Env) (name : ℕ) → Knows Γ → StandsFormed (meaning ξ Γ name)
stands ξ Γ name h = or_stands (find name Γ) (spelling ξ name) (find_stands name Γ h)

-- ---- declarations

pub entry_knows : (Γ : Env) (name : ℕ) (x : Meaning) → StandsFormed x → Knows Γ → Knows (with_entry name x Γ)
entry_knows (Scope level top counts outer) name x h k = ((h, k.0), k.1)

pub count_knows : (Γ : Env) (place : Home) → Knows Γ → Knows (with_count place Γ)
count_knows (Scope level top counts outer) place k = k

-- The function of a definition is in scope around its parameters.
pub outer_knows : (Γ : Env) (name : ℕ) (s : Signature) → IsSignature s → Knows Γ → Knows (with_outer_entry name s Γ)
outer_knows (Scope level top counts NoScope) name s h k = k
outer_knows (Scope level top counts (Within Γ)) name s h k = (k.0, entry_knows Γ name (m.Function s) h k.1)

lies_by : (file : Bool) (block : Option ℕ) (i j l : ℕ) → (present block && not file) ≡ false
    → LiesBy (if file then (if present block then home.Shared i else home.Private j) else home.Local l) block
lies_by true None i j l h = tt
lies_by true (Some block) i j l h = tt
lies_by false None i j l h = tt
lies_by false (Some block) i j l h = absurd (false≢true (sym h))

-- A declared object lies where its type says.
pub lies : (Γ : Env) (t : CType) → (is_shared t && not (is_file Γ)) ≡ false → LiesBy (next_home t Γ) (block_of t)
lies Γ t h = lies_by (is_file Γ) (block_of t) _ _ _ h

pub declare_knows : (Γ : Env) (name : ℕ) (t : CType) → IsSoundType t → (is_shared t && not (is_file Γ)) ≡ false
    → Knows Γ → Knows (declare name t Γ)
declare_knows Γ name t h l k =
    let place = next_home t Γ in
    count_knows (with_entry name (m.Object t place) Γ) place
    (entry_knows Γ name (m.Object t place) (h, lies Γ t l) k)

pub unnamed_knows : (Γ : Env) (t : CType) → Knows Γ → Knows (declare_unnamed t Γ)
unnamed_knows Γ t k = count_knows Γ (next_home t Γ) k
