-- The table of macros in the code: where their tokens stand among the source's.
use Rattle.std.specs.Prelude.{◌≡◌, ℕ, suc, ◌-◌, ◌<◌, ◌≤◌, List, [], ◌∷◌, ◌++◌, Option, Some, None, option_map, map}
use Rattle.std.specs.Prelude.{length, take, drop, slice_get, slice_index_or}
use Rattle.upc_text.specs.declared.faults.Stop.{Stop}
use Rattle.upc_text.specs.declared.faults.Stop.TheVariants.{Refused, Memory}
use Rattle.upc_lexer.specs.declared.token.Token.{Token}
use Rattle.upc_lexer.specs.declared.token.TokenKind.{TokenKind}
use Rattle.upc_lexer.specs.declared.token.TokenKind.TheVariants.{Name}
use Rattle.upc_macros.specs.declared.table.Body.{Body}
use Rattle.upc_macros.specs.Replacing.{Macros}
use Rattle.upc_macros.specs.Expansion.{Item, given, first_refusal}

-- A token has the number of a name of the source where it is a name.
abbrev pub IsNumbered : ℕ → TokenKind → Type 0
IsNumbered names (Name n) = n < names
IsNumbered names kind = Unit {0}

-- A token lies within so many bytes, and has the number of a name of the source where it is a name.
pub record IsWithin (limit names : ℕ) (t : Token) : Type 0 where
  pub forward : t.start ≤ t.end
  pub within : t.end ≤ limit
  pub numbered : IsNumbered names t.kind

-- Each of these tokens lies within so many bytes, each name among them has the number of a name of the source, and they
-- stand in order.
pub record AreInOrder (limit names : ℕ) (ts : List Token) : Type 0 where
  pub each : (k : ℕ) (d : Token) → k < length ts → IsWithin limit names (slice_index_or ts k d)
  pub order : (j k : ℕ) (d : Token) → j ≤ k → k < length ts
      → (slice_index_or ts j d).start ≤ (slice_index_or ts k d).end

-- The tokens that a macro of the table stands for, among those of the source.
abbrev pub body_tokens : List Token → Body → List Token
body_tokens tokens b = take (b.end - b.begin) (drop b.begin tokens)

-- The macros for which the table of the code stands.
abbrev pub seen : List Token → List (Option Body) → Macros
seen tokens table = map (option_map (body_tokens tokens)) table

-- The tokens that a macro of the table stands for are some of these.
pub record IsBody (tokens : List Token) (b : Body) : Type 0 where
  pub forward : b.begin ≤ b.end
  pub within : b.end ≤ length tokens

-- The tokens that each macro of the table stands for are some of these.
abbrev pub AreBodies : List Token → List (Option Body) → Type 0
AreBodies tokens table = (n : ℕ) (b : Body) → slice_get table n ≡ Some (Some b) → IsBody tokens b

-- How many macros the table has.
abbrev pub macro_count : List (Option Body) → ℕ
macro_count [] = 0
macro_count (None ∷ table) = macro_count table
macro_count (Some b ∷ table) = suc (macro_count table)

-- The items are tokens that pass, and they were put at the end.
pub record Takes (old new : List Token) (its : List Item) : Type 0 where
  pub tokens : List Token
  pub new_is : new ≡ old ++ tokens
  pub items_are : its ≡ map given tokens
  pub passes : first_refusal (length old) its ≡ None

-- The items, which come after so many tokens, have this refusal first, or there was no memory.
abbrev pub StopsIn : ℕ → List Item → Stop → Type 0
StopsIn before its (Refused refusal) = first_refusal before its ≡ Some refusal
StopsIn before its Memory = Unit {0}

-- The token is no name, or a name that is no macro.
abbrev pub NamesNoMacro : List (Option Body) → TokenKind → Type 0
NamesNoMacro table (Name n) = slice_get table n ≡ Some None
NamesNoMacro table kind = Unit {0}

-- The tokens lie within so many bytes, in order.
abbrev pub AreOrdered : ℕ → List Token → Type 0
AreOrdered limit ts = (names : ℕ) × AreInOrder limit names ts
