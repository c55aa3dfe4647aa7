-- The answer on a whole source.
use Rattle.std.specs.Prelude.{◌≡◌, ℕ, nat_lt, if◌then◌else◌, List, [], ◌∷◌, length, Result, Ok, Err, ◌⊎◌}
use Rattle.upc_lexer.specs.declared.token.Token.{Token}
use Rattle.upc_text.specs.declared.place.Place.{Place}
use Rattle.upc_text.specs.declared.place.Code.{Code}
use Rattle.upc_text.specs.declared.place.Code.TheVariants as code_variant
use Rattle.upc_text.specs.declared.place.Refusal.{Refusal}
use Rattle.upc_text.specs.declared.faults.Stop.{Stop}
use Rattle.upc_text.specs.declared.faults.Stop.TheVariants as stop
use Rattle.upc_tree.specs.declared.unit.Unit as units
use Rattle.upc_tree.specs.Unit.{External, height_limit}
use Rattle.upc_tree.specs.layer.ViewStatement.{view_unit}
use Rattle.upc_parser_ground.specs.declared.cursor.Fault.{Fault}
use Rattle.upc_parser_ground.specs.declared.cursor.Fault.TheVariants.{NoTree, TooHigh}
use Rattle.upc_parser_ground.specs.layer.Outcome.{Outcome}
use Rattle.upc_parser_sources.specs.layer.Parse.{unit_at}

-- Why there is no tree, where no tree of fewer than 256 tokens is too high.
abbrev pub settled_fault : ℕ → Fault → Fault
settled_fault len NoTree = NoTree
settled_fault len TooHigh = if nat_lt len 256 then NoTree else TooHigh

-- A tree is an answer where no token is left.
abbrev pub settle : {A : Type 0} → ℕ → Outcome A → Result A Fault
settle len (Ok (u, [])) = Ok u
settle len (Ok (u, x ∷ rest)) = Err NoTree
settle len (Err f) = Err (settled_fault len f)

-- The tree of a whole source of at most 256 levels that the parser finds, or why it finds none (C99 6.9).
unfoldable pub answer : List Token → Result (List External) Fault
answer tokens = settle (length tokens) (unit_at height_limit tokens)

-- The code of a refusal: syntax where no tree has the tokens, and limit 3 where each such tree is too high.
abbrev pub code_of : Fault → Code
code_of NoTree = code_variant.Syntax
code_of TooHigh = code_variant.Limit 3

-- The place of one of the tokens.
abbrev pub Among : List Token → Place → Type 0
Among [] place = ⊥
Among (x ∷ more) place = (place ≡ x.place) ⊎ Among more place

-- The place of one of the tokens, or 1:1 where there is none.
abbrev pub HasPlace : List Token → Place → Type 0
HasPlace [] place = place ≡ record { line = 1; column = 1 }
HasPlace (x ∷ more) place = Among (x ∷ more) place

-- A refusal of these tokens for this cause has its code, and the place of a token, or 1:1 where there is none.
pub record IsRefusal (tokens : List Token) (fault : Fault) (r : Refusal) : Type 0 where
  pub code : r.code ≡ code_of fault
  pub place : HasPlace tokens r.place

-- The parser ends with this outcome: with its tree, or with a refusal for its cause, unless memory runs out.
abbrev pub Ends : List Token → Result units.Unit Stop → Result (List External) Fault → Type 0
Ends tokens (Ok x) o = o ≡ Ok (view_unit x)
Ends tokens (Err stop.Memory) o = Unit {0}
Ends tokens (Err (stop.Refused r)) o = (f : Fault) × (o ≡ Err f) × IsRefusal tokens f r

-- ---- what `parse` promises

-- This tree is the answer, unless memory runs out.
abbrev pub Answers : List External → Result units.Unit Stop → Type 0
Answers u (Ok x) = view_unit x ≡ u
Answers u (Err stop.Memory) = Unit {0}
Answers u (Err (stop.Refused r)) = ⊥

-- The tokens are refused with this code.
abbrev pub RefusedBy : Code → Result units.Unit Stop → Type 0
RefusedBy code (Ok x) = ⊥
RefusedBy code (Err stop.Memory) = ⊥
RefusedBy code (Err (stop.Refused r)) = r.code ≡ code

-- A refusal is one of the syntax or of the height, at the place of a token, or at 1:1 where there is none.
abbrev pub OnlyRefused : List Token → Result units.Unit Stop → Type 0
OnlyRefused tokens (Ok x) = Unit {0}
OnlyRefused tokens (Err stop.Memory) = Unit {0}
OnlyRefused tokens (Err (stop.Refused r)) = ((r.code ≡ code_variant.Syntax) ⊎ (r.code ≡ code_variant.Limit 3))
    × HasPlace tokens r.place
