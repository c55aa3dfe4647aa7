-- What is still to be put out while macros lie in one another.
use Rattle.std.specs.Prelude.{◌≡◌, ℕ, suc, ◌-◌, ◌+◌, ◌<◌, ◌≤◌, List, [], ◌∷◌, ◌++◌, Option, Some, None, map, length}
use Rattle.std.specs.Prelude.{take, drop, slice_set, flat_map}
use Rattle.upc_text.specs.declared.place.Place.{Place}
use Rattle.upc_lexer.specs.declared.token.Token.{Token}
use Rattle.upc_macros.specs.declared.table.Body.{Body}
use Rattle.upc_macros.specs.declared.walk.Frame.{Frame}
use Rattle.upc_macros.specs.Replacing.{placed, replaced}
use Rattle.upc_macros.specs.Expansion.{Item, given, first_refusal}
use Rattle.upc_macros.specs.code.Table.{seen, IsBody, AreBodies, macro_count}

-- Tokens as items of the expansion at a place.
abbrev pub placed_items : Place → List Token → List Item
placed_items place ts = map (λ t. given (placed place t)) ts

-- The tokens of a macro that are still to be replaced.
abbrev pub rest_of : List Token → Frame → List Token
rest_of tokens f = take (f.body.end - f.next) (drop f.next tokens)

-- The table with a macro that was taken out of it.
abbrev pub put_back : List (Option Body) → Frame → List (Option Body)
put_back table f = slice_set table f.name (Some f.body)

-- What is still to be put out: the rest of the innermost macro, replaced without the macros around it, and then the
-- rest of those.
abbrev pub pending : List ℕ → List Token → ℕ → List (Option Body) → List Frame → List Token
pending source tokens depth table [] = []
pending source tokens depth table (f ∷ fs) = flat_map (replaced depth source (seen tokens table)) (rest_of tokens f)
    ++ pending source tokens (suc depth) (put_back table f) fs

-- The table with all macros that were taken out of it.
abbrev pub all_back : List (Option Body) → List Frame → List (Option Body)
all_back table [] = table
all_back table (f ∷ fs) = all_back (put_back table f) fs

-- A macro that is being replaced has the number of a name, and its next token is one of its own, or it has none left.
pub record IsFrame (tokens : List Token) (names : ℕ) (f : Frame) : Type 0 where
  pub numbered : f.name < names
  pub forward : f.next ≤ f.body.end
  pub body : IsBody tokens f.body

-- Each of these macros that are being replaced has the number of a name, and its next token is one of its own, or it
-- has none left.
abbrev pub AreFrames : List Token → ℕ → List Frame → Type 0
AreFrames tokens names [] = Unit {0}
AreFrames tokens names (f ∷ fs) = IsFrame tokens names f × AreFrames tokens names fs

-- A walk through macros that stand inside one another: what it gives in all is what it has put out and what is still to
-- be put out.
pub record IsWalk (source : List ℕ) (tokens : List Token) (place : Place) (first : List Token) (whole : List Token)
    (old : List (Option Body)) (table : List (Option Body)) (frames : List Frame) (out : List Token) : Type 0 where
  pub done : List Token
  pub whole_is : whole ≡ done ++ pending source tokens (length table - length frames) table frames
  pub out_is : out ≡ first ++ map (placed place) done
  pub passes : first_refusal (length first) (placed_items place done) ≡ None
  pub old_is : all_back table frames ≡ old
  pub frames_are : AreFrames tokens (length table) frames
  pub bodies_are : AreBodies tokens table
  pub few : macro_count table + length frames ≤ length table
