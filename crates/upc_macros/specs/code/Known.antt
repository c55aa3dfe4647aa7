-- What macros give wherever they stand, and what a walk knows of them.
use Rattle.std.specs.Prelude.{◌≡◌, ℕ, zero, suc, ◌+◌, ◌-◌, ◌≤◌, Bool, false, ◌==◌, if◌then◌else◌, List, [], ◌∷◌, ◌++◌}
use Rattle.std.specs.Prelude.{Option, Some, None, length, take, drop, slice_get, slice_index_or, flat_map}
use Rattle.std.specs.List.{All}
use Rattle.upc_text.specs.declared.place.Place.{Place}
use Rattle.upc_lexer.specs.declared.token.Token.{Token}
use Rattle.upc_lexer.specs.declared.token.TokenKind.{TokenKind}
use Rattle.upc_lexer.specs.declared.token.TokenKind.TheVariants.{Name}
use Rattle.upc_macros.specs.declared.table.Body.{Body}
use Rattle.upc_macros.specs.declared.walk.Frame.{Frame}
use Rattle.upc_macros.specs.declared.known.Gift.{Gift}
use Rattle.upc_macros.specs.declared.known.Known.{Known}
use Rattle.upc_macros.specs.Replacing.{Macros, replaced}
use Rattle.upc_macros.specs.code.Table.{seen, body_tokens}
use Rattle.upc_macros.specs.code.Walk.{placed_items, put_back, pending}

-- A name is no macro, or each token that its macro stands for has the property.
abbrev pub FreeBody : Option (List Token) → (Token → Type 0) → Type 0
FreeBody None free = Unit {0}
FreeBody (Some body) free = All free body

-- A token is free within so many levels: it is no macro, or each token that it stands for is free within one level
-- less. Here no macro is hidden in its own replacement, since such a macro never meets itself.
abbrev pub IsFree : ℕ → Macros → TokenKind → Type 0
IsFree zero macros kind = ⊥
IsFree (suc depth) macros (Name n) = FreeBody (slice_index_or macros n None) (λ t. IsFree depth macros t.kind)
IsFree (suc depth) macros kind = Unit {0}

-- What a macro is known to give, if that was learnt after the last directive that changed a macro; else none.
abbrev pub current : Option Gift → ℕ → Option Gift
current None since = None
current (Some gift) since = if gift.since == since then Some gift else None

-- What a token that is a macro is known to give; none where nothing is known of it.
abbrev pub gift_of : Known → TokenKind → Option Gift
gift_of k (Name n) = current (slice_index_or k.gifts.items n None) k.since
gift_of k kind = None

-- Whether a token is recorded as a macro.
abbrev pub is_defined : Known → TokenKind → Bool
is_defined k (Name n) = slice_index_or k.defined.items n false
is_defined k kind = false

-- The macro of this name gives these tokens of the expansion wherever it stands, but for their place.
pub record IsGift (source : List ℕ) (tokens : List Token) (table : List (Option Body)) (out : List Token) (n : ℕ)
    (gift : Gift) : Type 0 where
  pub free : (depth : ℕ) × IsFree depth (seen tokens table) (Name n)
  pub within : gift.from + gift.count ≤ length out
  pub gives : (t : Token) (place : Place) → t.kind ≡ Name n → placed_items place (take gift.count (drop gift.from out))
      ≡ placed_items place (replaced (length table) source (seen tokens table) t)

-- What is known of each macro is true and was learnt no later than now, and a name that is not recorded as a macro is
-- none.
pub record AreKnown (source : List ℕ) (tokens : List Token) (table : List (Option Body)) (out : List Token) (k : Known)
    : Type 0 where
  pub size : length k.gifts.items ≡ length table
  pub defined_size : length k.defined.items ≡ length table
  pub past : (n : ℕ) (gift : Gift) → slice_index_or k.gifts.items n None ≡ Some gift → gift.since ≤ k.since
  pub gifts : (n : ℕ) (gift : Gift) → slice_index_or k.gifts.items n None ≡ Some gift → gift.since ≡ k.since
      → IsGift source tokens table out n gift
  pub defined : (n : ℕ) → slice_index_or k.defined.items n false ≡ false
      → slice_index_or (seen tokens table) n None ≡ None

-- Where the first token is free within some levels and one more, the second is free within those levels.
abbrev pub Leads : Macros → TokenKind → TokenKind → Type 0
Leads macros from to = (depth : ℕ) → IsFree (suc depth) macros from → IsFree depth macros to

-- The tokens of a macro that the walk has passed.
abbrev pub front_of : List Token → Frame → List Token
front_of tokens f = take (f.next - f.body.begin) (drop f.body.begin tokens)

-- The tokens of a macro that the walk has passed have met no macro that was being replaced.
abbrev pub IsFreeSoFar : List Token → List (Option Body) → Frame → Type 0
IsFreeSoFar tokens whole f = (depth : ℕ) × All (λ t. IsFree depth (seen tokens whole) t.kind) (front_of tokens f)

-- A macro of the whole table, entered when no more tokens had been put out than now.
pub record IsEntered (tokens : List Token) (whole : List (Option Body)) (out : ℕ) (f : Frame) : Type 0 where
  pub begun : f.body.begin ≤ f.next
  pub entry : slice_get whole f.name ≡ Some (Some f.body)
  pub before : f.before ≤ out

-- A macro that the macro of a name lies in, which was entered when so many tokens had been put out: if the last macro
-- that was met while it was being replaced was put out before the outer one was entered, and the inner one meets none,
-- what was walked of the outer one met none.
pub record IsOuter (tokens : List Token) (whole : List (Option Body)) (out bound name before : ℕ) (f : Frame) : Type 0
  where
    pub entered : IsEntered tokens whole out f
    pub leads : Leads (seen tokens whole) (Name f.name) (Name name)
    pub earlier : f.before ≤ before
    pub free : bound ≤ f.before → (depth : ℕ) → IsFree depth (seen tokens whole) (Name name)
        → IsFreeSoFar tokens whole f

-- Each of these macros is the outer one of the macro before it, and the first of them that of the macro of the name.
abbrev pub AreOuter : List Token → List (Option Body) → ℕ → ℕ → ℕ → ℕ → List Frame → Type 0
AreOuter tokens whole out bound name before [] = Unit {0}
AreOuter tokens whole out bound name before (f ∷ fs) = IsOuter tokens whole out bound name before f
    × AreOuter tokens whole out bound f.name f.before fs

-- What a walk knows of the macros that lie in one another, where the last macro that was met while it was being
-- replaced is among so many tokens.
pub record IsListening (tokens : List Token) (whole table : List (Option Body)) (out bound : ℕ) (f : Frame)
    (fs : List Frame) : Type 0 where
  pub entered : IsEntered tokens whole out f
  pub free : bound ≤ f.before → IsFreeSoFar tokens whole f
  pub outer : AreOuter tokens whole out bound f.name f.before fs
  pub within : (n : ℕ) (b : Body) → slice_get table n ≡ Some (Some b) → slice_get whole n ≡ Some (Some b)

-- When the macro was entered, the walk had put out the first tokens of the whole, and still had to put out what this
-- macro gives and then the rest of the macros around it.
pub record IsBegun (source : List ℕ) (tokens whole : List Token) (first depth : ℕ) (table : List (Option Body))
    (f : Frame) (fs : List Frame) : Type 0 where
  pub head : List Token
  pub before : f.before ≡ first + length head
  pub whole_is : whole ≡ head ++ (flat_map (replaced depth source (seen tokens table)) (body_tokens tokens f.body)
      ++ pending source tokens (suc depth) (put_back table f) fs)

-- Each of these macros, the innermost first, was entered as `IsBegun` says.
abbrev pub AreBegun : List ℕ → List Token → List Token → ℕ → ℕ → List (Option Body) → List Frame → Type 0
AreBegun source tokens whole first depth table [] = Unit {0}
AreBegun source tokens whole first depth table (f ∷ fs) = IsBegun source tokens whole first depth table f fs
    × AreBegun source tokens whole first (suc depth) (put_back table f) fs
