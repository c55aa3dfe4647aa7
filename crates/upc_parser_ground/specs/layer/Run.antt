-- What a function that parses ensures: the outcome of the parser on lists, unless memory runs out.
use Rattle.std.specs.Prelude.{◌≡◌, ◌<◌, ◌≤◌, Bool, true, false, List, [], ◌∷◌, ◌++◌, length, Result, Ok, Err, ◌⊎◌}
use Rattle.std.specs.Prelude.{Vec, Box}
use Rattle.std.specs.declared.alloc.Global.{Global}
use denote.Ref.{MutBor}
use Rattle.upc_lexer.specs.declared.token.Token.{Token}
use Rattle.upc_parser_ground.specs.declared.cursor.Tokens.{Tokens}
use Rattle.upc_parser_ground.specs.declared.cursor.Fail.{Fail}
use Rattle.upc_parser_ground.specs.declared.cursor.Fail.TheVariants as fail
use Rattle.upc_parser_ground.specs.layer.Outcome.{Outcome}

-- A failure of the code is that of the outcome, or memory ran out.
abbrev pub Fails : {A : Type 0} → Fail → Outcome A → Type 0
Fails fail.Memory o = Unit {0}
Fails (fail.Fault f) o = o ≡ Err f

-- The code gives the tree of the outcome and leaves its tokens, or fails as it does, unless memory runs out.
abbrev pub Reads : {X A : Type 0} → (X → A) → Outcome A → Result X Fail → List Token → Type 0
Reads view o (Ok x) rest = o ≡ Ok (view x, rest)
Reads view o (Err e) rest = Fails e o

-- What a box holds, seen so.
abbrev pub boxed : {X A : Type 0} → (X → A) → Box X Global → A
boxed view x = view x.value

-- What stands for itself.
abbrev pub same : {X : Type 0} → X → X
same x = x

-- The steps of a run of items: each begins where the one before it ended, and the tokens there go on so.
pub data Steps {T : Type 0} (goes : List Token → Bool) (post : MutBor Tokens → Result T Fail → MutBor Tokens
    → Type 0) (start : List Token) : List T → List Token → Type 0 where
  none : Steps goes post start [] start
  more : {xs : List T} {mid : List Token} (before : Steps goes post start xs mid) → goes mid ≡ true
      → (x : T) (old new : MutBor Tokens) → old.now.rest.now ≡ mid → post old (Ok x) new
      → Steps goes post start (xs ++ x ∷ []) new.now.rest.now

-- How a run of items ended: after the last of them, with the fault of one, or with no memory.
abbrev pub Ran : {T : Type 0} → (List Token → Bool) → (MutBor Tokens → Result T Fail → MutBor Tokens → Type 0)
    → List Token → Result (Vec T Global) Fail → List Token → Type 0
Ran goes post start (Ok v) rest =
    Steps goes post start v.items rest × (length v.items ≤ length start)
    × ((goes rest ≡ false) ⊎ (length v.items ≡ length start))
Ran goes post start (Err fail.Memory) rest = Unit {0}
Ran {T} goes post start (Err (fail.Fault f)) rest =
    (xs : List T) × (mid : List Token) × (old new : MutBor Tokens) × Steps goes post start xs mid
    × (length xs < length start) × (goes mid ≡ true) × (old.now.rest.now ≡ mid)
    × post old (Err (fail.Fault f)) new
