-- Statements: their trees, their tokens, their heights, and which are proper.
use Rattle.std.specs.Prelude.{◌≡◌, ℕ, ◌+◌, ◌≤◌, max, Bool, true, false, List, ◌∷◌, Option, Some, None}
use Rattle.upc_lexer.specs.declared.token.Token.{Token}
use Rattle.upc_lexer.specs.declared.token.Punct.TheVariants as puncts
use Rattle.upc_lexer.specs.declared.token.Word.TheVariants as words
use Rattle.upc_tree.specs.declared.mark.BarrierWord.{BarrierWord}
use Rattle.upc_tree.specs.declared.span.Span.{Span}
use Rattle.upc_tree.specs.declared.span.Pragma.{Pragma}
use Rattle.upc_tree.specs.Marks.{barrier_word}
use Rattle.upc_tree.specs.Tokens.{punct, word, spell_pragmas}
use Rattle.upc_tree.specs.Expression.{Expr, spell, height}
use Rattle.upc_tree.specs.Proper.{level, Proper}
use Rattle.upc_tree.specs.Declaration.{Declaration, spell_declaration, height_declaration, ProperDeclaration, IsLocal}

-- The controlling expression of an `if`, a `switch`, a `while` or a `do`, in its parentheses (C99 6.8.4, 6.8.5).
pub data Test : Type 0 where
  Tests : (left : Span) (value : Expr) (right : Span) → Test

-- What the parentheses of a `for` or a `upc_forall` begin with, up to its semicolon (C99 6.8.5.3, UPC 6.6.2).
pub data First : Type 0 where
  FirstValue : (value : Option Expr) (semicolon : Span) → First
  FirstDeclaration : (declaration : Declaration) → First

-- The affinity of a `upc_forall`: none, `continue`, or an expression (UPC 6.6.2).
pub data Affinity : Type 0 where
  NoAffinity : Affinity
  ContinueAffinity : (word : Span) → Affinity
  ValueAffinity : (value : Expr) → Affinity

-- The parentheses of a `for` (C99 6.8.5.3).
pub data ForHead : Type 0 where
  ForParts : (left : Span) (first : First) (test : Option Expr) (test_end : Span) (step : Option Expr)
      (right : Span) → ForHead

-- The parentheses of a `upc_forall` (UPC 6.6.2).
pub data ForallHead : Type 0 where
  ForallParts : (left : Span) (first : First) (test : Option Expr) (test_end : Span) (step : Option Expr)
      (step_end : Span) (affinity : Affinity) (right : Span) → ForallHead

mutual
  -- A statement (C99 6.8, UPC 6.6).
  pub data Statement : Type 0 where
    Block : (compound : Compound) → Statement
    Value : (value : Option Expr) (semicolon : Span) → Statement
    If : (at : Span) (test : Test) (body : Statement) (more : ElseIfs) (last : Otherwise) → Statement
    Switch : (at : Span) (test : Test) (left : Span) (body : SwitchItems) (right : Span) → Statement
    While : (at : Span) (test : Test) (body : Statement) → Statement
    DoWhile : (at : Span) (body : Statement) (until : Span) (test : Test) (semicolon : Span) → Statement
    For : (at : Span) (head : ForHead) (body : Statement) → Statement
    Forall : (at : Span) (head : ForallHead) (body : Statement) → Statement
    Break : (at semicolon : Span) → Statement
    Continue : (at semicolon : Span) → Statement
    Return : (at : Span) (value : Option Expr) (semicolon : Span) → Statement
    Barrier : (kind : BarrierWord) (at : Span) (value : Option Expr) (semicolon : Span) → Statement
    Fence : (at semicolon : Span) → Statement

  -- A compound statement, with the pragmas at its start (C99 6.8.2, UPC 6.7).
  pub data Compound : Type 0 where
    Braces : (left : Span) (pragmas : List Pragma) (items : BlockItems) (right : Span) → Compound

  -- The declarations and statements of a block, in order (C99 6.8.2).
  pub data BlockItems : Type 0 where
    NoBlockItems : BlockItems
    AndBlockItem : (item : BlockItem) (more : BlockItems) → BlockItems

  -- A declaration or a statement of a block (C99 6.8.2).
  pub data BlockItem : Type 0 where
    DeclarationItem : (declaration : Declaration) → BlockItem
    StatementItem : (statement : Statement) → BlockItem

  -- The body of a `switch`: labels and statements (C99 6.8.1, 6.8.4.2).
  pub data SwitchItems : Type 0 where
    NoSwitchItems : SwitchItems
    AndSwitchItem : (item : SwitchItem) (more : SwitchItems) → SwitchItems

  -- A `case`, a `default` or a statement in the body of a `switch` (C99 6.8.1, 6.8.4.2).
  pub data SwitchItem : Type 0 where
    CaseItem : (at : Span) (value : Expr) (colon : Span) → SwitchItem
    DefaultItem : (at colon : Span) → SwitchItem
    SwitchStatement : (statement : Statement) → SwitchItem

  -- The further arms of an `if`, each after its `else if` (C99 6.8.4.1).
  pub data ElseIfs : Type 0 where
    NoElseIfs : ElseIfs
    AndElseIf : (other at : Span) (test : Test) (body : Statement) (more : ElseIfs) → ElseIfs

  -- The last arm of an `if`, after an `else` alone, or none (C99 6.8.4.1).
  pub data Otherwise : Type 0 where
    NoOtherwise : Otherwise
    Else : (at : Span) (body : Statement) → Otherwise

-- ---- the tokens of a tree, and what follows them

-- The tokens of an expression that may be absent, and what follows them (C99 6.8.3).
abbrev pub spell_value : Option Expr → List Token → List Token
spell_value None rest = rest
spell_value (Some value) rest = spell value rest

-- The tokens of a controlling expression with its parentheses, and what follows them (C99 6.8.4, 6.8.5).
abbrev pub spell_test : Test → List Token → List Token
spell_test (Tests left value right) rest = punct puncts.LParen left ∷ spell value (punct puncts.RParen right ∷ rest)

-- The tokens of the first part of a `for` or a `upc_forall` with its semicolon, and what follows them (C99 6.8.5.3,
-- UPC 6.6.2).
abbrev pub spell_first : First → List Token → List Token
spell_first (FirstValue value semicolon) rest = spell_value value (punct puncts.Semicolon semicolon ∷ rest)
spell_first (FirstDeclaration declaration) rest = spell_declaration declaration rest

-- The tokens of an affinity, and what follows them (UPC 6.6.2).
abbrev pub spell_affinity : Affinity → List Token → List Token
spell_affinity NoAffinity rest = rest
spell_affinity (ContinueAffinity at) rest = word words.Continue at ∷ rest
spell_affinity (ValueAffinity value) rest = spell value rest

-- The tokens of the parentheses of a `for`, and what follows them (C99 6.8.5.3).
abbrev pub spell_for : ForHead → List Token → List Token
spell_for (ForParts left first test test_end step right) rest =
    punct puncts.LParen left ∷ spell_first first (spell_value test (punct puncts.Semicolon test_end
    ∷ spell_value step (punct puncts.RParen right ∷ rest)))

-- The tokens of the parentheses of a `upc_forall`, and what follows them (UPC 6.6.2).
abbrev pub spell_forall : ForallHead → List Token → List Token
spell_forall (ForallParts left first test test_end step step_end affinity right) rest =
    punct puncts.LParen left ∷ spell_first first (spell_value test (punct puncts.Semicolon test_end
    ∷ spell_value step (punct puncts.Semicolon step_end ∷ spell_affinity affinity (punct puncts.RParen right ∷ rest))))

-- The tokens of statements and their parts, and what follows them (C99 6.8, UPC 6.6).
abbrev mutual
  -- The tokens of a statement, and what follows them (C99 6.8, UPC 6.6).
  pub spell_statement : Statement → List Token → List Token
  spell_statement (Block compound) rest = spell_compound compound rest
  spell_statement (Value value semicolon) rest = spell_value value (punct puncts.Semicolon semicolon ∷ rest)
  spell_statement (If at test body more last) rest =
      word words.If at ∷ spell_test test (spell_statement body (spell_else_ifs more (spell_otherwise last rest)))
  spell_statement (Switch at test left body right) rest =
      word words.Switch at ∷ spell_test test (punct puncts.LBrace left ∷ spell_switch_items body
      (punct puncts.RBrace right ∷ rest))
  spell_statement (While at test body) rest = word words.While at ∷ spell_test test (spell_statement body rest)
  spell_statement (DoWhile at body until test semicolon) rest =
      word words.Do at ∷ spell_statement body (word words.While until ∷ spell_test test
      (punct puncts.Semicolon semicolon ∷ rest))
  spell_statement (For at head body) rest = word words.For at ∷ spell_for head (spell_statement body rest)
  spell_statement (Forall at head body) rest = word words.UpcForall at ∷ spell_forall head (spell_statement body rest)
  spell_statement (Break at semicolon) rest = word words.Break at ∷ punct puncts.Semicolon semicolon ∷ rest
  spell_statement (Continue at semicolon) rest = word words.Continue at ∷ punct puncts.Semicolon semicolon ∷ rest
  spell_statement (Return at value semicolon) rest =
      word words.Return at ∷ spell_value value (punct puncts.Semicolon semicolon ∷ rest)
  spell_statement (Barrier kind at value semicolon) rest =
      word (barrier_word kind) at ∷ spell_value value (punct puncts.Semicolon semicolon ∷ rest)
  spell_statement (Fence at semicolon) rest = word words.UpcFence at ∷ punct puncts.Semicolon semicolon ∷ rest

  -- The tokens of a compound statement with its pragmas, and what follows them (C99 6.8.2, UPC 6.7).
  pub spell_compound : Compound → List Token → List Token
  spell_compound (Braces left pragmas items right) rest =
      punct puncts.LBrace left ∷ spell_pragmas pragmas (spell_block_items items (punct puncts.RBrace right ∷ rest))

  -- The tokens of the declarations and statements of a block, and what follows them (C99 6.8.2).
  pub spell_block_items : BlockItems → List Token → List Token
  spell_block_items NoBlockItems rest = rest
  spell_block_items (AndBlockItem item more) rest = spell_block_item item (spell_block_items more rest)

  -- The tokens of one declaration or statement of a block, and what follows them (C99 6.8.2).
  pub spell_block_item : BlockItem → List Token → List Token
  spell_block_item (DeclarationItem declaration) rest = spell_declaration declaration rest
  spell_block_item (StatementItem statement) rest = spell_statement statement rest

  -- The tokens of the labels and statements of a `switch`, and what follows them (C99 6.8.1, 6.8.4.2).
  pub spell_switch_items : SwitchItems → List Token → List Token
  spell_switch_items NoSwitchItems rest = rest
  spell_switch_items (AndSwitchItem item more) rest = spell_switch_item item (spell_switch_items more rest)

  -- The tokens of one label or statement of a `switch`, and what follows them (C99 6.8.1, 6.8.4.2).
  pub spell_switch_item : SwitchItem → List Token → List Token
  spell_switch_item (CaseItem at value colon) rest = word words.Case at ∷ spell value (punct puncts.Colon colon ∷ rest)
  spell_switch_item (DefaultItem at colon) rest = word words.Default at ∷ punct puncts.Colon colon ∷ rest
  spell_switch_item (SwitchStatement statement) rest = spell_statement statement rest

  -- The tokens of the further arms of an `if`, and what follows them (C99 6.8.4.1).
  pub spell_else_ifs : ElseIfs → List Token → List Token
  spell_else_ifs NoElseIfs rest = rest
  spell_else_ifs (AndElseIf other at test body more) rest =
      word words.Else other ∷ word words.If at ∷ spell_test test (spell_statement body (spell_else_ifs more rest))

  -- The tokens of the last arm of an `if`, and what follows them (C99 6.8.4.1).
  pub spell_otherwise : Otherwise → List Token → List Token
  spell_otherwise NoOtherwise rest = rest
  spell_otherwise (Else at body) rest = word words.Else at ∷ spell_statement body rest

-- ---- the height of a tree
-- A node is one higher than the highest of its parts. The list of a compound statement or of the body of a `switch`
-- is a part with a level of its own. The arms of an `if` and the parts of a loop's parentheses belong to their
-- statement directly.

-- The height of an expression that may be absent, 0 where it is.
abbrev pub height_value : Option Expr → ℕ
height_value None = 0
height_value (Some value) = height value

-- The height of a controlling expression, whose parentheses are no level.
abbrev pub height_test : Test → ℕ
height_test (Tests left value right) = height value

-- The height of the first part of a `for` or a `upc_forall`, 0 where it is empty.
abbrev pub height_first : First → ℕ
height_first (FirstValue value semicolon) = height_value value
height_first (FirstDeclaration declaration) = height_declaration declaration

-- The height of an affinity, 0 where it is no expression.
abbrev pub height_affinity : Affinity → ℕ
height_affinity NoAffinity = 0
height_affinity (ContinueAffinity at) = 0
height_affinity (ValueAffinity value) = height value

-- The greatest height of a part in the parentheses of a `for`.
abbrev pub height_for : ForHead → ℕ
height_for (ForParts left first test test_end step right) =
    max (height_first first) (max (height_value test) (height_value step))

-- The greatest height of a part in the parentheses of a `upc_forall`.
abbrev pub height_forall : ForallHead → ℕ
height_forall (ForallParts left first test test_end step step_end affinity right) =
    max (height_first first) (max (height_value test) (max (height_value step) (height_affinity affinity)))

-- The heights of statements and their parts.
abbrev mutual
  -- The height of a statement: one more than that of its highest part, where the body of a `switch` is a level.
  pub height_statement : Statement → ℕ
  height_statement (Block compound) = height_compound compound
  height_statement (Value value semicolon) = height_value value + 1
  height_statement (If at test body more last) =
      max (height_test test) (max (height_statement body) (max (height_else_ifs more) (height_otherwise last))) + 1
  height_statement (Switch at test left body right) = max (height_test test) (height_switch_items body + 1) + 1
  height_statement (While at test body) = max (height_test test) (height_statement body) + 1
  height_statement (DoWhile at body until test semicolon) = max (height_statement body) (height_test test) + 1
  height_statement (For at head body) = max (height_for head) (height_statement body) + 1
  height_statement (Forall at head body) = max (height_forall head) (height_statement body) + 1
  height_statement (Break at semicolon) = 1
  height_statement (Continue at semicolon) = 1
  height_statement (Return at value semicolon) = height_value value + 1
  height_statement (Barrier kind at value semicolon) = height_value value + 1
  height_statement (Fence at semicolon) = 1

  -- The height of a compound statement: one more than that of its list, which is one more than that of its highest
  -- item.
  pub height_compound : Compound → ℕ
  height_compound (Braces left pragmas items right) = height_block_items items + 2

  -- The greatest height of the declarations and statements of a block, 0 where it is empty.
  pub height_block_items : BlockItems → ℕ
  height_block_items NoBlockItems = 0
  height_block_items (AndBlockItem item more) = max (height_block_item item) (height_block_items more)

  -- The height of one declaration or statement of a block.
  pub height_block_item : BlockItem → ℕ
  height_block_item (DeclarationItem declaration) = height_declaration declaration
  height_block_item (StatementItem statement) = height_statement statement

  -- The greatest height of the labels and statements of a `switch`, 0 where there are none.
  pub height_switch_items : SwitchItems → ℕ
  height_switch_items NoSwitchItems = 0
  height_switch_items (AndSwitchItem item more) = max (height_switch_item item) (height_switch_items more)

  -- The height of one label or statement of a `switch`: of a `case` that of its value, of a `default` 0.
  pub height_switch_item : SwitchItem → ℕ
  height_switch_item (CaseItem at value colon) = height value
  height_switch_item (DefaultItem at colon) = 0
  height_switch_item (SwitchStatement statement) = height_statement statement

  -- The greatest height of the controlling expressions and bodies of the further arms of an `if`, 0 where there are
  -- none.
  pub height_else_ifs : ElseIfs → ℕ
  height_else_ifs NoElseIfs = 0
  height_else_ifs (AndElseIf other at test body more) =
      max (max (height_test test) (height_statement body)) (height_else_ifs more)

  -- The height of the last arm of an `if`, 0 where there is none.
  pub height_otherwise : Otherwise → ℕ
  height_otherwise NoOtherwise = 0
  height_otherwise (Else at body) = height_statement body

-- ---- which are proper: an `else` belongs to the nearest `if` without one, and an `else if` is an arm of its `if`

-- Whether an `else` that follows would belong to what stands before it (C99 6.8.4.1).
abbrev mutual
  -- Whether an `else` that follows a statement would belong to it or to its last part (C99 6.8.4.1).
  pub takes_else : Statement → Bool
  takes_else (If at test body more last) = takes_else_behind last
  takes_else (While at test body) = takes_else body
  takes_else (For at head body) = takes_else body
  takes_else (Forall at head body) = takes_else body
  takes_else (Block compound) = false
  takes_else (Value value semicolon) = false
  takes_else (Switch at test left body right) = false
  takes_else (DoWhile at body until test semicolon) = false
  takes_else (Break at semicolon) = false
  takes_else (Continue at semicolon) = false
  takes_else (Return at value semicolon) = false
  takes_else (Barrier kind at value semicolon) = false
  takes_else (Fence at semicolon) = false

  -- Whether an `else` that follows an `if` with this last arm would belong to it or to that arm (C99 6.8.4.1).
  pub takes_else_behind : Otherwise → Bool
  takes_else_behind NoOtherwise = true
  takes_else_behind (Else at body) = takes_else body

-- Whether a statement begins with `if` (C99 6.8.4.1).
abbrev pub is_if : Statement → Bool
is_if (If at test body more last) = true
is_if _ = false

-- An arm of an `if` leaves the `else` that follows its body, if any, to that `if` (C99 6.8.4.1).
abbrev pub KeepsElse : Statement → ElseIfs → Otherwise → Type 0
KeepsElse body (AndElseIf other at test next more) last = takes_else body ≡ false
KeepsElse body NoElseIfs (Else at next) = takes_else body ≡ false
KeepsElse body NoElseIfs NoOtherwise = Unit {0}

-- An expression that may be absent is proper or absent (C99 6.8.3).
abbrev pub ProperValue : Option Expr → Type 0
ProperValue None = Unit {0}
ProperValue (Some value) = Proper value

-- A controlling expression is proper (C99 6.8.4, 6.8.5).
abbrev pub ProperTest : Test → Type 0
ProperTest (Tests left value right) = Proper value

-- The first part of a `for` or a `upc_forall` is proper; a declaration there has no `static` (C99 6.8.5.3, UPC 6.6.2).
abbrev pub ProperFirst : First → Type 0
ProperFirst (FirstValue value semicolon) = ProperValue value
ProperFirst (FirstDeclaration declaration) = IsLocal declaration × ProperDeclaration declaration

-- The affinity of a `upc_forall` is proper (UPC 6.6.2).
abbrev pub ProperAffinity : Affinity → Type 0
ProperAffinity NoAffinity = Unit {0}
ProperAffinity (ContinueAffinity at) = Unit {0}
ProperAffinity (ValueAffinity value) = Proper value

-- The parts in the parentheses of a `for` are proper (C99 6.8.5.3).
abbrev pub ProperFor : ForHead → Type 0
ProperFor (ForParts left first test test_end step right) = ProperFirst first × ProperValue test × ProperValue step

-- The parts in the parentheses of a `upc_forall` are proper (UPC 6.6.2).
abbrev pub ProperForall : ForallHead → Type 0
ProperForall (ForallParts left first test test_end step step_end affinity right) =
    ProperFirst first × ProperValue test × ProperValue step × ProperAffinity affinity

-- Which statements are proper, with their parts (C99 6.8, UPC 6.6).
abbrev mutual
  -- A statement is proper: its parts are, and each arm of an `if` leaves the `else` that follows to that `if`
  -- (C99 6.8.4.1).
  pub ProperStatement : Statement → Type 0
  ProperStatement (Block compound) = ProperCompound compound
  ProperStatement (Value value semicolon) = ProperValue value
  ProperStatement (If at test body more last) =
      ProperTest test × KeepsElse body more last × ProperStatement body × ProperElseIfs more last × ProperOtherwise last
  ProperStatement (Switch at test left body right) = ProperTest test × ProperSwitchItems body
  ProperStatement (While at test body) = ProperTest test × ProperStatement body
  ProperStatement (DoWhile at body until test semicolon) = ProperStatement body × ProperTest test
  ProperStatement (For at head body) = ProperFor head × ProperStatement body
  ProperStatement (Forall at head body) = ProperForall head × ProperStatement body
  ProperStatement (Break at semicolon) = Unit {0}
  ProperStatement (Continue at semicolon) = Unit {0}
  ProperStatement (Return at value semicolon) = ProperValue value
  ProperStatement (Barrier kind at value semicolon) = ProperValue value
  ProperStatement (Fence at semicolon) = Unit {0}

  -- The declarations and statements of a compound statement are proper (C99 6.8.2).
  pub ProperCompound : Compound → Type 0
  ProperCompound (Braces left pragmas items right) = ProperBlockItems items

  -- Each declaration and statement of a block is proper (C99 6.8.2).
  pub ProperBlockItems : BlockItems → Type 0
  ProperBlockItems NoBlockItems = Unit {0}
  ProperBlockItems (AndBlockItem item more) = ProperBlockItem item × ProperBlockItems more

  -- A declaration of a block is proper and has no `static`; a statement of a block is proper (C99 6.8.2).
  pub ProperBlockItem : BlockItem → Type 0
  ProperBlockItem (DeclarationItem declaration) = IsLocal declaration × ProperDeclaration declaration
  ProperBlockItem (StatementItem statement) = ProperStatement statement

  -- Each label and statement of a `switch` is proper (C99 6.8.1, 6.8.4.2).
  pub ProperSwitchItems : SwitchItems → Type 0
  ProperSwitchItems NoSwitchItems = Unit {0}
  ProperSwitchItems (AndSwitchItem item more) = ProperSwitchItem item × ProperSwitchItems more

  -- A label or statement of a `switch` is proper; the value of a `case` is no assignment and no comma expression
  -- (C99 6.8.1).
  pub ProperSwitchItem : SwitchItem → Type 0
  ProperSwitchItem (CaseItem at value colon) = (2 ≤ level value) × Proper value
  ProperSwitchItem (DefaultItem at colon) = Unit {0}
  ProperSwitchItem (SwitchStatement statement) = ProperStatement statement

  -- The further arms of an `if` are proper, and each leaves the `else` that follows to that `if` (C99 6.8.4.1).
  pub ProperElseIfs : ElseIfs → Otherwise → Type 0
  ProperElseIfs NoElseIfs last = Unit {0}
  ProperElseIfs (AndElseIf other at test body more) last =
      ProperTest test × KeepsElse body more last × ProperStatement body × ProperElseIfs more last

  -- The last arm of an `if` is proper, and is no `if` itself, which would be a further arm (C99 6.8.4.1).
  pub ProperOtherwise : Otherwise → Type 0
  ProperOtherwise NoOtherwise = Unit {0}
  ProperOtherwise (Else at body) = (is_if body ≡ false) × ProperStatement body
