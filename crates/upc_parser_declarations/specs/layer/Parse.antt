-- The parser of declarations, and of what holds no statement, as a function on lists of tokens.
use Rattle.std.specs.Prelude.{ℕ, zero, suc, true, if◌then◌else◌, List, [], ◌∷◌, Option, Some, None, Ok, Err}
use Rattle.upc_lexer.specs.declared.token.TokenKind.{TokenKind}
use Rattle.upc_lexer.specs.declared.token.TokenKind.TheVariants as token_kind
use Rattle.upc_lexer.specs.declared.token.Punct.{Punct}
use Rattle.upc_lexer.specs.declared.token.Punct.TheVariants as punct
use Rattle.upc_lexer.specs.declared.token.Word.TheVariants as words
use Rattle.upc_tree.specs.declared.mark.BarrierWord.{BarrierWord}
use Rattle.upc_tree.specs.declared.span.Span.{Span}
use Rattle.upc_tree.specs.declared.span.Pragma.{Pragma}
use Rattle.upc_tree.specs.Expression.{Expr, Specs, Declarator}
use Rattle.upc_tree.specs.Declaration as declaration_tree
use Rattle.upc_tree.specs.Declaration.{Initial, Declared, NextDeclareds, DeclaredList, Declaration}
use Rattle.upc_tree.specs.Statement as statement_tree
use Rattle.upc_tree.specs.Statement.{Test, First, Affinity, ForHead, ForallHead, Statement, BlockItem, SwitchItem}
use Rattle.upc_tree.specs.Unit as units
use Rattle.upc_tree.specs.Unit.{External}
use Rattle.upc_tree.specs.layer.Lists.{next_declareds_of}
use Rattle.upc_parser_ground.specs.declared.cursor.Fault.TheVariants.{NoTree, TooHigh}
use Rattle.upc_parser_ground.specs.layer.Outcome.{
  Parser,
  ◌>>=◌,
  span_of,
  is_punct,
  is_word,
  starts,
  starts_two,
  expect_punct,
}
use Rattle.upc_parser_ground.specs.layer.Outcome.{expect_word, all, listed}
use Rattle.upc_parser_ground.specs.layer.Tables.{is_spec}
use Rattle.upc_parser_ground.specs.layer.Ahead.{is_pragma}
use Rattle.upc_parser_types.specs.layer.Expression.{at_height, next_exprs, specs, declarator}

-- ---- declarations, whose parts are at most n high

module _ (n : ℕ) where
  -- The parser of an initialiser that is one value (C99 6.7.8).
  unfoldable pub value_initial : Parser Initial
  value_initial ts = do
    q ← expect_punct punct.Equal ts
    e ← (at_height n).expr 1 q.1
    Ok (declaration_tree.ValueInitial q.0 e.0, e.1)

  -- The parser of an initialiser that is a list in braces (C99 6.7.8).
  unfoldable pub list_initial : Parser Initial
  list_initial ts = do
    q ← expect_punct punct.Equal ts
    o ← expect_punct punct.LBrace q.1
    f ← (at_height n).expr 1 o.1
    m ← next_exprs (at_height n) f.1
    c ← expect_punct punct.RBrace m.1
    Ok (declaration_tree.ListInitial q.0 o.0 f.0 m.0 c.0, c.1)

  -- The parser of an initialiser, which may be absent (C99 6.7.8).
  unfoldable pub initial : Parser Initial
  initial ts =
      if starts (is_punct punct.Equal) ts
      then (if starts_two (is_punct punct.Equal) (is_punct punct.LBrace) ts then list_initial ts else value_initial ts)
      else Ok (declaration_tree.NoInitial, ts)

  -- The parser of a declarator with its initialiser (C99 6.7).
  unfoldable pub declared : Parser Declared
  declared ts = do
    x ← declarator (at_height n) ts
    i ← initial x.1
    Ok (declaration_tree.DeclaredAs x.0 i.0, i.1)

  -- The parser of a further declarator with its initialiser, after its comma (C99 6.7).
  unfoldable pub next_declared : Parser (Span × Declared)
  next_declared ts = do
    c ← expect_punct punct.Comma ts
    x ← declared c.1
    Ok ((c.0, x.0), x.1)

  -- The parser of further declarators with their initialisers, each after its comma (C99 6.7).
  unfoldable pub next_declareds : Parser NextDeclareds
  next_declareds ts = listed next_declareds_of (starts (is_punct punct.Comma)) next_declared ts

  -- The parser of at least one declarator with its initialiser (C99 6.7).
  unfoldable pub some_declared : Parser DeclaredList
  some_declared ts = do
    f ← declared ts
    m ← next_declareds f.1
    Ok (declaration_tree.SomeDeclared f.0 m.0, m.1)

  -- The parser of the declarators of a declaration, of which there may be none (C99 6.7).
  abbrev pub declared_list : Parser DeclaredList
  declared_list ts = if starts (is_punct punct.Semicolon) ts then Ok
      (declaration_tree.NoneDeclared, ts) else some_declared ts

  -- The parser of a declaration at block scope (C99 6.7, 6.8.2).
  unfoldable pub declaration : Parser Declaration
  declaration ts = do
    s ← specs (at_height n) true ts
    x ← declared_list s.1
    c ← expect_punct punct.Semicolon x.1
    Ok (declaration_tree.Declares s.0 x.0 c.0, c.1)

-- The parser of a declaration at block scope of at most this height (C99 6.7, 6.8.2).
unfoldable pub declaration_at : ℕ → Parser Declaration
declaration_at zero ts = Err TooHigh
declaration_at (suc n) ts = declaration n ts

-- The parser of the affinity `continue` (UPC 6.6.2).
unfoldable pub continue_affinity : Parser Affinity
continue_affinity ts = expect_word words.Continue ts >>= λ c. Ok (statement_tree.ContinueAffinity c.0, c.1)

-- ---- parts of statements that are no statements, at most n high

module _ (n : ℕ) where
  -- The parser of an expression that is absent where the mark that ends it comes next (C99 6.8.3).
  unfoldable pub value : Punct → Parser (Option Expr)
  value end ts =
      if starts (is_punct end) ts then Ok (None, ts) else ((at_height n).expr 0 ts >>= λ e. Ok (Some e.0, e.1))

  -- The parser of a controlling expression in its parentheses (C99 6.8.4, 6.8.5).
  unfoldable pub controlling : Parser Test
  controlling ts = do
    o ← expect_punct punct.LParen ts
    e ← (at_height n).expr 0 o.1
    c ← expect_punct punct.RParen e.1
    Ok (statement_tree.Tests o.0 e.0 c.0, c.1)

  -- The parser of the first part of a loop that is an expression or absent, with its semicolon (C99 6.8.5.3).
  unfoldable pub first_value : Parser First
  first_value ts = do
    v ← value punct.Semicolon ts
    c ← expect_punct punct.Semicolon v.1
    Ok (statement_tree.FirstValue v.0 c.0, c.1)

  -- The parser of the first part of a loop that is a declaration (C99 6.8.5.3).
  unfoldable pub first_declaration : Parser First
  first_declaration ts = declaration_at n ts >>= λ x. Ok (statement_tree.FirstDeclaration x.0, x.1)

  -- The parser of the first part of a `for` or a `upc_forall` (C99 6.8.5.3, UPC 6.6.2).
  abbrev pub first : Parser First
  first ts = if starts (is_spec true) ts then first_declaration ts else first_value ts

  -- The parser of an affinity that is an expression (UPC 6.6.2).
  unfoldable pub value_affinity : Parser Affinity
  value_affinity ts = (at_height n).expr 0 ts >>= λ e. Ok (statement_tree.ValueAffinity e.0, e.1)

  -- The parser of the affinity of a `upc_forall`, which may be absent (UPC 6.6.2).
  abbrev pub affinity : Parser Affinity
  affinity ts =
      if starts (is_punct punct.RParen) ts then Ok (statement_tree.NoAffinity, ts)
      else if starts (is_word words.Continue) ts then continue_affinity ts
      else value_affinity ts

  -- The parser of the parentheses of a `for` (C99 6.8.5.3).
  unfoldable pub for_head : Parser ForHead
  for_head ts = do
    o ← expect_punct punct.LParen ts
    f ← first o.1
    v ← value punct.Semicolon f.1
    e ← expect_punct punct.Semicolon v.1
    x ← value punct.RParen e.1
    c ← expect_punct punct.RParen x.1
    Ok (statement_tree.ForParts o.0 f.0 v.0 e.0 x.0 c.0, c.1)

  -- The parser of the parentheses of a `upc_forall` (UPC 6.6.2).
  unfoldable pub forall_head : Parser ForallHead
  forall_head ts = do
    o ← expect_punct punct.LParen ts
    f ← first o.1
    v ← value punct.Semicolon f.1
    e ← expect_punct punct.Semicolon v.1
    x ← value punct.Semicolon e.1
    g ← expect_punct punct.Semicolon x.1
    a ← affinity g.1
    c ← expect_punct punct.RParen a.1
    Ok (statement_tree.ForallParts o.0 f.0 v.0 e.0 x.0 g.0 a.0 c.0, c.1)

-- The parser of a pragma whose token has been taken (UPC 6.7).
abbrev pub pragma_by : TokenKind → Span → Parser Pragma
pragma_by (token_kind.Pragma strict) span ts = Ok (record { strict = strict; span = span }, ts)
pragma_by _ span ts = Err NoTree

-- The parser of a pragma (UPC 6.7).
abbrev pub pragma : Parser Pragma
pragma [] = Err NoTree
pragma (x ∷ ts) = pragma_by x.kind (span_of x) ts

-- The parser of pragmas, one after the other (UPC 6.7).
unfoldable pub pragmas : Parser (List Pragma)
pragmas ts = all (starts is_pragma) pragma ts

-- ---- parts and statements that hold no statements

module _ (n : ℕ) where
  -- The parser of a declaration of a block (C99 6.8.2).
  unfoldable pub declaration_item : Parser BlockItem
  declaration_item ts = declaration_at n ts >>= λ x. Ok (statement_tree.DeclarationItem x.0, x.1)

  -- The parser of a `case` label (C99 6.8.1).
  unfoldable pub case_item : Parser SwitchItem
  case_item ts = do
    a ← expect_word words.Case ts
    e ← (at_height n).expr 2 a.1
    c ← expect_punct punct.Colon e.1
    Ok (statement_tree.CaseItem a.0 e.0 c.0, c.1)

  -- The parser of an expression statement, also of one without an expression (C99 6.8.3).
  unfoldable pub value_statement : Parser Statement
  value_statement ts = do
    v ← value n punct.Semicolon ts
    c ← expect_punct punct.Semicolon v.1
    Ok (statement_tree.Value v.0 c.0, c.1)

  -- The parser of a `return`, after its word (C99 6.8.6.4).
  unfoldable pub return_statement : Span → Parser Statement
  return_statement at ts = do
    v ← value n punct.Semicolon ts
    c ← expect_punct punct.Semicolon v.1
    Ok (statement_tree.Return at v.0 c.0, c.1)

  -- The parser of a notify, a wait or a barrier, after its word (UPC 6.6.1).
  unfoldable pub barrier_statement : BarrierWord → Span → Parser Statement
  barrier_statement kind at ts = do
    v ← value n punct.Semicolon ts
    c ← expect_punct punct.Semicolon v.1
    Ok (statement_tree.Barrier kind at v.0 c.0, c.1)

-- The parser of a `default` label (C99 6.8.1).
unfoldable pub default_item : Parser SwitchItem
default_item ts = do
  a ← expect_word words.Default ts
  c ← expect_punct punct.Colon a.1
  Ok (statement_tree.DefaultItem a.0 c.0, c.1)

-- The parser of a `break`, after its word (C99 6.8.6.3).
unfoldable pub break_statement : Span → Parser Statement
break_statement at ts = expect_punct punct.Semicolon ts >>= λ c. Ok (statement_tree.Break at c.0, c.1)

-- The parser of a `continue`, after its word (C99 6.8.6.2).
unfoldable pub continue_statement : Span → Parser Statement
continue_statement at ts = expect_punct punct.Semicolon ts >>= λ c. Ok (statement_tree.Continue at c.0, c.1)

-- The parser of a `upc_fence`, after its word (UPC 6.6.1).
unfoldable pub fence_statement : Span → Parser Statement
fence_statement at ts = expect_punct punct.Semicolon ts >>= λ c. Ok (statement_tree.Fence at c.0, c.1)

-- ---- parts of a source that are no functions

-- The parser of a declaration of the file without declarators, after its specifiers (C99 6.7, 6.9).
unfoldable pub none_declared : Specs → Parser External
none_declared s ts = expect_punct punct.Semicolon ts >>= λ c. Ok
    (units.DeclarationPart (declaration_tree.Declares s declaration_tree.NoneDeclared c.0), c.1)

-- The parser of a declaration of the file, whose parts are at most n high, after its first declarator (C99 6.7, 6.9).
unfoldable pub behind_declarator : ℕ → Specs → Declarator → Parser External
behind_declarator n s x ts =
    initial n ts >>= λ i. next_declareds n i.1 >>= λ m. expect_punct punct.Semicolon m.1 >>= λ c. Ok (
      units.DeclarationPart (declaration_tree.Declares s (declaration_tree.SomeDeclared
          (declaration_tree.DeclaredAs x i.0) m.0) c.0),
      c.1,
    )

-- The parser of a pragma as a part of a source (UPC 6.7).
unfoldable pub pragma_part : Parser External
pragma_part ts = pragma ts >>= λ g. Ok (units.PragmaPart g.0, g.1)
