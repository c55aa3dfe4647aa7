-- The parser of statements, as a function on lists of tokens.
use Rattle.std.specs.Prelude.{ℕ, zero, suc, Bool, true, not, if◌then◌else◌, [], ◌∷◌, Ok, Err}
use Rattle.upc_lexer.specs.declared.token.Token.{Token}
use Rattle.upc_lexer.specs.declared.token.TokenKind.{TokenKind}
use Rattle.upc_lexer.specs.declared.token.Punct.TheVariants as punct
use Rattle.upc_lexer.specs.declared.token.Word.TheVariants as words
use Rattle.upc_tree.specs.declared.span.Span.{Span}
use Rattle.upc_tree.specs.Statement as statement_tree
use Rattle.upc_tree.specs.Statement.{Test, Statement, Compound, BlockItem, BlockItems, SwitchItem, SwitchItems}
use Rattle.upc_tree.specs.Statement.{ElseIfs, Otherwise}
use Rattle.upc_tree.specs.layer.Lists.{block_items_of, switch_items_of, else_ifs_of}
use Rattle.upc_parser_ground.specs.declared.cursor.Fault.TheVariants.{NoTree, TooHigh}
use Rattle.upc_parser_ground.specs.layer.Outcome.{
  Parser,
  ◌>>=◌,
  span_of,
  is_punct,
  is_word,
  starts,
  starts_two,
  expect_punct,
}
use Rattle.upc_parser_ground.specs.layer.Outcome.{expect_word, listed}
use Rattle.upc_parser_ground.specs.layer.Tables.{is_spec}
use Rattle.upc_parser_statements.specs.declared.start.StatementStart.{StatementStart}
use Rattle.upc_parser_statements.specs.declared.start.StatementStart.TheVariants as start
use Rattle.upc_parser_statements.specs.layer.Tables.{statement_start}
unfoldable pub use Rattle.upc_parser_declarations.specs.layer.Parse.{
  value_initial,
  list_initial,
  initial,
  declared,
  next_declared,
}
unfoldable pub use Rattle.upc_parser_declarations.specs.layer.Parse.{
  next_declareds,
  some_declared,
  declaration,
  declaration_at,
}
unfoldable pub use Rattle.upc_parser_declarations.specs.layer.Parse.{continue_affinity, value, controlling, first_value}
unfoldable pub use Rattle.upc_parser_declarations.specs.layer.Parse.{
  first_declaration,
  value_affinity,
  for_head,
  forall_head,
}
unfoldable pub use Rattle.upc_parser_declarations.specs.layer.Parse.{
  pragmas,
  declaration_item,
  case_item,
  value_statement,
}
unfoldable pub use Rattle.upc_parser_declarations.specs.layer.Parse.{return_statement, barrier_statement, default_item}
unfoldable pub use Rattle.upc_parser_declarations.specs.layer.Parse.{
  break_statement,
  continue_statement,
  fence_statement,
}
unfoldable pub use Rattle.upc_parser_declarations.specs.layer.Parse.{none_declared, behind_declarator, pragma_part}
pub use Rattle.upc_parser_declarations.specs.layer.Parse.{declared_list, first, affinity, pragma_by, pragma}

-- Whether a token is any but a closing brace.
abbrev pub no_brace : TokenKind → Bool
no_brace kind = not (is_punct punct.RBrace kind)

-- ---- the parsers of statements one level down

-- The parsers of the parts that are a level of their own: of statements, of compound statements and their lists, and of
-- the bodies of switches.
pub record Statements : Type 0 where
  pub statement : Parser Statement
  pub compound : Parser Compound
  pub items : Parser BlockItems
  pub switch_items : Parser SwitchItems

-- The parsers where no level is left: whatever comes is too high.
abbrev pub floor : Statements
floor =
    record {
      statement = λ ts. Err TooHigh;
      compound = λ ts. Err TooHigh;
      items = λ ts. Err TooHigh;
      switch_items
          = λ ts. Err TooHigh;
    }

module _ (n : ℕ) (below : Statements) where
  -- ---- lists

  -- The parser of a statement of a block (C99 6.8.2).
  unfoldable pub statement_item : Parser BlockItem
  statement_item ts = below.statement ts >>= λ x. Ok (statement_tree.StatementItem x.0, x.1)

  -- The parser of a declaration or a statement of a block (C99 6.8.2).
  abbrev pub item : Parser BlockItem
  item ts = if starts (is_spec true) ts then declaration_item n ts else statement_item ts

  -- The parser of the declarations and statements of a block (C99 6.8.2).
  unfoldable pub items : Parser BlockItems
  items ts = listed block_items_of (starts no_brace) item ts

  -- The parser of a statement of a `switch` (C99 6.8.4.2).
  unfoldable pub switch_statement : Parser SwitchItem
  switch_statement ts = below.statement ts >>= λ x. Ok (statement_tree.SwitchStatement x.0, x.1)

  -- The parser of a label or a statement of a `switch` (C99 6.8.1, 6.8.4.2).
  abbrev pub switch_item : Parser SwitchItem
  switch_item ts =
      if starts (is_word words.Case) ts then case_item n ts
      else if starts (is_word words.Default) ts then default_item ts
      else switch_statement ts

  -- The parser of the labels and statements of a `switch` (C99 6.8.1, 6.8.4.2).
  unfoldable pub switch_items : Parser SwitchItems
  switch_items ts = listed switch_items_of (starts no_brace) switch_item ts

  -- ---- statements

  -- The parser of a compound statement with its pragmas (C99 6.8.2, UPC 6.7).
  unfoldable pub compound : Parser Compound
  compound ts = do
    o ← expect_punct punct.LBrace ts
    g ← pragmas o.1
    b ← below.items g.1
    c ← expect_punct punct.RBrace b.1
    Ok (statement_tree.Braces o.0 g.0 b.0 c.0, c.1)

  -- The parser of a further arm of an `if` (C99 6.8.4.1).
  unfoldable pub else_if : Parser (Span × Span × Test × Statement)
  else_if ts = do
    e ← expect_word words.Else ts
    a ← expect_word words.If e.1
    h ← controlling n a.1
    b ← below.statement h.1
    Ok ((e.0, a.0, h.0, b.0), b.1)

  -- The parser of the further arms of an `if` (C99 6.8.4.1).
  unfoldable pub else_ifs : Parser ElseIfs
  else_ifs ts = listed else_ifs_of (starts_two (is_word words.Else) (is_word words.If)) else_if ts

  -- The parser of the last arm of an `if`, from its `else` on (C99 6.8.4.1).
  unfoldable pub else_part : Parser Otherwise
  else_part ts = do
    e ← expect_word words.Else ts
    b ← below.statement e.1
    Ok (statement_tree.Else e.0 b.0, b.1)

  -- The parser of the last arm of an `if`, which may be absent (C99 6.8.4.1).
  abbrev pub otherwise : Parser Otherwise
  otherwise ts = if starts (is_word words.Else) ts then else_part ts else Ok (statement_tree.NoOtherwise, ts)

  -- The parser of an `if`, after its word (C99 6.8.4.1).
  unfoldable pub if_statement : Span → Parser Statement
  if_statement at ts = do
    h ← controlling n ts
    b ← below.statement h.1
    m ← else_ifs b.1
    o ← otherwise m.1
    Ok (statement_tree.If at h.0 b.0 m.0 o.0, o.1)

  -- The parser of a `switch`, after its word (C99 6.8.4.2).
  unfoldable pub switch : Span → Parser Statement
  switch at ts = do
    h ← controlling n ts
    o ← expect_punct punct.LBrace h.1
    b ← below.switch_items o.1
    c ← expect_punct punct.RBrace b.1
    Ok (statement_tree.Switch at h.0 o.0 b.0 c.0, c.1)

  -- The parser of a `while`, after its word (C99 6.8.5.1).
  unfoldable pub while_statement : Span → Parser Statement
  while_statement at ts = do
    h ← controlling n ts
    b ← below.statement h.1
    Ok (statement_tree.While at h.0 b.0, b.1)

  -- The parser of a `do`, after its word (C99 6.8.5.2).
  unfoldable pub do_statement : Span → Parser Statement
  do_statement at ts = do
    b ← below.statement ts
    u ← expect_word words.While b.1
    h ← controlling n u.1
    c ← expect_punct punct.Semicolon h.1
    Ok (statement_tree.DoWhile at b.0 u.0 h.0 c.0, c.1)

  -- The parser of a `for`, after its word (C99 6.8.5.3).
  unfoldable pub for_statement : Span → Parser Statement
  for_statement at ts = do
    h ← for_head n ts
    b ← below.statement h.1
    Ok (statement_tree.For at h.0 b.0, b.1)

  -- The parser of a `upc_forall`, after its word (UPC 6.6.2).
  unfoldable pub forall_statement : Span → Parser Statement
  forall_statement at ts = do
    h ← forall_head n ts
    b ← below.statement h.1
    Ok (statement_tree.Forall at h.0 b.0, b.1)

  -- The parser of a compound statement as a statement (C99 6.8.2).
  unfoldable pub block : Parser Statement
  block ts = compound ts >>= λ c. Ok (statement_tree.Block c.0, c.1)

  -- The parser of a statement that begins with a word, after this word (C99 6.8, UPC 6.6).
  abbrev pub statement_from : StatementStart → Span → Parser Statement
  statement_from start.If at ts = if_statement at ts
  statement_from start.Switch at ts = switch at ts
  statement_from start.While at ts = while_statement at ts
  statement_from start.Do at ts = do_statement at ts
  statement_from start.For at ts = for_statement at ts
  statement_from start.Forall at ts = forall_statement at ts
  statement_from start.Break at ts = break_statement at ts
  statement_from start.Continue at ts = continue_statement at ts
  statement_from start.Return at ts = return_statement n at ts
  statement_from (start.Barrier kind) at ts = barrier_statement n kind at ts
  statement_from start.Fence at ts = fence_statement at ts
  statement_from start.Block at ts = Err NoTree
  statement_from start.Value at ts = Err NoTree

  -- The parser of a statement, by what its first token begins (C99 6.8, UPC 6.6).
  abbrev pub statement_by : StatementStart → Token → Parser Statement
  statement_by start.Block x ts = block (x ∷ ts)
  statement_by start.Value x ts = value_statement n (x ∷ ts)
  statement_by other x ts = statement_from other (span_of x) ts

  -- The parser of a statement (C99 6.8, UPC 6.6).
  unfoldable pub statement : Parser Statement
  statement [] = Err NoTree
  statement (x ∷ ts) = statement_by (statement_start x.kind) x ts

  -- The parsers one level higher than those below.
  abbrev pub level_above : Statements
  level_above = record { statement = statement; compound = compound; items = items; switch_items = switch_items }

-- The parsers of statements and their parts of at most this height.
unfoldable pub statements_at : ℕ → Statements
statements_at zero = floor
statements_at (suc n) = level_above n (statements_at n)
