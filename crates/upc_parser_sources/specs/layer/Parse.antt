-- The parser of whole sources, as a function on lists of tokens.
use Rattle.std.specs.Prelude.{ℕ, zero, suc, false, if◌then◌else◌, List, [], ◌∷◌, Ok, Err}
use Rattle.upc_lexer.specs.declared.token.Punct.TheVariants as punct
use Rattle.upc_tree.specs.declared.span.Name.{Name}
use Rattle.upc_tree.specs.Expression as expressions
use Rattle.upc_tree.specs.Expression.{Specs, Pointers, Parameters}
use Rattle.upc_tree.specs.Unit as units
use Rattle.upc_tree.specs.Unit.{External}
use Rattle.upc_parser_ground.specs.declared.cursor.Fault.TheVariants.{NoTree, TooHigh}
use Rattle.upc_parser_ground.specs.layer.Outcome.{Parser, ◌>>=◌, is_punct, starts}
use Rattle.upc_parser_ground.specs.layer.Outcome.{name, all}
use Rattle.upc_parser_ground.specs.layer.Ahead.{is_pragma, is_any}
use Rattle.upc_parser_types.specs.layer.Expression.{at_height, specs, pointers, dimensions, parameters}
use Rattle.upc_parser_declarations.specs.layer.Parse.{none_declared, behind_declarator, pragma_part}
use Rattle.upc_parser_statements.specs.layer.Parse.{statements_at}

module _ (n : ℕ) where
  -- The parser of the body of a function, after its parameters (C99 6.9.1).
  unfoldable pub function_body : Specs → Pointers → Name → Parameters → Parser External
  function_body s stars x r ts = (statements_at n).compound ts >>= λ b. Ok (units.FunctionPart s stars x r b.0, b.1)

  -- The parser of a definition or a declaration of a function, after its parameters (C99 6.7, 6.9.1).
  abbrev pub behind_parameters : Specs → Pointers → Name → Parameters → Parser External
  behind_parameters s stars x r ts =
      if starts (is_punct punct.LBrace) ts then function_body s stars x r ts
      else behind_declarator n s (expressions.FunctionDeclarator stars x r) ts

  -- The parser of a declaration or a definition of a function, after the name in its first declarator (C99 6.7, 6.9.1).
  unfoldable pub behind_name : Specs → Pointers → Name → Parser External
  behind_name s stars x ts =
      if starts (is_punct punct.LParen) ts
      then (parameters (at_height n) ts >>= λ r. behind_parameters s stars x r.0 r.1)
      else (dimensions (at_height n) ts >>= λ m. behind_declarator n s (expressions.ObjectDeclarator stars x m.0) m.1)

  -- The parser of a declaration or a definition of a function, after its specifiers (C99 6.7, 6.9.1).
  unfoldable pub behind_specs : Specs → Parser External
  behind_specs s ts = do
    g ← pointers (at_height n) ts
    x ← name g.1
    behind_name s g.0 x.0 x.1

  -- The parser of a declaration of the file or a definition of a function (C99 6.9).
  unfoldable pub declaration_or_function : Parser External
  declaration_or_function ts =
      specs (at_height n) false ts >>= λ s. if starts (is_punct punct.Semicolon) s.1 then none_declared s.0 s.1
      else behind_specs s.0 s.1

-- The parser of a declaration of the file or a definition of a function of at most this height (C99 6.9).
unfoldable pub node_at : ℕ → Parser External
node_at zero ts = Err TooHigh
node_at (suc n) ts = declaration_or_function n ts

-- The parser of a part of a source of at most this height (C99 6.9, UPC 6.7).
abbrev pub external_at : ℕ → Parser External
external_at n ts = if starts is_pragma ts then pragma_part ts else node_at n ts

-- The parser of the parts of a source, each of at most this height, until no token is left (C99 6.9).
unfoldable pub all_externals : ℕ → Parser (List External)
all_externals n ts = all (starts is_any) (external_at n) ts

-- The parser of the parts of a source, at least one and each of at most this height (C99 6.9).
abbrev pub externals_at : ℕ → Parser (List External)
externals_at n [] = Err NoTree
externals_at n (x ∷ ts) = all_externals n (x ∷ ts)

-- The parser of a whole source of at most this height (C99 6.9).
unfoldable pub unit_at : ℕ → Parser (List External)
unit_at zero ts = Err TooHigh
unit_at (suc n) ts = externals_at n ts
