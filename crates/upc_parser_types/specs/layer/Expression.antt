-- The parser of expressions and types, as a function on lists of tokens.
use Rattle.std.specs.Prelude.{ℕ, zero, suc, ◌+◌, Bool, false, ◌&&◌, nat_le, if◌then◌else◌, List, [], ◌∷◌, length}
use Rattle.std.specs.Prelude.{Option, Some, None, Ok, Err}
use Rattle.upc_lexer.specs.declared.token.Token.{Token}
use Rattle.upc_lexer.specs.declared.token.TokenKind.{TokenKind}
use Rattle.upc_lexer.specs.declared.token.TokenKind.TheVariants as token_kind
use Rattle.upc_lexer.specs.declared.token.Punct.TheVariants as punct
use Rattle.upc_lexer.specs.declared.token.Word.TheVariants as words
use Rattle.upc_tree.specs.declared.mark.UnaryMark.{UnaryMark}
use Rattle.upc_tree.specs.declared.mark.SizeWord.{SizeWord}
use Rattle.upc_tree.specs.declared.mark.ConstantWord.TheVariants as constant_word
use Rattle.upc_tree.specs.declared.span.Span.{Span}
use Rattle.upc_tree.specs.declared.span.Name.{Name}
use Rattle.upc_tree.specs.declared.span.StringLiteral.{StringLiteral}
use Rattle.upc_tree.specs.Marks.{binary_level, operand_level}
use Rattle.upc_tree.specs.Expression as expression_tree
use Rattle.upc_tree.specs.Expression.{Expr, Arguments, NextExprs, TypeName, Specs, Spec, Quals, Qual, Layout}
use Rattle.upc_tree.specs.Expression.{Pointers, Dimensions, Members, NextDeclarators, Declarator, Parameters}
use Rattle.upc_tree.specs.Expression.{Parameter, NextParameters, ParameterArray, height}
use Rattle.upc_tree.specs.Proper.{level}
use Rattle.upc_tree.specs.layer.Lists.{next_exprs_of, specs_of, quals_of, pointers_of, dimensions_of, members_of}
use Rattle.upc_tree.specs.layer.Lists.{next_declarators_of, next_parameters_of}
use Rattle.upc_parser_ground.specs.declared.start.Prefix.{Prefix}
use Rattle.upc_parser_ground.specs.declared.start.Prefix.TheVariants as prefix
use Rattle.upc_parser_ground.specs.declared.start.Suffix.{Suffix}
use Rattle.upc_parser_ground.specs.declared.start.Suffix.TheVariants as suffix
use Rattle.upc_parser_ground.specs.declared.start.Joint.{Joint}
use Rattle.upc_parser_ground.specs.declared.start.Joint.TheVariants as joint
use Rattle.upc_parser_ground.specs.declared.start.QualWord.{QualWord}
use Rattle.upc_parser_ground.specs.declared.start.QualWord.TheVariants as qual_word
use Rattle.upc_parser_ground.specs.declared.start.SpecStart.{SpecStart}
use Rattle.upc_parser_ground.specs.declared.start.SpecStart.TheVariants as spec_start_variant
use Rattle.upc_parser_ground.specs.declared.cursor.Fault.TheVariants.{NoTree, TooHigh}
use Rattle.upc_parser_ground.specs.layer.Outcome.{
  Outcome,
  Parser,
  ◌>>=◌,
  span_of,
  is_punct,
  is_word,
  starts,
  starts_two,
}
use Rattle.upc_parser_ground.specs.layer.Outcome.{expect_punct, expect_word, name, string, all, listed}
use Rattle.upc_parser_ground.specs.layer.Tables.{prefix_of, suffix_of, joint_of, joint_level, left_least, qual_start}
use Rattle.upc_parser_ground.specs.layer.Tables.{spec_start, is_qual, is_spec, is_string}

-- ---- what needs no part

-- The parser of string literals that stand side by side (C99 6.4.5).
unfoldable pub strings : Parser (List StringLiteral)
strings ts = all (starts is_string) string ts

-- The parser of a name that may be absent, by the first token (C99 6.4.2).
abbrev pub optional_by : TokenKind → Token → Parser (Option Name)
optional_by (token_kind.Name number) x ts = Ok (Some (record { number = number; span = span_of x }), ts)
optional_by _ x ts = Ok (None, x ∷ ts)

-- The parser of a name that may be absent (C99 6.4.2).
abbrev pub optional_name : Parser (Option Name)
optional_name [] = Ok (None, [])
optional_name (x ∷ ts) = optional_by x.kind x ts

-- Whether after the first token a star and a closing bracket come, as in the layout `[*]` (UPC 6.5.1.1).
abbrev pub star_fills : List Token → Bool
star_fills [] = false
star_fills (x ∷ ts) = starts_two (is_punct punct.Star) (is_punct punct.RBracket) ts

-- Whether a parenthesis comes next, and a type after it (C99 6.5.3.4, 6.5.4).
abbrev pub opens_type : List Token → Bool
opens_type ts = starts_two (is_punct punct.LParen) (is_spec false) ts

-- ---- the parsers one level down

-- The parsers of the parts that are a level of their own: of expressions of at least some level of joining, of
-- arguments, and of structs.
pub record Level : Type 0 where
  pub expr : ℕ → Parser Expr
  pub arguments : Parser Arguments
  pub structure : Parser Spec

-- The parsers where no level is left: whatever comes is too high.
abbrev pub floor : Level
floor = record { expr = λ least ts. Err TooHigh; arguments = λ ts. Err TooHigh; structure = λ ts. Err TooHigh }

-- Whether a joint goes on with the expression so far: what it makes is joined tightly enough, and so is what stands
-- before it (C99 6.5).
abbrev pub goes_on : ℕ → Expr → Joint → Bool
goes_on least left mark = nat_le least (joint_level mark) && nat_le (left_least mark) (level left)

-- ---- types, whose parts are of the level below

module _ (below : Level) where
  -- The parser of one size in brackets (C99 6.7.5.2).
  unfoldable pub dimension : Parser (Span × Expr × Span)
  dimension ts = do
    o ← expect_punct punct.LBracket ts
    e ← below.expr 2 o.1
    c ← expect_punct punct.RBracket e.1
    Ok ((o.0, e.0, c.0), c.1)

  -- The parser of sizes in brackets (C99 6.7.5.2).
  unfoldable pub dimensions : Parser Dimensions
  dimensions ts = listed dimensions_of (starts (is_punct punct.LBracket)) dimension ts

  -- The parser of the layout `[]` (UPC 6.5.1.1).
  unfoldable pub empty_layout : Parser Layout
  empty_layout ts = do
    o ← expect_punct punct.LBracket ts
    c ← expect_punct punct.RBracket o.1
    Ok (expression_tree.IndefiniteLayout o.0 c.0, c.1)

  -- The parser of the layout `[*]` (UPC 6.5.1.1).
  unfoldable pub star_layout : Parser Layout
  star_layout ts = do
    o ← expect_punct punct.LBracket ts
    s ← expect_punct punct.Star o.1
    c ← expect_punct punct.RBracket s.1
    Ok (expression_tree.StarLayout o.0 s.0 c.0, c.1)

  -- The parser of a layout with a block size (UPC 6.5.1.1).
  unfoldable pub block_layout : Parser Layout
  block_layout ts = dimension ts >>= λ d. Ok (expression_tree.BlockLayout d.0.0 d.0.1 d.0.2, d.1)

  -- The parser of the layout of a `shared`, which may be absent (UPC 6.5.1.1).
  unfoldable pub layout : Parser Layout
  layout ts =
      if starts (is_punct punct.LBracket) ts
      then (if starts_two (is_punct punct.LBracket) (is_punct punct.RBracket) ts then empty_layout ts
      else if star_fills ts then star_layout ts else block_layout ts)
      else Ok (expression_tree.NoLayout, ts)

  -- The parser of a qualifier after its word (C99 6.7.3, UPC 6.5.1).
  unfoldable pub qual_by : QualWord → Span → Parser Qual
  qual_by qual_word.Const span ts = Ok (expression_tree.Const span, ts)
  qual_by qual_word.Strict span ts = Ok (expression_tree.Strict span, ts)
  qual_by qual_word.Relaxed span ts = Ok (expression_tree.Relaxed span, ts)
  qual_by qual_word.Shared span ts = layout ts >>= λ l. Ok (expression_tree.Shared span l.0, l.1)

  -- The parser of a qualifier after its word, where the first token is one (C99 6.7.3, UPC 6.5.1).
  abbrev pub qual_from : Option QualWord → Span → Parser Qual
  qual_from None span ts = Err NoTree
  qual_from (Some word) span ts = qual_by word span ts

  -- The parser of a qualifier (C99 6.7.3, UPC 6.5.1).
  unfoldable pub qual : Parser Qual
  qual [] = Err NoTree
  qual (x ∷ ts) = qual_from (qual_start x.kind) (span_of x) ts

  -- The parser of the qualifiers after a star (C99 6.7.5.1).
  unfoldable pub quals : Parser Quals
  quals ts = listed quals_of (starts is_qual) qual ts

  -- The parser of a star with its qualifiers (C99 6.7.5.1).
  unfoldable pub pointer : Parser (Span × Quals)
  pointer ts = do
    s ← expect_punct punct.Star ts
    q ← quals s.1
    Ok ((s.0, q.0), q.1)

  -- The parser of stars with their qualifiers (C99 6.7.5.1).
  unfoldable pub pointers : Parser Pointers
  pointers ts = listed pointers_of (starts (is_punct punct.Star)) pointer ts

  -- The parser of a specifier or qualifier, by what its first token begins (C99 6.7.1 to 6.7.3).
  abbrev pub spec_from : Option SpecStart → Token → Parser Spec
  spec_from None x ts = Err NoTree
  spec_from (Some (spec_start_variant.Type word)) x ts = Ok (expression_tree.WordSpec word (span_of x), ts)
  spec_from (Some (spec_start_variant.Qual word)) x ts = qual_by word (span_of x) ts >>= λ q. Ok
      (expression_tree.QualSpec q.0, q.1)
  spec_from (Some spec_start_variant.Struct) x ts = below.structure (x ∷ ts)

  -- The parser of a specifier or qualifier (C99 6.7.1 to 6.7.3).
  unfoldable pub spec : Parser Spec
  spec [] = Err NoTree
  spec (x ∷ ts) = spec_from (spec_start x.kind) x ts

  -- The parser of at least one specifier or qualifier, without `static` at block scope (C99 6.7).
  unfoldable pub specs : Bool → Parser Specs
  specs local ts = if starts (is_spec local) ts then listed specs_of (starts (is_spec local)) spec ts else Err NoTree

  -- The parser of a type name without sizes, as it stands in a cast (C99 6.5.4, 6.7.6).
  unfoldable pub plain_type : Parser TypeName
  plain_type ts = do
    s ← specs false ts
    p ← pointers s.1
    Ok (expression_tree.Typed s.0 p.0 expression_tree.NoDimensions, p.1)

  -- The parser of a type name, which may have sizes (C99 6.7.6).
  unfoldable pub type_name : Parser TypeName
  type_name ts = do
    s ← specs false ts
    p ← pointers s.1
    d ← dimensions p.1
    Ok (expression_tree.Typed s.0 p.0 d.0, d.1)

  -- ---- declarators

  -- The parser of the empty brackets of a parameter (C99 6.7.5.3).
  unfoldable pub unsized_array : Parser ParameterArray
  unsized_array ts = do
    o ← expect_punct punct.LBracket ts
    c ← expect_punct punct.RBracket o.1
    Ok (expression_tree.UnsizedArray o.0 c.0, c.1)

  -- The parser of the brackets of a parameter with a size (C99 6.7.5.3).
  unfoldable pub sized_array : Parser ParameterArray
  sized_array ts = dimension ts >>= λ d. Ok (expression_tree.SizedArray d.0.0 d.0.1 d.0.2, d.1)

  -- The parser of the brackets of a parameter, which may be absent (C99 6.7.5.3).
  unfoldable pub array : Parser ParameterArray
  array ts =
      if starts (is_punct punct.LBracket) ts
      then (if starts_two (is_punct punct.LBracket) (is_punct punct.RBracket) ts then unsized_array ts else sized_array
      ts)
      else Ok (expression_tree.NoArray, ts)

  -- The parser of a parameter (C99 6.7.5.3).
  unfoldable pub parameter : Parser Parameter
  parameter ts = do
    s ← specs false ts
    p ← pointers s.1
    x ← optional_name p.1
    a ← array x.1
    Ok (expression_tree.Parametric s.0 p.0 x.0 a.0, a.1)

  -- The parser of a further parameter after its comma (C99 6.7.5.3).
  unfoldable pub next_parameter : Parser (Span × Parameter)
  next_parameter ts = do
    c ← expect_punct punct.Comma ts
    x ← parameter c.1
    Ok ((c.0, x.0), x.1)

  -- The parser of further parameters, each after its comma (C99 6.7.5.3).
  unfoldable pub next_parameters : Parser NextParameters
  next_parameters ts = listed next_parameters_of (starts (is_punct punct.Comma)) next_parameter ts

  -- The parser of no parameters, after their opening parenthesis (C99 6.7.5.3).
  unfoldable pub no_parameters : Span → Parser Parameters
  no_parameters left ts = expect_punct punct.RParen ts >>= λ c. Ok (expression_tree.NoParameters left c.0, c.1)

  -- The parser of a single `void` for no parameters, after their opening parenthesis (C99 6.7.5.3).
  unfoldable pub void_parameters : Span → Parser Parameters
  void_parameters left ts = do
    v ← expect_word words.Void ts
    c ← expect_punct punct.RParen v.1
    Ok (expression_tree.VoidParameters left v.0 c.0, c.1)

  -- The parser of at least one parameter, after the opening parenthesis (C99 6.7.5.3).
  unfoldable pub some_parameters : Span → Parser Parameters
  some_parameters left ts = do
    f ← parameter ts
    m ← next_parameters f.1
    c ← expect_punct punct.RParen m.1
    Ok (expression_tree.SomeParameters left f.0 m.0 c.0, c.1)

  -- The parser of the parameters of a function, after their opening parenthesis (C99 6.7.5.3).
  unfoldable pub parameters_in : Span → Parser Parameters
  parameters_in left ts =
      if starts (is_punct punct.RParen) ts then no_parameters left ts
      else if starts_two (is_word words.Void) (is_punct punct.RParen) ts then void_parameters left ts
      else some_parameters left ts

  -- The parser of the parameters of a function in their parentheses (C99 6.7.5.3).
  unfoldable pub parameters : Parser Parameters
  parameters ts = expect_punct punct.LParen ts >>= λ o. parameters_in o.0 o.1

  -- The parser of a declarator after its name: with parameters that of a function, else that of an object with its
  -- sizes (C99 6.7.5).
  unfoldable pub declarator_by : Pointers → Name → Parser Declarator
  declarator_by stars x ts =
      if starts (is_punct punct.LParen) ts
      then (parameters ts >>= λ r. Ok (expression_tree.FunctionDeclarator stars x r.0, r.1))
      else (dimensions ts >>= λ d. Ok (expression_tree.ObjectDeclarator stars x d.0, d.1))

  -- The parser of a declarator (C99 6.7.5).
  unfoldable pub declarator : Parser Declarator
  declarator ts = do
    s ← pointers ts
    x ← name s.1
    declarator_by s.0 x.0 x.1

  -- The parser of a further declarator after its comma (C99 6.7.2.1).
  unfoldable pub next_declarator : Parser (Span × Declarator)
  next_declarator ts = do
    c ← expect_punct punct.Comma ts
    d ← declarator c.1
    Ok ((c.0, d.0), d.1)

  -- The parser of further declarators, each after its comma (C99 6.7.2.1).
  unfoldable pub next_declarators : Parser NextDeclarators
  next_declarators ts = listed next_declarators_of (starts (is_punct punct.Comma)) next_declarator ts

  -- ---- structs, which are one level up

  -- The parser of one declaration of members (C99 6.7.2.1).
  unfoldable pub member : Parser (Specs × Declarator × NextDeclarators × Span)
  member ts = do
    s ← specs false ts
    f ← declarator s.1
    n ← next_declarators f.1
    c ← expect_punct punct.Semicolon n.1
    Ok ((s.0, f.0, n.0, c.0), c.1)

  -- The parser of the declarations of the members of a struct (C99 6.7.2.1).
  unfoldable pub members : Parser Members
  members ts = listed members_of (starts (is_spec false)) member ts

  -- The parser of the members of a struct in their braces, after its tag (C99 6.7.2.1).
  unfoldable pub struct_body : Span → Name → Parser Spec
  struct_body word tag ts = do
    o ← expect_punct punct.LBrace ts
    m ← members o.1
    c ← expect_punct punct.RBrace m.1
    Ok (expression_tree.StructSpec word tag o.0 m.0 c.0, c.1)

  -- The parser of a struct after its tag, with its members or without (C99 6.7.2.1, 6.7.2.3).
  abbrev pub struct_by : Span → Name → Parser Spec
  struct_by word tag ts = if starts (is_punct punct.LBrace) ts then struct_body word tag ts else Ok
      (expression_tree.TagSpec word tag, ts)

  -- The parser of a struct as a specifier (C99 6.7.2.1, 6.7.2.3).
  unfoldable pub structure : Parser Spec
  structure ts = do
    s ← expect_word words.Struct ts
    x ← name s.1
    struct_by s.0 x.0 x.1

  -- ---- lists of expressions

  -- The parser of a further expression after its comma (C99 6.5.2.2, 6.5.17, 6.7.8).
  unfoldable pub next_expr : Parser (Span × Expr)
  next_expr ts = do
    c ← expect_punct punct.Comma ts
    e ← below.expr 1 c.1
    Ok ((c.0, e.0), e.1)

  -- The parser of further expressions, each after its comma (C99 6.5.2.2, 6.5.17, 6.7.8).
  unfoldable pub next_exprs : Parser NextExprs
  next_exprs ts = listed next_exprs_of (starts (is_punct punct.Comma)) next_expr ts

  -- The parser of at least one argument of a call, up to the closing parenthesis (C99 6.5.2.2).
  unfoldable pub some_arguments : Parser Arguments
  some_arguments ts = do
    f ← below.expr 1 ts
    m ← next_exprs f.1
    c ← expect_punct punct.RParen m.1
    Ok (expression_tree.SomeArguments f.0 m.0 c.0, c.1)

  -- The parser of no arguments of a call, up to the closing parenthesis (C99 6.5.2.2).
  abbrev pub no_arguments : Parser Arguments
  no_arguments ts = expect_punct punct.RParen ts >>= λ c. Ok (expression_tree.NoArguments c.0, c.1)

  -- The parser of the arguments of a call, up to the closing parenthesis (C99 6.5.2.2).
  unfoldable pub arguments : Parser Arguments
  arguments ts = if starts (is_punct punct.RParen) ts then no_arguments ts else some_arguments ts

  -- ---- expressions that begin with an operator

  -- The parser of an expression that begins with an operator, after the operator (C99 6.5.3).
  unfoldable pub unary : UnaryMark → Span → Parser Expr
  unary mark at ts = below.expr (operand_level mark) ts >>= λ e. Ok (expression_tree.Unary mark at e.0, e.1)

  -- The parser of a size operator with a type in parentheses, after its word (C99 6.5.3.4, UPC 6.4.1).
  unfoldable pub size_type : SizeWord → Span → Parser Expr
  size_type word at ts = do
    o ← expect_punct punct.LParen ts
    n ← type_name o.1
    c ← expect_punct punct.RParen n.1
    Ok (expression_tree.SizeOfType word at o.0 n.0 c.0, c.1)

  -- The parser of a size operator with an expression, after its word (C99 6.5.3.4, UPC 6.4.1).
  unfoldable pub size_expr : SizeWord → Span → Parser Expr
  size_expr word at ts = below.expr 14 ts >>= λ e. Ok (expression_tree.SizeOfExpr word at e.0, e.1)

  -- The parser of a size operator, after its word (C99 6.5.3.4, UPC 6.4.1).
  abbrev pub size : SizeWord → Span → Parser Expr
  size word at ts = if opens_type ts then size_type word at ts else size_expr word at ts

  -- The parser of a cast (C99 6.5.4).
  unfoldable pub cast : Parser Expr
  cast ts = do
    o ← expect_punct punct.LParen ts
    n ← plain_type o.1
    c ← expect_punct punct.RParen n.1
    e ← below.expr 13 c.1
    Ok (expression_tree.Cast o.0 n.0 c.0 e.0, e.1)

  -- ---- expressions that begin otherwise

  -- The parser of an expression in parentheses, after the first of them (C99 6.5.1).
  unfoldable pub paren : Span → Parser Expr
  paren left ts = do
    e ← below.expr 0 ts
    c ← expect_punct punct.RParen e.1
    Ok (expression_tree.Paren left e.0 c.0, c.1)

  -- The parser of a primary expression, after its first token (C99 6.5.1; UPC 6.3).
  abbrev pub primary_by : TokenKind → Span → Parser Expr
  primary_by (token_kind.Name number) span ts = Ok (expression_tree.Named (record { number = number; span = span }), ts)
  primary_by (token_kind.Number value kind) span ts = Ok (expression_tree.Number value kind span, ts)
  primary_by (token_kind.Character value) span ts = Ok (expression_tree.Character value span, ts)
  primary_by (token_kind.Str bytes) span ts = strings ts >>= λ m. Ok
      (expression_tree.Strings (record { bytes = bytes; span = span }) m.0, m.1)
  primary_by (token_kind.Word words.Mythread) span ts = Ok (expression_tree.Constant constant_word.Mythread span, ts)
  primary_by (token_kind.Word words.Threads) span ts = Ok (expression_tree.Constant constant_word.Threads span, ts)
  primary_by (token_kind.Word words.UpcMaxBlockSize) span ts = Ok
      (expression_tree.Constant constant_word.MaxBlockSize span, ts)
  primary_by (token_kind.Punct punct.LParen) span ts = paren span ts
  primary_by _ span ts = Err NoTree

-- ---- expressions; n is the height that is allowed below

module _ (n : ℕ) (below : Level) where
  -- A tree over the expression that stands before, or that it is too high where that expression is higher than n.
  abbrev pub grown : Expr → Expr → List Token → Outcome Expr
  grown base u ts = if nat_le (height base) n then Ok (u, ts) else Err TooHigh

  -- The parser of a subscript, a call, a member or a `++` or `--` after an expression, after its first token
  -- (C99 6.5.2).
  abbrev pub suffixed : Suffix → Expr → Span → Parser Expr
  suffixed suffix.Subscript base at ts = do
    e ← below.expr 0 ts
    c ← expect_punct punct.RBracket e.1
    grown base (expression_tree.Subscript base at e.0 c.0) c.1
  suffixed suffix.Call base at ts = below.arguments ts >>= λ a. grown base (expression_tree.Call base at a.0) a.1
  suffixed (suffix.Member mark) base at ts = name ts >>= λ x. grown base (expression_tree.MemberOf base mark at x.0) x.1
  suffixed (suffix.Step mark) base at ts = grown base (expression_tree.Postfix base mark at) ts

  -- The parser of an expression and what goes on with it directly after it, by the next token (C99 6.5.2).
  abbrev pub postfix_by : (Expr → Parser Expr) → Expr → Option Suffix → Token → Parser Expr
  postfix_by more base None x ts = Ok (base, x ∷ ts)
  postfix_by more base (Some mark) x ts = suffixed mark base (span_of x) ts >>= λ u. more u.0 u.1

  -- The parser of an expression and of at most so many parts that go on with it directly after it (C99 6.5.2).
  unfoldable pub postfix : ℕ → Expr → Parser Expr
  postfix zero base ts = Ok (base, ts)
  postfix (suc count) base [] = Ok (base, [])
  postfix (suc count) base (x ∷ ts) = postfix_by (postfix count) base (suffix_of x.kind) x ts

  -- The parser of a primary expression and what goes on with it directly after it, after its first token (C99 6.5.1,
  -- 6.5.2).
  unfoldable pub primary : Token → Parser Expr
  primary x ts = primary_by below x.kind (span_of x) ts >>= λ f. postfix (length f.1) f.0 f.1

  -- The parser of an expression without joints, by its first token; a cast is no operand of `++` and `--` (C99 6.5.2 to
  -- 6.5.4).
  abbrev pub prefix_by : ℕ → Prefix → Token → Parser Expr
  prefix_by least (prefix.Unary mark) x ts = unary below mark (span_of x) ts
  prefix_by least (prefix.Size word) x ts = size below word (span_of x) ts
  prefix_by least prefix.Other x ts =
      if opens_type (x ∷ ts) then (if nat_le least 13 then cast below (x ∷ ts) else Err NoTree) else primary x ts

  -- The parser of an expression without joints (C99 6.5.2 to 6.5.4).
  unfoldable pub first : ℕ → Parser Expr
  first least [] = Err NoTree
  first least (x ∷ ts) = prefix_by least (prefix_of x.kind) x ts

  -- The parser of a comma expression, after its first part (C99 6.5.17).
  unfoldable pub joined_comma : Expr → Parser Expr
  joined_comma left ts = next_exprs below ts >>= λ m. grown left (expression_tree.Comma left m.0) m.1

  -- The parser of a conditional expression, after its question mark (C99 6.5.15).
  unfoldable pub conditional : Expr → Span → Parser Expr
  conditional left at ts = do
    y ← below.expr 0 ts
    c ← expect_punct punct.Colon y.1
    z ← below.expr 2 c.1
    grown left (expression_tree.Conditional left at y.0 c.0 z.0) z.1

  -- The parser of what a joint makes of the expression before it, after the token of the joint (C99 6.5.5 to 6.5.17).
  abbrev pub joined : Joint → Expr → Token → Parser Expr
  joined joint.Comma left x ts = joined_comma left (x ∷ ts)
  joined (joint.Assign mark) left x ts = below.expr 1 ts >>= λ e. grown left
      (expression_tree.Assign left mark (span_of x) e.0) e.1
  joined joint.Question left x ts = conditional left (span_of x) ts
  joined (joint.Binary mark) left x ts = do
    e ← below.expr (binary_level mark + 1) ts
    grown left (expression_tree.Binary left mark (span_of x) e.0) e.1

  -- The parser of what a joint makes of the expression before it, from the token of the joint on (C99 6.5.5 to 6.5.17).
  abbrev pub joined_at : Joint → Expr → Parser Expr
  joined_at mark left [] = Err NoTree
  joined_at mark left (x ∷ ts) = joined mark left x ts

  -- The parser of an expression and what joints go on with it, by the next token (C99 6.5).
  abbrev pub climb_by : (Expr → Parser Expr) → ℕ → Expr → Option Joint → Token → Parser Expr
  climb_by more least left None x ts = Ok (left, x ∷ ts)
  climb_by more least left (Some mark) x ts =
      if goes_on least left mark then (joined mark left x ts >>= λ u. more u.0 u.1) else Ok (left, x ∷ ts)

  -- The parser of an expression and of at most so many joints that go on with it, each of at least this level
  -- (C99 6.5).
  unfoldable pub climb : ℕ → ℕ → Expr → Parser Expr
  climb zero least left ts = Ok (left, ts)
  climb (suc count) least left [] = Ok (left, [])
  climb (suc count) least left (x ∷ ts) = climb_by (climb count least) least left (joint_of x.kind) x ts

  -- The parser of an expression of at least this level of joining (C99 6.5).
  unfoldable pub expr : ℕ → Parser Expr
  expr least ts = first least ts >>= λ u. climb (length u.1) least u.0 u.1

  -- The parsers one level higher than those below.
  abbrev pub level_above : Level
  level_above = record { expr = expr; arguments = arguments below; structure = structure below }

-- The parsers of trees of at most this height.
unfoldable pub at_height : ℕ → Level
at_height zero = floor
at_height (suc n) = level_above n (at_height n)
