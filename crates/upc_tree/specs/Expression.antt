-- Expressions and types: their trees, their tokens and their heights.
-- A tree of the grammar is a value here: each line of the grammar is a constructor, and each `Span` the place of a
-- token.
use Rattle.std.specs.Prelude.{ℕ, ◌+◌, max, List, ◌∷◌, Option, Some, None}
use Rattle.upc_lexer.specs.declared.token.Token.{Token}
use Rattle.upc_lexer.specs.declared.token.TokenKind.TheVariants as token_kind
use Rattle.upc_lexer.specs.declared.token.NumberKind.{NumberKind}
use Rattle.upc_lexer.specs.declared.token.Punct.TheVariants as puncts
use Rattle.upc_lexer.specs.declared.token.Word.TheVariants as words
use Rattle.upc_tree.specs.declared.mark.UnaryMark.{UnaryMark}
use Rattle.upc_tree.specs.declared.mark.PostfixMark.{PostfixMark}
use Rattle.upc_tree.specs.declared.mark.MemberMark.{MemberMark}
use Rattle.upc_tree.specs.declared.mark.BinaryMark.{BinaryMark}
use Rattle.upc_tree.specs.declared.mark.AssignMark.{AssignMark}
use Rattle.upc_tree.specs.declared.mark.SizeWord.{SizeWord}
use Rattle.upc_tree.specs.declared.mark.ConstantWord.{ConstantWord}
use Rattle.upc_tree.specs.declared.mark.TypeWord.{TypeWord}
use Rattle.upc_tree.specs.declared.span.Span.{Span}
use Rattle.upc_tree.specs.declared.span.Name.{Name}
use Rattle.upc_tree.specs.declared.span.StringLiteral.{StringLiteral}
use Rattle.upc_tree.specs.Marks.{unary_punct, postfix_punct, member_punct, binary_punct, assign_punct, size_word}
use Rattle.upc_tree.specs.Marks.{constant_word, type_word}
use Rattle.upc_tree.specs.Tokens.{token, punct, word, name_token, string_token, spell_strings}

mutual
  -- An expression (C99 6.5).
  pub data Expr : Type 0 where
    Named : (name : Name) → Expr
    Number : (value : ℕ) (kind : NumberKind) (span : Span) → Expr
    Character : (value : ℕ) (span : Span) → Expr
    Strings : (first : StringLiteral) (more : List StringLiteral) → Expr
    Constant : (word : ConstantWord) (span : Span) → Expr
    Paren : (left : Span) (inner : Expr) (right : Span) → Expr
    Subscript : (base : Expr) (left : Span) (index : Expr) (right : Span) → Expr
    Call : (callee : Expr) (left : Span) (arguments : Arguments) → Expr
    MemberOf : (base : Expr) (mark : MemberMark) (at : Span) (member : Name) → Expr
    Postfix : (base : Expr) (mark : PostfixMark) (at : Span) → Expr
    Unary : (mark : UnaryMark) (at : Span) (operand : Expr) → Expr
    SizeOfExpr : (word : SizeWord) (at : Span) (operand : Expr) → Expr
    SizeOfType : (word : SizeWord) (at left : Span) (operand : TypeName) (right : Span) → Expr
    Cast : (left : Span) (target : TypeName) (right : Span) (operand : Expr) → Expr
    Binary : (a : Expr) (mark : BinaryMark) (at : Span) (b : Expr) → Expr
    Assign : (a : Expr) (mark : AssignMark) (at : Span) (b : Expr) → Expr
    Conditional : (test : Expr) (question : Span) (chosen : Expr) (colon : Span) (other : Expr) → Expr
    Comma : (first : Expr) (more : NextExprs) → Expr

  -- The arguments of a call, up to the parenthesis after them (C99 6.5.2.2).
  pub data Arguments : Type 0 where
    NoArguments : (right : Span) → Arguments
    SomeArguments : (first : Expr) (more : NextExprs) (right : Span) → Arguments

  -- Further expressions of a list, each after its comma (C99 6.5.2.2, 6.5.17, 6.7.8).
  pub data NextExprs : Type 0 where
    NoNextExprs : NextExprs
    AndExpr : (comma : Span) (value : Expr) (more : NextExprs) → NextExprs

  -- A type name, which may have sizes only as the operand of a size operator (C99 6.7.6).
  pub data TypeName : Type 0 where
    Typed : (specs : Specs) (pointers : Pointers) (sizes : Dimensions) → TypeName

  -- The specifiers and qualifiers of a declaration or a type name, in order (C99 6.7).
  pub data Specs : Type 0 where
    NoSpecs : Specs
    AndSpec : (spec : Spec) (more : Specs) → Specs

  -- A specifier or a qualifier (C99 6.7.1 to 6.7.3).
  pub data Spec : Type 0 where
    WordSpec : (word : TypeWord) (span : Span) → Spec
    QualSpec : (qual : Qual) → Spec
    TagSpec : (word : Span) (tag : Name) → Spec
    StructSpec : (word : Span) (tag : Name) (left : Span) (members : Members) (right : Span) → Spec

  -- The qualifiers after a star, in order (C99 6.7.5.1).
  pub data Quals : Type 0 where
    NoQuals : Quals
    AndQual : (qual : Qual) (more : Quals) → Quals

  -- A qualifier (C99 6.7.3, UPC 6.5.1).
  pub data Qual : Type 0 where
    Const : (word : Span) → Qual
    Strict : (word : Span) → Qual
    Relaxed : (word : Span) → Qual
    Shared : (word : Span) (layout : Layout) → Qual

  -- The layout of a `shared`: none, `[]`, `[*]` or a block size (UPC 6.5.1.1).
  pub data Layout : Type 0 where
    NoLayout : Layout
    IndefiniteLayout : (left right : Span) → Layout
    StarLayout : (left star right : Span) → Layout
    BlockLayout : (left : Span) (size : Expr) (right : Span) → Layout

  -- Stars, each with its qualifiers (C99 6.7.5.1).
  pub data Pointers : Type 0 where
    NoPointers : Pointers
    AndPointer : (star : Span) (quals : Quals) (more : Pointers) → Pointers

  -- Sizes in brackets (C99 6.7.5.2).
  pub data Dimensions : Type 0 where
    NoDimensions : Dimensions
    AndDimension : (left : Span) (size : Expr) (right : Span) (more : Dimensions) → Dimensions

  -- The declarations of the members of a struct (C99 6.7.2.1).
  pub data Members : Type 0 where
    NoMembers : Members
    AndMember : (specs : Specs) (first : Declarator) (next : NextDeclarators) (semicolon : Span) (more : Members)
        → Members

  -- Further declarators in a declaration of members, each after its comma (C99 6.7.2.1).
  pub data NextDeclarators : Type 0 where
    NoNextDeclarators : NextDeclarators
    AndDeclarator : (comma : Span) (declarator : Declarator) (more : NextDeclarators) → NextDeclarators

  -- A declarator of an object or of a function (C99 6.7.5).
  pub data Declarator : Type 0 where
    ObjectDeclarator : (pointers : Pointers) (name : Name) (sizes : Dimensions) → Declarator
    FunctionDeclarator : (pointers : Pointers) (name : Name) (parameters : Parameters) → Declarator

  -- The parameters of a function, in their parentheses (C99 6.7.5.3).
  pub data Parameters : Type 0 where
    NoParameters : (left right : Span) → Parameters
    VoidParameters : (left word right : Span) → Parameters
    SomeParameters : (left : Span) (first : Parameter) (more : NextParameters) (right : Span) → Parameters

  -- A parameter of a function, whose name may be absent (C99 6.7.5.3).
  pub data Parameter : Type 0 where
    Parametric : (specs : Specs) (pointers : Pointers) (name : Option Name) (array : ParameterArray) → Parameter

  -- Further parameters, each after its comma (C99 6.7.5.3).
  pub data NextParameters : Type 0 where
    NoNextParameters : NextParameters
    AndParameter : (comma : Span) (parameter : Parameter) (more : NextParameters) → NextParameters

  -- The brackets of a parameter: none, empty ones, or a size in brackets (C99 6.7.5.3).
  pub data ParameterArray : Type 0 where
    NoArray : ParameterArray
    UnsizedArray : (left right : Span) → ParameterArray
    SizedArray : (left : Span) (size : Expr) (right : Span) → ParameterArray

-- ---- the tokens of a tree, and what follows them

-- The token of the name of a parameter, where it has one, and what follows it (C99 6.7.5.3).
abbrev pub spell_name : Option Name → List Token → List Token
spell_name None rest = rest
spell_name (Some name) rest = name_token name ∷ rest

-- The tokens of expressions and types, and what follows them (C99 6.5, 6.7; UPC 6.4, 6.5).
abbrev mutual
  -- The tokens of an expression, and what follows them (C99 6.5).
  pub spell : Expr → List Token → List Token
  spell (Named name) rest = name_token name ∷ rest
  spell (Number value kind span) rest = token (token_kind.Number value kind) span ∷ rest
  spell (Character value span) rest = token (token_kind.Character value) span ∷ rest
  spell (Strings first more) rest = string_token first ∷ spell_strings more rest
  spell (Constant c span) rest = word (constant_word c) span ∷ rest
  spell (Paren left inner right) rest = punct puncts.LParen left ∷ spell inner (punct puncts.RParen right ∷ rest)
  spell (Subscript base left index right) rest =
      spell base (punct puncts.LBracket left ∷ spell index (punct puncts.RBracket right ∷ rest))
  spell (Call callee left arguments) rest = spell callee (punct puncts.LParen left ∷ spell_arguments arguments rest)
  spell (MemberOf base mark at member) rest = spell base (punct (member_punct mark) at ∷ name_token member ∷ rest)
  spell (Postfix base mark at) rest = spell base (punct (postfix_punct mark) at ∷ rest)
  spell (Unary mark at operand) rest = punct (unary_punct mark) at ∷ spell operand rest
  spell (SizeOfExpr s at operand) rest = word (size_word s) at ∷ spell operand rest
  spell (SizeOfType s at left operand right) rest =
      word (size_word s) at ∷ punct puncts.LParen left ∷ spell_type operand (punct puncts.RParen right ∷ rest)
  spell (Cast left target right operand) rest =
      punct puncts.LParen left ∷ spell_type target (punct puncts.RParen right ∷ spell operand rest)
  spell (Binary a mark at b) rest = spell a (punct (binary_punct mark) at ∷ spell b rest)
  spell (Assign a mark at b) rest = spell a (punct (assign_punct mark) at ∷ spell b rest)
  spell (Conditional test question chosen colon other) rest =
      spell test (punct puncts.Question question ∷ spell chosen (punct puncts.Colon colon ∷ spell other rest))
  spell (Comma first more) rest = spell first (spell_next_exprs more rest)

  -- The tokens of the arguments of a call with the parenthesis after them, and what follows them (C99 6.5.2.2).
  pub spell_arguments : Arguments → List Token → List Token
  spell_arguments (NoArguments right) rest = punct puncts.RParen right ∷ rest
  spell_arguments (SomeArguments first more right) rest =
      spell first (spell_next_exprs more (punct puncts.RParen right ∷ rest))

  -- The tokens of further expressions, each after its comma, and what follows them (C99 6.5.2.2, 6.5.17, 6.7.8).
  pub spell_next_exprs : NextExprs → List Token → List Token
  spell_next_exprs NoNextExprs rest = rest
  spell_next_exprs (AndExpr comma value more) rest = punct puncts.Comma comma ∷ spell value (spell_next_exprs more rest)

  -- The tokens of a type name, and what follows them (C99 6.7.6).
  pub spell_type : TypeName → List Token → List Token
  spell_type (Typed specs pointers sizes) rest =
      spell_specs specs (spell_pointers pointers (spell_dimensions sizes rest))

  -- The tokens of specifiers and qualifiers, and what follows them (C99 6.7).
  pub spell_specs : Specs → List Token → List Token
  spell_specs NoSpecs rest = rest
  spell_specs (AndSpec spec more) rest = spell_spec spec (spell_specs more rest)

  -- The tokens of one specifier or qualifier, and what follows them (C99 6.7.1 to 6.7.3).
  pub spell_spec : Spec → List Token → List Token
  spell_spec (WordSpec t span) rest = word (type_word t) span ∷ rest
  spell_spec (QualSpec qual) rest = spell_qual qual rest
  spell_spec (TagSpec at tag) rest = word words.Struct at ∷ name_token tag ∷ rest
  spell_spec (StructSpec at tag left members right) rest =
      word words.Struct at ∷ name_token tag ∷ punct puncts.LBrace left ∷ spell_members members
      (punct puncts.RBrace right ∷ rest)

  -- The tokens of the qualifiers after a star, and what follows them (C99 6.7.5.1).
  pub spell_quals : Quals → List Token → List Token
  spell_quals NoQuals rest = rest
  spell_quals (AndQual qual more) rest = spell_qual qual (spell_quals more rest)

  -- The tokens of one qualifier, and what follows them (C99 6.7.3, UPC 6.5.1).
  pub spell_qual : Qual → List Token → List Token
  spell_qual (Const at) rest = word words.Const at ∷ rest
  spell_qual (Strict at) rest = word words.Strict at ∷ rest
  spell_qual (Relaxed at) rest = word words.Relaxed at ∷ rest
  spell_qual (Shared at layout) rest = word words.Shared at ∷ spell_layout layout rest

  -- The tokens of the layout of a `shared`, and what follows them (UPC 6.5.1.1).
  pub spell_layout : Layout → List Token → List Token
  spell_layout NoLayout rest = rest
  spell_layout (IndefiniteLayout left right) rest = punct puncts.LBracket left ∷ punct puncts.RBracket right ∷ rest
  spell_layout (StarLayout left star right) rest =
      punct puncts.LBracket left ∷ punct puncts.Star star ∷ punct puncts.RBracket right ∷ rest
  spell_layout (BlockLayout left size right) rest = punct puncts.LBracket left ∷ spell size
      (punct puncts.RBracket right ∷ rest)

  -- The tokens of stars with their qualifiers, and what follows them (C99 6.7.5.1).
  pub spell_pointers : Pointers → List Token → List Token
  spell_pointers NoPointers rest = rest
  spell_pointers (AndPointer star quals more) rest = punct puncts.Star star ∷ spell_quals quals
      (spell_pointers more rest)

  -- The tokens of sizes in brackets, and what follows them (C99 6.7.5.2).
  pub spell_dimensions : Dimensions → List Token → List Token
  spell_dimensions NoDimensions rest = rest
  spell_dimensions (AndDimension left size right more) rest =
      punct puncts.LBracket left ∷ spell size (punct puncts.RBracket right ∷ spell_dimensions more rest)

  -- The tokens of the declarations of members, and what follows them (C99 6.7.2.1).
  pub spell_members : Members → List Token → List Token
  spell_members NoMembers rest = rest
  spell_members (AndMember specs first next semicolon more) rest =
      spell_specs specs (spell_declarator first
      (spell_next_declarators next (punct puncts.Semicolon semicolon ∷ spell_members more rest)))

  -- The tokens of further declarators, each after its comma, and what follows them (C99 6.7.2.1).
  pub spell_next_declarators : NextDeclarators → List Token → List Token
  spell_next_declarators NoNextDeclarators rest = rest
  spell_next_declarators (AndDeclarator comma declarator more) rest =
      punct puncts.Comma comma ∷ spell_declarator declarator (spell_next_declarators more rest)

  -- The tokens of a declarator, and what follows them (C99 6.7.5).
  pub spell_declarator : Declarator → List Token → List Token
  spell_declarator (ObjectDeclarator pointers name sizes) rest =
      spell_pointers pointers (name_token name ∷ spell_dimensions sizes rest)
  spell_declarator (FunctionDeclarator pointers name parameters) rest =
      spell_pointers pointers (name_token name ∷ spell_parameters parameters rest)

  -- The tokens of the parameters of a function with their parentheses, and what follows them (C99 6.7.5.3).
  pub spell_parameters : Parameters → List Token → List Token
  spell_parameters (NoParameters left right) rest = punct puncts.LParen left ∷ punct puncts.RParen right ∷ rest
  spell_parameters (VoidParameters left at right) rest =
      punct puncts.LParen left ∷ word words.Void at ∷ punct puncts.RParen right ∷ rest
  spell_parameters (SomeParameters left first more right) rest =
      punct puncts.LParen left ∷ spell_parameter first (spell_next_parameters more (punct puncts.RParen right ∷ rest))

  -- The tokens of one parameter, and what follows them (C99 6.7.5.3).
  pub spell_parameter : Parameter → List Token → List Token
  spell_parameter (Parametric specs pointers name array) rest =
      spell_specs specs (spell_pointers pointers (spell_name name (spell_array array rest)))

  -- The tokens of further parameters, each after its comma, and what follows them (C99 6.7.5.3).
  pub spell_next_parameters : NextParameters → List Token → List Token
  spell_next_parameters NoNextParameters rest = rest
  spell_next_parameters (AndParameter comma parameter more) rest =
      punct puncts.Comma comma ∷ spell_parameter parameter (spell_next_parameters more rest)

  -- The tokens of the brackets of a parameter, and what follows them (C99 6.7.5.3).
  pub spell_array : ParameterArray → List Token → List Token
  spell_array NoArray rest = rest
  spell_array (UnsizedArray left right) rest = punct puncts.LBracket left ∷ punct puncts.RBracket right ∷ rest
  spell_array (SizedArray left size right) rest = punct puncts.LBracket left ∷ spell size
      (punct puncts.RBracket right ∷ rest)

-- ---- the height of a tree
-- A node is one higher than the highest of its parts. The arguments of a call are a part with a level of their own,
-- and so are the members of a struct. Specifiers, pointers, sizes, declarators and parameters belong to their node
-- directly.

-- The heights of expressions and types.
abbrev mutual
  -- The height of an expression: 1 for a name, a constant, a word or strings, else one more than that of its highest
  -- part.
  pub height : Expr → ℕ
  height (Named name) = 1
  height (Number value kind span) = 1
  height (Character value span) = 1
  height (Strings first more) = 1
  height (Constant c span) = 1
  height (Paren left inner right) = height inner + 1
  height (Subscript base left index right) = max (height base) (height index) + 1
  height (Call callee left arguments) = max (height callee) (height_arguments arguments) + 1
  height (MemberOf base mark at member) = height base + 1
  height (Postfix base mark at) = height base + 1
  height (Unary mark at operand) = height operand + 1
  height (SizeOfExpr s at operand) = height operand + 1
  height (SizeOfType s at left operand right) = height_type operand + 1
  height (Cast left target right operand) = max (height_type target) (height operand) + 1
  height (Binary a mark at b) = max (height a) (height b) + 1
  height (Assign a mark at b) = max (height a) (height b) + 1
  height (Conditional test question chosen colon other) = max (height test) (max (height chosen) (height other)) + 1
  height (Comma first more) = max (height first) (height_next_exprs more) + 1

  -- The height of the arguments of a call: one more than that of the highest, and 1 where there are none.
  pub height_arguments : Arguments → ℕ
  height_arguments (NoArguments right) = 1
  height_arguments (SomeArguments first more right) = max (height first) (height_next_exprs more) + 1

  -- The greatest height of further expressions, 0 where there are none.
  pub height_next_exprs : NextExprs → ℕ
  height_next_exprs NoNextExprs = 0
  height_next_exprs (AndExpr comma value more) = max (height value) (height_next_exprs more)

  -- The greatest height of a part of a type name, which is no level of its own.
  pub height_type : TypeName → ℕ
  height_type (Typed specs pointers sizes) =
      max (height_specs specs) (max (height_pointers pointers) (height_dimensions sizes))

  -- The greatest height of specifiers and qualifiers, 0 where there are none.
  pub height_specs : Specs → ℕ
  height_specs NoSpecs = 0
  height_specs (AndSpec spec more) = max (height_spec spec) (height_specs more)

  -- The height of a specifier or qualifier: 0 for a single word, that of its layout for `shared`, and for a struct one
  -- more than that of its members.
  pub height_spec : Spec → ℕ
  height_spec (WordSpec t span) = 0
  height_spec (QualSpec qual) = height_qual qual
  height_spec (TagSpec at tag) = 1
  height_spec (StructSpec at tag left members right) = height_members members + 1

  -- The greatest height of the qualifiers after a star, 0 where there are none.
  pub height_quals : Quals → ℕ
  height_quals NoQuals = 0
  height_quals (AndQual qual more) = max (height_qual qual) (height_quals more)

  -- The height of a qualifier: that of the layout of a `shared`, and 0 for the others.
  pub height_qual : Qual → ℕ
  height_qual (Const at) = 0
  height_qual (Strict at) = 0
  height_qual (Relaxed at) = 0
  height_qual (Shared at layout) = height_layout layout

  -- The height of the layout of a `shared`: that of its block size, and 0 where it has none.
  pub height_layout : Layout → ℕ
  height_layout NoLayout = 0
  height_layout (IndefiniteLayout left right) = 0
  height_layout (StarLayout left star right) = 0
  height_layout (BlockLayout left size right) = height size

  -- The greatest height of the qualifiers of stars, 0 where there are none.
  pub height_pointers : Pointers → ℕ
  height_pointers NoPointers = 0
  height_pointers (AndPointer star quals more) = max (height_quals quals) (height_pointers more)

  -- The greatest height of sizes in brackets, 0 where there are none.
  pub height_dimensions : Dimensions → ℕ
  height_dimensions NoDimensions = 0
  height_dimensions (AndDimension left size right more) = max (height size) (height_dimensions more)

  -- The greatest height of a part of the declarations of members, 0 where there are none.
  pub height_members : Members → ℕ
  height_members NoMembers = 0
  height_members (AndMember specs first next semicolon more) =
      max (max (height_specs specs) (max (height_declarator first) (height_next_declarators next)))
      (height_members more)

  -- The greatest height of further declarators, 0 where there are none.
  pub height_next_declarators : NextDeclarators → ℕ
  height_next_declarators NoNextDeclarators = 0
  height_next_declarators (AndDeclarator comma declarator more) =
      max (height_declarator declarator) (height_next_declarators more)

  -- The greatest height of a part of a declarator: of its stars, and of its sizes or its parameters.
  pub height_declarator : Declarator → ℕ
  height_declarator (ObjectDeclarator pointers name sizes) = max (height_pointers pointers) (height_dimensions sizes)
  height_declarator (FunctionDeclarator pointers name parameters) =
      max (height_pointers pointers) (height_parameters parameters)

  -- The greatest height of the parameters of a function, 0 where it has none.
  pub height_parameters : Parameters → ℕ
  height_parameters (NoParameters left right) = 0
  height_parameters (VoidParameters left at right) = 0
  height_parameters (SomeParameters left first more right) = max (height_parameter first) (height_next_parameters more)

  -- The greatest height of a part of a parameter: of its specifiers, its stars and its brackets.
  pub height_parameter : Parameter → ℕ
  height_parameter (Parametric specs pointers name array) =
      max (height_specs specs) (max (height_pointers pointers) (height_array array))

  -- The greatest height of further parameters, 0 where there are none.
  pub height_next_parameters : NextParameters → ℕ
  height_next_parameters NoNextParameters = 0
  height_next_parameters (AndParameter comma parameter more) =
      max (height_parameter parameter) (height_next_parameters more)

  -- The height of the size in the brackets of a parameter, 0 where there is none.
  pub height_array : ParameterArray → ℕ
  height_array NoArray = 0
  height_array (UnsizedArray left right) = 0
  height_array (SizedArray left size right) = height size
