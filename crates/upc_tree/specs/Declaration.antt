-- Declarations: their trees, their tokens, their heights, and which are proper.
use Rattle.std.specs.Prelude.{◌≡◌, ℕ, ◌+◌, ◌≤◌, max, Bool, true, false, List, ◌∷◌}
use Rattle.upc_lexer.specs.declared.token.Token.{Token}
use Rattle.upc_lexer.specs.declared.token.Punct.TheVariants as puncts
use Rattle.upc_tree.specs.declared.mark.TypeWord.TheVariants as type_word
use Rattle.upc_tree.specs.declared.span.Span.{Span}
use Rattle.upc_tree.specs.Tokens.{punct}
use Rattle.upc_tree.specs.Expression.{Expr, NextExprs, Specs, NoSpecs, AndSpec, Spec, WordSpec, Declarator, spell}
use Rattle.upc_tree.specs.Expression.{spell_next_exprs, spell_specs, spell_declarator, height, height_next_exprs}
use Rattle.upc_tree.specs.Expression.{height_specs, height_declarator}
use Rattle.upc_tree.specs.Proper.{level, IsSome, Proper, ProperNextExprs, ProperSpecs, ProperDeclarator}

-- The initialiser of a declarator: none, a value, or a list in braces (C99 6.7.8).
pub data Initial : Type 0 where
  NoInitial : Initial
  ValueInitial : (equal : Span) (value : Expr) → Initial
  ListInitial : (equal left : Span) (first : Expr) (more : NextExprs) (right : Span) → Initial

-- A declarator with its initialiser (C99 6.7).
pub data Declared : Type 0 where
  DeclaredAs : (declarator : Declarator) (initial : Initial) → Declared

-- Further declarators of a declaration with their initialisers, each after its comma (C99 6.7).
pub data NextDeclareds : Type 0 where
  NoNextDeclareds : NextDeclareds
  AndDeclared : (comma : Span) (declared : Declared) (more : NextDeclareds) → NextDeclareds

-- The declarators of a declaration with their initialisers, or none (C99 6.7).
pub data DeclaredList : Type 0 where
  NoneDeclared : DeclaredList
  SomeDeclared : (first : Declared) (more : NextDeclareds) → DeclaredList

-- A declaration (C99 6.7).
pub data Declaration : Type 0 where
  Declares : (specs : Specs) (declared : DeclaredList) (semicolon : Span) → Declaration

-- ---- the tokens of a tree, and what follows them

-- The tokens of an initialiser, and what follows them (C99 6.7.8).
abbrev pub spell_initial : Initial → List Token → List Token
spell_initial NoInitial rest = rest
spell_initial (ValueInitial equal value) rest = punct puncts.Equal equal ∷ spell value rest
spell_initial (ListInitial equal left first more right) rest =
    punct puncts.Equal equal ∷ punct puncts.LBrace left ∷ spell first
    (spell_next_exprs more (punct puncts.RBrace right ∷ rest))

-- The tokens of a declarator with its initialiser, and what follows them (C99 6.7).
abbrev pub spell_declared : Declared → List Token → List Token
spell_declared (DeclaredAs declarator initial) rest = spell_declarator declarator (spell_initial initial rest)

-- The tokens of further declarators of a declaration, each after its comma, and what follows them (C99 6.7).
abbrev pub spell_next_declareds : NextDeclareds → List Token → List Token
spell_next_declareds NoNextDeclareds rest = rest
spell_next_declareds (AndDeclared comma declared more) rest =
    punct puncts.Comma comma ∷ spell_declared declared (spell_next_declareds more rest)

-- The tokens of all declarators of a declaration, and what follows them (C99 6.7).
abbrev pub spell_declared_list : DeclaredList → List Token → List Token
spell_declared_list NoneDeclared rest = rest
spell_declared_list (SomeDeclared first more) rest = spell_declared first (spell_next_declareds more rest)

-- The tokens of a declaration with its semicolon, and what follows them (C99 6.7).
abbrev pub spell_declaration : Declaration → List Token → List Token
spell_declaration (Declares specs declared semicolon) rest =
    spell_specs specs (spell_declared_list declared (punct puncts.Semicolon semicolon ∷ rest))

-- ---- the height of a tree: what a declaration declares belongs to it directly

-- The greatest height of the values of an initialiser, 0 where there are none.
abbrev pub height_initial : Initial → ℕ
height_initial NoInitial = 0
height_initial (ValueInitial equal value) = height value
height_initial (ListInitial equal left first more right) = max (height first) (height_next_exprs more)

-- The height of a declarator or that of its initialiser, whichever is greater.
abbrev pub height_declared : Declared → ℕ
height_declared (DeclaredAs declarator initial) = max (height_declarator declarator) (height_initial initial)

-- The greatest height of further declarators with their initialisers, 0 where there are none.
abbrev pub height_next_declareds : NextDeclareds → ℕ
height_next_declareds NoNextDeclareds = 0
height_next_declareds (AndDeclared comma declared more) = max (height_declared declared) (height_next_declareds more)

-- The greatest height of the declarators of a declaration with their initialisers, 0 where there are none.
abbrev pub height_declared_list : DeclaredList → ℕ
height_declared_list NoneDeclared = 0
height_declared_list (SomeDeclared first more) = max (height_declared first) (height_next_declareds more)

-- The height of a declaration: one more than that of its highest part.
abbrev pub height_declaration : Declaration → ℕ
height_declaration (Declares specs declared semicolon) = max (height_specs specs) (height_declared_list declared) + 1

-- ---- which are proper

-- The values of an initialiser are proper, and none of them is a comma expression (C99 6.7.8).
abbrev pub ProperInitial : Initial → Type 0
ProperInitial NoInitial = Unit {0}
ProperInitial (ValueInitial equal value) = (1 ≤ level value) × Proper value
ProperInitial (ListInitial equal left first more right) = (1 ≤ level first) × Proper first × ProperNextExprs more

-- A declarator and its initialiser are proper (C99 6.7).
abbrev pub ProperDeclared : Declared → Type 0
ProperDeclared (DeclaredAs declarator initial) = ProperDeclarator declarator × ProperInitial initial

-- Further declarators of a declaration are proper, with their initialisers (C99 6.7).
abbrev pub ProperNextDeclareds : NextDeclareds → Type 0
ProperNextDeclareds NoNextDeclareds = Unit {0}
ProperNextDeclareds (AndDeclared comma declared more) = ProperDeclared declared × ProperNextDeclareds more

-- All declarators of a declaration are proper, with their initialisers (C99 6.7).
abbrev pub ProperDeclaredList : DeclaredList → Type 0
ProperDeclaredList NoneDeclared = Unit {0}
ProperDeclaredList (SomeDeclared first more) = ProperDeclared first × ProperNextDeclareds more

-- A declaration has a specifier or a qualifier, and its parts are proper (C99 6.7).
abbrev pub ProperDeclaration : Declaration → Type 0
ProperDeclaration (Declares specs declared semicolon) = IsSome specs × ProperSpecs specs × ProperDeclaredList declared

-- Whether a specifier is `static` (C99 6.7.1).
abbrev pub is_static : Spec → Bool
is_static (WordSpec type_word.Static span) = true
is_static _ = false

-- None of the specifiers is `static` (C99 6.7.1).
abbrev pub NoStatic : Specs → Type 0
NoStatic NoSpecs = Unit {0}
NoStatic (AndSpec spec more) = (is_static spec ≡ false) × NoStatic more

-- A declaration may stand in a block or a `for`: it has no `static`.
abbrev pub IsLocal : Declaration → Type 0
IsLocal (Declares specs declared semicolon) = NoStatic specs
