-- The lists of parts that trees hold, from plain lists.
use Rattle.std.specs.Prelude.{ℕ, max, min, List, [], ◌∷◌}
use Rattle.upc_lexer.specs.declared.token.Token.{Token}
use Rattle.upc_tree.specs.declared.span.Span.{Span}
use Rattle.upc_lexer.specs.declared.token.Punct.TheVariants as puncts
use Rattle.upc_tree.specs.Tokens.{punct}
use Rattle.upc_tree.specs.Expression.{spell_specs, spell_declarator, spell_next_declarators, height_specs}
use Rattle.upc_tree.specs.Expression.{height_declarator, height_next_declarators, Expr, NextExprs, NoNextExprs}
use Rattle.upc_tree.specs.Expression.{AndExpr, Specs, NoSpecs, AndSpec, Spec, Quals, NoQuals, AndQual, Qual, Pointers}
use Rattle.upc_tree.specs.Expression.{NoPointers, AndPointer, Dimensions, NoDimensions, AndDimension, Members}
use Rattle.upc_tree.specs.Expression.{NoMembers, AndMember, NextDeclarators, NoNextDeclarators, AndDeclarator}
use Rattle.upc_tree.specs.Expression.{Declarator, NextParameters, NoNextParameters, AndParameter, Parameter}
use Rattle.upc_tree.specs.Declaration.{Declared, NextDeclareds, NoNextDeclareds, AndDeclared}
use Rattle.upc_tree.specs.Statement.{Test, Statement, BlockItem, BlockItems, NoBlockItems, AndBlockItem, SwitchItem}
use Rattle.upc_tree.specs.Statement.{SwitchItems, NoSwitchItems, AndSwitchItem, ElseIfs, NoElseIfs, AndElseIf}

-- The tokens of parts, one part after the other, and what follows them.
abbrev pub spell_all : {X : Type 0} → (X → List Token → List Token) → List X → List Token → List Token
spell_all spell [] rest = rest
spell_all spell (x ∷ xs) rest = spell x (spell_all spell xs rest)

-- The greatest height of some parts, 0 where there are none.
abbrev pub highest : {X : Type 0} → (X → ℕ) → List X → ℕ
highest height [] = 0
highest height (x ∷ xs) = max (height x) (highest height xs)

-- Further expressions of a tree, from a list of them with their commas.
abbrev pub next_exprs_of : List (Span × Expr) → NextExprs
next_exprs_of [] = NoNextExprs
next_exprs_of (x ∷ xs) = AndExpr x.0 x.1 (next_exprs_of xs)

-- The specifiers and qualifiers of a tree, from a list of them.
abbrev pub specs_of : List Spec → Specs
specs_of [] = NoSpecs
specs_of (x ∷ xs) = AndSpec x (specs_of xs)

-- The qualifiers after a star of a tree, from a list of them.
abbrev pub quals_of : List Qual → Quals
quals_of [] = NoQuals
quals_of (x ∷ xs) = AndQual x (quals_of xs)

-- The stars of a tree, from a list of them with their qualifiers.
abbrev pub pointers_of : List (Span × Quals) → Pointers
pointers_of [] = NoPointers
pointers_of (x ∷ xs) = AndPointer x.0 x.1 (pointers_of xs)

-- The sizes in brackets of a tree, from a list of them with their brackets.
abbrev pub dimensions_of : List (Span × Expr × Span) → Dimensions
dimensions_of [] = NoDimensions
dimensions_of (x ∷ xs) = AndDimension x.0 x.1 x.2 (dimensions_of xs)

-- The declarations of members of a tree, from a list of their specifiers, first declarators, further declarators and
-- semicolons.
abbrev pub members_of : List (Specs × Declarator × NextDeclarators × Span) → Members
members_of [] = NoMembers
members_of (x ∷ xs) = AndMember x.0 x.1 x.2 x.3 (members_of xs)

-- Further declarators of a tree, from a list of them with their commas.
abbrev pub next_declarators_of : List (Span × Declarator) → NextDeclarators
next_declarators_of [] = NoNextDeclarators
next_declarators_of (x ∷ xs) = AndDeclarator x.0 x.1 (next_declarators_of xs)

-- Further parameters of a tree, from a list of them with their commas.
abbrev pub next_parameters_of : List (Span × Parameter) → NextParameters
next_parameters_of [] = NoNextParameters
next_parameters_of (x ∷ xs) = AndParameter x.0 x.1 (next_parameters_of xs)

-- Further declarators with their initialisers of a tree, from a list of them with their commas.
abbrev pub next_declareds_of : List (Span × Declared) → NextDeclareds
next_declareds_of [] = NoNextDeclareds
next_declareds_of (x ∷ xs) = AndDeclared x.0 x.1 (next_declareds_of xs)

-- The declarations and statements of a block of a tree, from a list of them.
abbrev pub block_items_of : List BlockItem → BlockItems
block_items_of [] = NoBlockItems
block_items_of (x ∷ xs) = AndBlockItem x (block_items_of xs)

-- The labels and statements of a `switch` of a tree, from a list of them.
abbrev pub switch_items_of : List SwitchItem → SwitchItems
switch_items_of [] = NoSwitchItems
switch_items_of (x ∷ xs) = AndSwitchItem x (switch_items_of xs)

-- The further arms of an `if` of a tree, from a list of their words, controlling expressions and bodies.
abbrev pub else_ifs_of : List (Span × Span × Test × Statement) → ElseIfs
else_ifs_of [] = NoElseIfs
else_ifs_of (x ∷ xs) = AndElseIf x.0 x.1 x.2 x.3 (else_ifs_of xs)

-- The tokens of one declaration of members, and what follows them (C99 6.7.2.1).
abbrev pub spell_member : Specs × Declarator × NextDeclarators × Span → List Token → List Token
spell_member x rest = spell_specs x.0 (spell_declarator x.1 (spell_next_declarators x.2
    (punct puncts.Semicolon x.3 ∷ rest)))

-- The greatest height of a part of one declaration of members.
abbrev pub height_member : Specs × Declarator × NextDeclarators × Span → ℕ
height_member x = max (height_specs x.0) (max (height_declarator x.1) (height_next_declarators x.2))

-- A height, or the greatest number of 32 bits where the height is greater.
abbrev pub capped : ℕ → ℕ
capped n = min n 4294967295
