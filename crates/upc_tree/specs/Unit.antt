-- A whole source: its tree, its tokens, its height, and which tree is proper.
use Rattle.std.specs.Prelude.{◌≡◌, ℕ, ◌+◌, ◌≤◌, max, List, [], ◌∷◌}
use Rattle.upc_lexer.specs.declared.token.Token.{Token}
use Rattle.upc_tree.specs.declared.span.Name.{Name}
use Rattle.upc_tree.specs.declared.span.Pragma.{Pragma}
use Rattle.upc_tree.specs.Tokens.{name_token, pragma_token}
use Rattle.upc_tree.specs.Expression.{Specs, Pointers, Parameters, spell_specs, spell_pointers, spell_parameters}
use Rattle.upc_tree.specs.Expression.{height_specs, height_pointers, height_parameters}
use Rattle.upc_tree.specs.Proper.{IsSome, ProperSpecs, ProperPointers, ProperParameters}
use Rattle.upc_tree.specs.Declaration.{Declaration, spell_declaration, height_declaration, ProperDeclaration}
use Rattle.upc_tree.specs.Statement.{Compound, spell_compound, height_compound, ProperCompound}

-- A part of a source: a pragma, a declaration, or a definition of a function (C99 6.9, UPC 6.7).
pub data External : Type 0 where
  PragmaPart : (pragma : Pragma) → External
  DeclarationPart : (declaration : Declaration) → External
  FunctionPart : (specs : Specs) (pointers : Pointers) (name : Name) (parameters : Parameters) (body : Compound)
      → External

-- The tokens of one part of a source, and what follows them (C99 6.9).
abbrev pub spell_external : External → List Token → List Token
spell_external (PragmaPart pragma) rest = pragma_token pragma ∷ rest
spell_external (DeclarationPart declaration) rest = spell_declaration declaration rest
spell_external (FunctionPart specs pointers name parameters body) rest =
    spell_specs specs (spell_pointers pointers (name_token name
    ∷ spell_parameters parameters (spell_compound body rest)))

-- The tokens of the parts of a source, and what follows them (C99 6.9).
abbrev pub spell_externals : List External → List Token → List Token
spell_externals [] rest = rest
spell_externals (part ∷ more) rest = spell_external part (spell_externals more rest)

-- The height of one part of a source: one more than that of its own highest part, and 0 for a pragma, which is a token.
abbrev pub height_external : External → ℕ
height_external (PragmaPart pragma) = 0
height_external (DeclarationPart declaration) = height_declaration declaration
height_external (FunctionPart specs pointers name parameters body) =
    max (height_specs specs) (max (height_pointers pointers)
    (max (height_parameters parameters) (height_compound body))) + 1

-- The greatest height of the parts of a source, 0 where there are none.
abbrev pub height_externals : List External → ℕ
height_externals [] = 0
height_externals (part ∷ more) = max (height_external part) (height_externals more)

-- One part of a source is proper; a definition of a function has a specifier or a qualifier (C99 6.9, 6.9.1).
abbrev pub ProperExternal : External → Type 0
ProperExternal (PragmaPart pragma) = Unit {0}
ProperExternal (DeclarationPart declaration) = ProperDeclaration declaration
ProperExternal (FunctionPart specs pointers name parameters body) =
    IsSome specs × ProperSpecs specs × ProperPointers pointers × ProperParameters parameters × ProperCompound body

-- Each part of a source is proper (C99 6.9).
abbrev pub ProperExternals : List External → Type 0
ProperExternals [] = Unit {0}
ProperExternals (part ∷ more) = ProperExternal part × ProperExternals more

-- A tree of a source is the list of its parts.

-- A source has a part (C99 6.9).
abbrev pub IsFilled : List External → Type 0
IsFilled [] = ⊥
IsFilled (part ∷ more) = Unit {0}

-- The tree of a source is proper: it has a part, and each of its parts is proper (C99 6.9).
abbrev pub ProperUnit : List External → Type 0
ProperUnit u = IsFilled u × ProperExternals u

-- The height of the tree of a source, in which the list of the parts is one level.
abbrev pub height_unit : List External → ℕ
height_unit u = height_externals u + 1

-- The tokens of the tree of a source, in order (C99 6.4).
abbrev pub tokens_of : List External → List Token
tokens_of u = spell_externals u []

-- The greatest height that the tree of a source may have.
abbrev pub height_limit : ℕ
height_limit = 256

-- A tree of a source is proper, is within the limit of height, and has these tokens (C99 6.9).
pub record IsTree (tokens : List Token) (u : List External) : Type 0 where
  pub proper : ProperUnit u
  pub low : height_unit u ≤ height_limit
  pub spelled : tokens_of u ≡ tokens
