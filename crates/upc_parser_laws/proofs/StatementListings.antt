-- Each list of declarations and statements beside the plain list, with what its items are.
use Rattle.std.proofs.Common.{◌≡◌, ℕ, max, List, [], ◌∷◌, refl, ap}
use Rattle.upc_lexer.specs.declared.token.Token.{Token}
use Rattle.upc_lexer.specs.declared.token.Punct.TheVariants as p
use Rattle.upc_lexer.specs.declared.token.Word.TheVariants as w
use Rattle.upc_tree.specs.declared.span.Span.{Span}
use Rattle.upc_tree.specs.Tokens.{punct, word}
use Rattle.upc_tree.specs.Declaration.{Declared, NextDeclareds, NoNextDeclareds, AndDeclared, spell_declared, spell_next_declareds, height_declared, height_next_declareds, ProperDeclared, ProperNextDeclareds}
use Rattle.upc_tree.specs.Statement.{Test, Statement, BlockItem, BlockItems, NoBlockItems, AndBlockItem, SwitchItem, SwitchItems, NoSwitchItems, AndSwitchItem, ElseIfs, NoElseIfs, AndElseIf, spell_test, spell_statement, spell_block_items, spell_block_item, spell_switch_items, spell_switch_item, spell_else_ifs, height_test, height_statement, height_block_items, height_block_item, height_switch_items, height_switch_item, height_else_ifs, ProperTest, ProperStatement, ProperBlockItems, ProperBlockItem, ProperSwitchItems, ProperSwitchItem}
use Rattle.upc_tree.specs.Unit.{External, spell_external, spell_externals, height_external, height_externals, ProperExternal, ProperExternals}
use Rattle.upc_tree.specs.layer.Lists.{spell_all, highest, next_declareds_of, block_items_of, switch_items_of, else_ifs_of}
use Rattle.upc_parser_ground.proofs.Lists.{AllOf, Kind}

-- ---- items

abbrev pub spell_next_declared : Span × Declared → List Token → List Token
spell_next_declared x rest = punct p.Comma x.0 ∷ spell_declared x.1 rest

abbrev pub height_next_declared : Span × Declared → ℕ
height_next_declared x = height_declared x.1

abbrev pub GoodNextDeclared : Span × Declared → Type 0
GoodNextDeclared x = ProperDeclared x.1

abbrev pub spell_else_if : Span × Span × Test × Statement → List Token → List Token
spell_else_if x rest = word w.Else x.0 ∷ word w.If x.1 ∷ spell_test x.2 (spell_statement x.3 rest)

abbrev pub height_else_if : Span × Span × Test × Statement → ℕ
height_else_if x = max (height_test x.2) (height_statement x.3)

abbrev pub GoodElseIf : Span × Span × Test × Statement → Type 0
GoodElseIf x = ProperTest x.2 × ProperStatement x.3

abbrev pub GoodElseIfs : ElseIfs → Type 0
GoodElseIfs NoElseIfs = Unit {0}
GoodElseIfs (AndElseIf other at test body more) = ProperTest test × ProperStatement body × GoodElseIfs more

-- ---- lists

abbrev pub next_declareds_back : NextDeclareds → List (Span × Declared)
next_declareds_back NoNextDeclareds = []
next_declareds_back (AndDeclared c d more) = (c, d) ∷ next_declareds_back more

pub next_declareds_back_is : (u : NextDeclareds) → next_declareds_of (next_declareds_back u) ≡ u
next_declareds_back_is NoNextDeclareds = refl
next_declareds_back_is (AndDeclared c d more) = ap (AndDeclared c d) (next_declareds_back_is more)

pub next_declareds_spelled : (l : List (Span × Declared)) (rest : List Token) → spell_next_declareds (next_declareds_of l) rest ≡ spell_all spell_next_declared l rest
next_declareds_spelled [] rest = refl
next_declareds_spelled (x ∷ xs) rest = ap (spell_next_declared x) (next_declareds_spelled xs rest)

pub next_declareds_highs : (l : List (Span × Declared)) → height_next_declareds (next_declareds_of l) ≡ highest height_next_declared l
next_declareds_highs [] = refl
next_declareds_highs (x ∷ xs) = ap (max (height_next_declared x)) (next_declareds_highs xs)

pub next_declareds_good : (l : List (Span × Declared)) → AllOf GoodNextDeclared l → ProperNextDeclareds (next_declareds_of l)
next_declareds_good [] h = tt
next_declareds_good (x ∷ xs) h = (h.0, next_declareds_good xs h.1)

pub next_declareds_goods : (l : List (Span × Declared)) → ProperNextDeclareds (next_declareds_of l) → AllOf GoodNextDeclared l
next_declareds_goods [] h = tt
next_declareds_goods (x ∷ xs) h = (h.0, next_declareds_goods xs h.1)

abbrev pub next_declareds_kind : Kind next_declareds_of spell_next_declared spell_next_declareds height_next_declared height_next_declareds GoodNextDeclared ProperNextDeclareds
next_declareds_kind = record { back = next_declareds_back; back_is = next_declareds_back_is; spelled = next_declareds_spelled; highs = next_declareds_highs; good = next_declareds_good; goods = next_declareds_goods }

abbrev pub block_items_back : BlockItems → List (BlockItem)
block_items_back NoBlockItems = []
block_items_back (AndBlockItem x more) = x ∷ block_items_back more

pub block_items_back_is : (u : BlockItems) → block_items_of (block_items_back u) ≡ u
block_items_back_is NoBlockItems = refl
block_items_back_is (AndBlockItem x more) = ap (AndBlockItem x) (block_items_back_is more)

pub block_items_spelled : (l : List (BlockItem)) (rest : List Token) → spell_block_items (block_items_of l) rest ≡ spell_all spell_block_item l rest
block_items_spelled [] rest = refl
block_items_spelled (x ∷ xs) rest = ap (spell_block_item x) (block_items_spelled xs rest)

pub block_items_highs : (l : List (BlockItem)) → height_block_items (block_items_of l) ≡ highest height_block_item l
block_items_highs [] = refl
block_items_highs (x ∷ xs) = ap (max (height_block_item x)) (block_items_highs xs)

pub block_items_good : (l : List (BlockItem)) → AllOf ProperBlockItem l → ProperBlockItems (block_items_of l)
block_items_good [] h = tt
block_items_good (x ∷ xs) h = (h.0, block_items_good xs h.1)

pub block_items_goods : (l : List (BlockItem)) → ProperBlockItems (block_items_of l) → AllOf ProperBlockItem l
block_items_goods [] h = tt
block_items_goods (x ∷ xs) h = (h.0, block_items_goods xs h.1)

abbrev pub block_items_kind : Kind block_items_of spell_block_item spell_block_items height_block_item height_block_items ProperBlockItem ProperBlockItems
block_items_kind = record { back = block_items_back; back_is = block_items_back_is; spelled = block_items_spelled; highs = block_items_highs; good = block_items_good; goods = block_items_goods }

abbrev pub switch_items_back : SwitchItems → List (SwitchItem)
switch_items_back NoSwitchItems = []
switch_items_back (AndSwitchItem x more) = x ∷ switch_items_back more

pub switch_items_back_is : (u : SwitchItems) → switch_items_of (switch_items_back u) ≡ u
switch_items_back_is NoSwitchItems = refl
switch_items_back_is (AndSwitchItem x more) = ap (AndSwitchItem x) (switch_items_back_is more)

pub switch_items_spelled : (l : List (SwitchItem)) (rest : List Token) → spell_switch_items (switch_items_of l) rest ≡ spell_all spell_switch_item l rest
switch_items_spelled [] rest = refl
switch_items_spelled (x ∷ xs) rest = ap (spell_switch_item x) (switch_items_spelled xs rest)

pub switch_items_highs : (l : List (SwitchItem)) → height_switch_items (switch_items_of l) ≡ highest height_switch_item l
switch_items_highs [] = refl
switch_items_highs (x ∷ xs) = ap (max (height_switch_item x)) (switch_items_highs xs)

pub switch_items_good : (l : List (SwitchItem)) → AllOf ProperSwitchItem l → ProperSwitchItems (switch_items_of l)
switch_items_good [] h = tt
switch_items_good (x ∷ xs) h = (h.0, switch_items_good xs h.1)

pub switch_items_goods : (l : List (SwitchItem)) → ProperSwitchItems (switch_items_of l) → AllOf ProperSwitchItem l
switch_items_goods [] h = tt
switch_items_goods (x ∷ xs) h = (h.0, switch_items_goods xs h.1)

abbrev pub switch_items_kind : Kind switch_items_of spell_switch_item spell_switch_items height_switch_item height_switch_items ProperSwitchItem ProperSwitchItems
switch_items_kind = record { back = switch_items_back; back_is = switch_items_back_is; spelled = switch_items_spelled; highs = switch_items_highs; good = switch_items_good; goods = switch_items_goods }

abbrev pub else_ifs_back : ElseIfs → List (Span × Span × Test × Statement)
else_ifs_back NoElseIfs = []
else_ifs_back (AndElseIf o a t b more) = (o, a, t, b) ∷ else_ifs_back more

pub else_ifs_back_is : (u : ElseIfs) → else_ifs_of (else_ifs_back u) ≡ u
else_ifs_back_is NoElseIfs = refl
else_ifs_back_is (AndElseIf o a t b more) = ap (AndElseIf o a t b) (else_ifs_back_is more)

pub else_ifs_spelled : (l : List (Span × Span × Test × Statement)) (rest : List Token) → spell_else_ifs (else_ifs_of l) rest ≡ spell_all spell_else_if l rest
else_ifs_spelled [] rest = refl
else_ifs_spelled (x ∷ xs) rest = ap (spell_else_if x) (else_ifs_spelled xs rest)

pub else_ifs_highs : (l : List (Span × Span × Test × Statement)) → height_else_ifs (else_ifs_of l) ≡ highest height_else_if l
else_ifs_highs [] = refl
else_ifs_highs (x ∷ xs) = ap (max (height_else_if x)) (else_ifs_highs xs)

pub else_ifs_good : (l : List (Span × Span × Test × Statement)) → AllOf GoodElseIf l → GoodElseIfs (else_ifs_of l)
else_ifs_good [] h = tt
else_ifs_good (x ∷ xs) h = (h.0.0, h.0.1, else_ifs_good xs h.1)

pub else_ifs_goods : (l : List (Span × Span × Test × Statement)) → GoodElseIfs (else_ifs_of l) → AllOf GoodElseIf l
else_ifs_goods [] h = tt
else_ifs_goods (x ∷ xs) h = ((h.0, h.1), else_ifs_goods xs h.2)

abbrev pub else_ifs_kind : Kind else_ifs_of spell_else_if spell_else_ifs height_else_if height_else_ifs GoodElseIf GoodElseIfs
else_ifs_kind = record { back = else_ifs_back; back_is = else_ifs_back_is; spelled = else_ifs_spelled; highs = else_ifs_highs; good = else_ifs_good; goods = else_ifs_goods }

-- the parts of a source are a plain list

pub externals_spelled : (l : List External) (rest : List Token) → spell_externals l rest ≡ spell_all spell_external l rest
externals_spelled [] rest = refl
externals_spelled (x ∷ xs) rest = ap (spell_external x) (externals_spelled xs rest)

pub externals_highs : (l : List External) → height_externals l ≡ highest height_external l
externals_highs [] = refl
externals_highs (x ∷ xs) = ap (max (height_external x)) (externals_highs xs)

pub externals_good : (l : List External) → AllOf ProperExternal l → ProperExternals l
externals_good [] h = tt
externals_good (x ∷ xs) h = (h.0, externals_good xs h.1)

pub externals_goods : (l : List External) → ProperExternals l → AllOf ProperExternal l
externals_goods [] h = tt
externals_goods (x ∷ xs) h = (h.0, externals_goods xs h.1)
