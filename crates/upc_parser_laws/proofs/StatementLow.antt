-- How many tokens a tree takes: declarations, statements and whole sources.
use Rattle.std.proofs.Common.{◌+◌, ◌<◌, ◌≤◌, List, [], ◌∷◌, length, Option, Some, None, arith}
use Rattle.upc_lexer.specs.declared.token.Token.{Token}
use Rattle.upc_lexer.specs.declared.token.Punct.TheVariants as p
use Rattle.upc_lexer.specs.declared.token.Word.TheVariants as w
use Rattle.upc_tree.specs.declared.span.Pragma.{Pragma}
use Rattle.upc_tree.specs.Tokens.{punct, word, name_token, spell_pragmas}
use Rattle.upc_tree.specs.Expression.{Expr, Specs, NoSpecs, AndSpec, spell_next_exprs, spell_specs, spell_pointers, spell_parameters, height_specs}
use Rattle.upc_tree.specs.Proper.{IsSome, ProperSpecs}
use Rattle.upc_tree.specs.Declaration as d
use Rattle.upc_tree.specs.Declaration.{Initial, Declared, DeclaredAs, NextDeclareds, NoNextDeclareds, AndDeclared, DeclaredList, NoneDeclared, SomeDeclared, Declaration, Declares, spell_initial, spell_declared, spell_next_declareds, spell_declared_list, spell_declaration, height_initial, height_declared, height_next_declareds, height_declared_list, height_declaration, ProperInitial, ProperDeclared, ProperNextDeclareds, ProperDeclaredList, ProperDeclaration}
use Rattle.upc_tree.specs.Statement as s
use Rattle.upc_tree.specs.Statement.{Test, Tests, First, FirstValue, FirstDeclaration, Affinity, NoAffinity, ContinueAffinity, ValueAffinity, ForHead, ForParts, ForallHead, ForallParts, Statement, Compound, Braces, BlockItem, DeclarationItem, StatementItem, BlockItems, NoBlockItems, AndBlockItem, SwitchItem, CaseItem, DefaultItem, SwitchStatement, SwitchItems, NoSwitchItems, AndSwitchItem, ElseIfs, NoElseIfs, AndElseIf, Otherwise, NoOtherwise, Else, spell_value, spell_test, spell_first, spell_affinity, spell_for, spell_forall, spell_statement, spell_compound, spell_block_items, spell_block_item, spell_switch_items, spell_switch_item, spell_else_ifs, spell_otherwise, height_value, height_test, height_first, height_affinity, height_for, height_forall, height_statement, height_compound, height_block_items, height_block_item, height_switch_items, height_switch_item, height_else_ifs, height_otherwise, ProperValue, ProperTest, ProperFirst, ProperAffinity, ProperFor, ProperForall, ProperStatement, ProperCompound, ProperBlockItems, ProperBlockItem, ProperSwitchItems, ProperSwitchItem, ProperElseIfs, ProperOtherwise}
use Rattle.upc_tree.specs.Unit.{External, PragmaPart, DeclarationPart, FunctionPart, spell_external, spell_externals, height_external, height_externals, ProperExternal, ProperExternals, IsFilled}
use Rattle.upc_parser_laws.proofs.Low.{long, long_next_exprs, long_specs, long_spec, long_declarator, long_pointers, long_parameters, low, low_next_exprs, low_specs, low_spec, low_declarator, low_pointers, low_parameters}

-- ---- a tree takes tokens

pub long_initial : (u : Initial) (rest : List Token) → length rest ≤ length (spell_initial u rest)
long_initial d.NoInitial rest = omega arith
long_initial (d.ValueInitial q e) rest = omega (arith, long e rest)
long_initial (d.ListInitial q l e m r) rest = omega (arith, long e (spell_next_exprs m (punct p.RBrace r ∷ rest)), long_next_exprs m (punct p.RBrace r ∷ rest))

pub long_declared : (u : Declared) (rest : List Token) → length rest ≤ length (spell_declared u rest)
long_declared (DeclaredAs x i) rest = omega (arith, long_declarator x (spell_initial i rest), long_initial i rest)

pub long_next_declareds : (u : NextDeclareds) (rest : List Token) → length rest ≤ length (spell_next_declareds u rest)
long_next_declareds NoNextDeclareds rest = omega arith
long_next_declareds (AndDeclared c x m) rest = omega (arith, long_declared x (spell_next_declareds m rest), long_next_declareds m rest)

pub long_declared_list : (u : DeclaredList) (rest : List Token) → length rest ≤ length (spell_declared_list u rest)
long_declared_list NoneDeclared rest = omega arith
long_declared_list (SomeDeclared x m) rest = omega (arith, long_declared x (spell_next_declareds m rest), long_next_declareds m rest)

pub long_declaration : (u : Declaration) (rest : List Token) → length rest < length (spell_declaration u rest)
long_declaration (Declares s x c) rest = omega (arith, long_specs s (spell_declared_list x (punct p.Semicolon c ∷ rest)), long_declared_list x (punct p.Semicolon c ∷ rest))

long_value : (u : Option Expr) (rest : List Token) → length rest ≤ length (spell_value u rest)
long_value None rest = omega arith
long_value (Some e) rest = omega (arith, long e rest)

long_test : (u : Test) (rest : List Token) → length rest ≤ length (spell_test u rest)
long_test (Tests l e r) rest = omega (arith, long e (punct p.RParen r ∷ rest))

long_first : (u : First) (rest : List Token) → length rest ≤ length (spell_first u rest)
long_first (FirstValue v c) rest = omega (arith, long_value v (punct p.Semicolon c ∷ rest))
long_first (FirstDeclaration x) rest = omega (arith, long_declaration x rest)

long_affinity : (u : Affinity) (rest : List Token) → length rest ≤ length (spell_affinity u rest)
long_affinity NoAffinity rest = omega arith
long_affinity (ContinueAffinity a) rest = omega arith
long_affinity (ValueAffinity e) rest = omega (arith, long e rest)

long_for : (u : ForHead) (rest : List Token) → length rest ≤ length (spell_for u rest)
long_for (ForParts l f t c x r) rest =
    let step = spell_value x (punct p.RParen r ∷ rest) in
    omega (arith, long_first f (spell_value t (punct p.Semicolon c ∷ step)), long_value t (punct p.Semicolon c ∷ step), long_value x (punct p.RParen r ∷ rest))

long_forall : (u : ForallHead) (rest : List Token) → length rest ≤ length (spell_forall u rest)
long_forall (ForallParts l f t c x g a r) rest =
    let share = spell_affinity a (punct p.RParen r ∷ rest) in
    let step = spell_value x (punct p.Semicolon g ∷ share) in
    omega (arith, long_first f (spell_value t (punct p.Semicolon c ∷ step)), long_value t (punct p.Semicolon c ∷ step), long_value x (punct p.Semicolon g ∷ share), long_affinity a (punct p.RParen r ∷ rest))

long_pragmas : (l : List Pragma) (rest : List Token) → length rest ≤ length (spell_pragmas l rest)
long_pragmas [] rest = omega arith
long_pragmas (x ∷ l) rest = omega (arith, long_pragmas l rest)

mutual
  pub long_statement : (u : Statement) (rest : List Token) → length rest < length (spell_statement u rest)
  long_statement (s.Block c) rest = long_compound c rest
  long_statement (s.Value v c) rest = omega (arith, long_value v (punct p.Semicolon c ∷ rest))
  long_statement (s.If a t b m o) rest =
      let end = spell_otherwise o rest in
      omega (arith, long_test t (spell_statement b (spell_else_ifs m end)), long_statement b (spell_else_ifs m end), long_else_ifs m end, long_otherwise o rest)
  long_statement (s.Switch a t l b r) rest = omega (arith, long_test t (punct p.LBrace l ∷ spell_switch_items b (punct p.RBrace r ∷ rest)), long_switch_items b (punct p.RBrace r ∷ rest))
  long_statement (s.While a t b) rest = omega (arith, long_test t (spell_statement b rest), long_statement b rest)
  long_statement (s.DoWhile a b u t c) rest =
      let end = spell_test t (punct p.Semicolon c ∷ rest) in
      omega (arith, long_statement b (word w.While u ∷ end), long_test t (punct p.Semicolon c ∷ rest))
  long_statement (s.For a h b) rest = omega (arith, long_for h (spell_statement b rest), long_statement b rest)
  long_statement (s.Forall a h b) rest = omega (arith, long_forall h (spell_statement b rest), long_statement b rest)
  long_statement (s.Break a c) rest = omega arith
  long_statement (s.Continue a c) rest = omega arith
  long_statement (s.Return a v c) rest = omega (arith, long_value v (punct p.Semicolon c ∷ rest))
  long_statement (s.Barrier k a v c) rest = omega (arith, long_value v (punct p.Semicolon c ∷ rest))
  long_statement (s.Fence a c) rest = omega arith

  pub long_compound : (u : Compound) (rest : List Token) → length rest < length (spell_compound u rest)
  long_compound (Braces l g m r) rest = let end = punct p.RBrace r ∷ rest in omega (arith, long_pragmas g (spell_block_items m end), long_block_items m end)

  long_block_items : (u : BlockItems) (rest : List Token) → length rest ≤ length (spell_block_items u rest)
  long_block_items NoBlockItems rest = omega arith
  long_block_items (AndBlockItem x m) rest = omega (arith, long_block_item x (spell_block_items m rest), long_block_items m rest)

  pub long_block_item : (u : BlockItem) (rest : List Token) → length rest < length (spell_block_item u rest)
  long_block_item (DeclarationItem x) rest = long_declaration x rest
  long_block_item (StatementItem b) rest = long_statement b rest

  long_switch_items : (u : SwitchItems) (rest : List Token) → length rest ≤ length (spell_switch_items u rest)
  long_switch_items NoSwitchItems rest = omega arith
  long_switch_items (AndSwitchItem x m) rest = omega (arith, long_switch_item x (spell_switch_items m rest), long_switch_items m rest)

  pub long_switch_item : (u : SwitchItem) (rest : List Token) → length rest < length (spell_switch_item u rest)
  long_switch_item (CaseItem a e c) rest = omega (arith, long e (punct p.Colon c ∷ rest))
  long_switch_item (DefaultItem a c) rest = omega arith
  long_switch_item (SwitchStatement b) rest = long_statement b rest

  long_else_ifs : (u : ElseIfs) (rest : List Token) → length rest ≤ length (spell_else_ifs u rest)
  long_else_ifs NoElseIfs rest = omega arith
  long_else_ifs (AndElseIf o a t b m) rest = omega (arith, long_test t (spell_statement b (spell_else_ifs m rest)), long_statement b (spell_else_ifs m rest), long_else_ifs m rest)

  long_otherwise : (u : Otherwise) (rest : List Token) → length rest ≤ length (spell_otherwise u rest)
  long_otherwise NoOtherwise rest = omega arith
  long_otherwise (Else a b) rest = omega (arith, long_statement b rest)

pub long_else_if : (t : Test) (b : Statement) (rest : List Token) → length rest < length (spell_test t (spell_statement b rest))
long_else_if t b rest = omega (arith, long_test t (spell_statement b rest), long_statement b rest)

pub long_external : (u : External) (rest : List Token) → length rest < length (spell_external u rest)
long_external (PragmaPart g) rest = omega arith
long_external (DeclarationPart x) rest = long_declaration x rest
long_external (FunctionPart s q x r b) rest =
    let body = spell_compound b rest in
    omega (arith, long_specs s (spell_pointers q (name_token x ∷ spell_parameters r body)), long_pointers q (name_token x ∷ spell_parameters r body), long_parameters r body, long_compound b rest)

-- ---- a proper tree takes as many tokens as it is high

low_initial : (u : Initial) (rest : List Token) → ProperInitial u → height_initial u + length rest ≤ length (spell_initial u rest)
low_initial d.NoInitial rest h = omega arith
low_initial (d.ValueInitial q e) rest h = omega (arith, low e rest h.1)
low_initial (d.ListInitial q l e m r) rest h = let end = punct p.RBrace r ∷ rest in omega (arith, low e (spell_next_exprs m end) h.1, low_next_exprs m end h.2, long e (spell_next_exprs m end), long_next_exprs m end)

low_declared : (u : Declared) (rest : List Token) → ProperDeclared u → height_declared u + length rest ≤ length (spell_declared u rest)
low_declared (DeclaredAs x i) rest h = omega (arith, low_declarator x (spell_initial i rest) h.0, low_initial i rest h.1, long_declarator x (spell_initial i rest), long_initial i rest)

low_next_declareds : (u : NextDeclareds) (rest : List Token) → ProperNextDeclareds u → height_next_declareds u + length rest ≤ length (spell_next_declareds u rest)
low_next_declareds NoNextDeclareds rest h = omega arith
low_next_declareds (AndDeclared c x m) rest h =
    omega (arith, low_declared x (spell_next_declareds m rest) h.0, low_next_declareds m rest h.1, long_declared x (spell_next_declareds m rest), long_next_declareds m rest)

low_declared_list : (u : DeclaredList) (rest : List Token) → ProperDeclaredList u → height_declared_list u + length rest ≤ length (spell_declared_list u rest)
low_declared_list NoneDeclared rest h = omega arith
low_declared_list (SomeDeclared x m) rest h =
    omega (arith, low_declared x (spell_next_declareds m rest) h.0, low_next_declareds m rest h.1, long_declared x (spell_next_declareds m rest), long_next_declareds m rest)

low_some_specs : (u : Specs) (rest : List Token) → IsSome u → ProperSpecs u → 1 + height_specs u + length rest ≤ length (spell_specs u rest)
low_some_specs NoSpecs rest some h = absurd some
low_some_specs (AndSpec x m) rest some h = omega (arith, low_spec x (spell_specs m rest) h.0, low_specs m rest h.1, long_spec x (spell_specs m rest), long_specs m rest)

low_declaration : (u : Declaration) (rest : List Token) → ProperDeclaration u → 1 + height_declaration u + length rest ≤ length (spell_declaration u rest)
low_declaration (Declares s x c) rest h =
    let end = punct p.Semicolon c ∷ rest in
    omega (arith, low_some_specs s (spell_declared_list x end) h.0 h.1, low_declared_list x end h.2, long_declared_list x end)

low_value : (u : Option Expr) (rest : List Token) → ProperValue u → height_value u + length rest ≤ length (spell_value u rest)
low_value None rest h = omega arith
low_value (Some e) rest h = low e rest h

low_test : (u : Test) (rest : List Token) → ProperTest u → height_test u + length rest ≤ length (spell_test u rest)
low_test (Tests l e r) rest h = omega (arith, low e (punct p.RParen r ∷ rest) h)

low_first : (u : First) (rest : List Token) → ProperFirst u → height_first u + length rest ≤ length (spell_first u rest)
low_first (FirstValue v c) rest h = omega (arith, low_value v (punct p.Semicolon c ∷ rest) h)
low_first (FirstDeclaration x) rest h = omega (arith, low_declaration x rest h.1)

low_affinity : (u : Affinity) (rest : List Token) → ProperAffinity u → height_affinity u + length rest ≤ length (spell_affinity u rest)
low_affinity NoAffinity rest h = omega arith
low_affinity (ContinueAffinity a) rest h = omega arith
low_affinity (ValueAffinity e) rest h = low e rest h

low_for : (u : ForHead) (rest : List Token) → ProperFor u → height_for u + length rest ≤ length (spell_for u rest)
low_for (ForParts l f t c x r) rest h =
    let end = punct p.RParen r ∷ rest in
    let step = spell_value x end in
    let test = spell_value t (punct p.Semicolon c ∷ step) in
    omega (arith, low_first f test h.0, low_value t (punct p.Semicolon c ∷ step) h.1, low_value x end h.2, long_first f test, long_value t (punct p.Semicolon c ∷ step), long_value x end)

low_forall : (u : ForallHead) (rest : List Token) → ProperForall u → height_forall u + length rest ≤ length (spell_forall u rest)
low_forall (ForallParts l f t c x g a r) rest h =
    let end = punct p.RParen r ∷ rest in
    let share = spell_affinity a end in
    let step = spell_value x (punct p.Semicolon g ∷ share) in
    let test = spell_value t (punct p.Semicolon c ∷ step) in
    omega (arith, low_first f test h.0, low_value t (punct p.Semicolon c ∷ step) h.1, low_value x (punct p.Semicolon g ∷ share) h.2, low_affinity a end h.3, long_first f test, long_value t (punct p.Semicolon c ∷ step), long_value x (punct p.Semicolon g ∷ share), long_affinity a end)

mutual
  low_statement : (u : Statement) (rest : List Token) → ProperStatement u → height_statement u + length rest ≤ length (spell_statement u rest)
  low_statement (s.Block c) rest h = low_compound c rest h
  low_statement (s.Value v c) rest h = omega (arith, low_value v (punct p.Semicolon c ∷ rest) h)
  low_statement (s.If a t b m o) rest h =
      let end = spell_otherwise o rest in
      let more = spell_else_ifs m end in
      omega (arith, low_test t (spell_statement b more) h.0, low_statement b more h.2, low_else_ifs m o end h.3, low_otherwise o rest h.4, long_test t (spell_statement b more), long_statement b more, long_else_ifs m end, long_otherwise o rest)
  low_statement (s.Switch a t l b r) rest h =
      let end = punct p.RBrace r ∷ rest in
      let body = punct p.LBrace l ∷ spell_switch_items b end in
      omega (arith, low_test t body h.0, low_switch_items b end h.1, long_test t body, long_switch_items b end)
  low_statement (s.While a t b) rest h = omega (arith, low_test t (spell_statement b rest) h.0, low_statement b rest h.1, long_test t (spell_statement b rest), long_statement b rest)
  low_statement (s.DoWhile a b u t c) rest h =
      let end = spell_test t (punct p.Semicolon c ∷ rest) in
      omega (arith, low_statement b (word w.While u ∷ end) h.0, low_test t (punct p.Semicolon c ∷ rest) h.1, long_statement b (word w.While u ∷ end), long_test t (punct p.Semicolon c ∷ rest))
  low_statement (s.For a k b) rest h = omega (arith, low_for k (spell_statement b rest) h.0, low_statement b rest h.1, long_for k (spell_statement b rest), long_statement b rest)
  low_statement (s.Forall a k b) rest h = omega (arith, low_forall k (spell_statement b rest) h.0, low_statement b rest h.1, long_forall k (spell_statement b rest), long_statement b rest)
  low_statement (s.Break a c) rest h = omega arith
  low_statement (s.Continue a c) rest h = omega arith
  low_statement (s.Return a v c) rest h = omega (arith, low_value v (punct p.Semicolon c ∷ rest) h)
  low_statement (s.Barrier k a v c) rest h = omega (arith, low_value v (punct p.Semicolon c ∷ rest) h)
  low_statement (s.Fence a c) rest h = omega arith

  low_compound : (u : Compound) (rest : List Token) → ProperCompound u → height_compound u + length rest ≤ length (spell_compound u rest)
  low_compound (Braces l g m r) rest h = let end = punct p.RBrace r ∷ rest in omega (arith, long_pragmas g (spell_block_items m end), low_block_items m end h)

  low_block_items : (u : BlockItems) (rest : List Token) → ProperBlockItems u → height_block_items u + length rest ≤ length (spell_block_items u rest)
  low_block_items NoBlockItems rest h = omega arith
  low_block_items (AndBlockItem x m) rest h =
      omega (arith, low_block_item x (spell_block_items m rest) h.0, low_block_items m rest h.1, long_block_item x (spell_block_items m rest), long_block_items m rest)

  low_block_item : (u : BlockItem) (rest : List Token) → ProperBlockItem u → height_block_item u + length rest ≤ length (spell_block_item u rest)
  low_block_item (DeclarationItem x) rest h = omega (arith, low_declaration x rest h.1)
  low_block_item (StatementItem b) rest h = low_statement b rest h

  low_switch_items : (u : SwitchItems) (rest : List Token) → ProperSwitchItems u → height_switch_items u + length rest ≤ length (spell_switch_items u rest)
  low_switch_items NoSwitchItems rest h = omega arith
  low_switch_items (AndSwitchItem x m) rest h =
      omega (arith, low_switch_item x (spell_switch_items m rest) h.0, low_switch_items m rest h.1, long_switch_item x (spell_switch_items m rest), long_switch_items m rest)

  low_switch_item : (u : SwitchItem) (rest : List Token) → ProperSwitchItem u → height_switch_item u + length rest ≤ length (spell_switch_item u rest)
  low_switch_item (CaseItem a e c) rest h = omega (arith, low e (punct p.Colon c ∷ rest) h.1)
  low_switch_item (DefaultItem a c) rest h = omega arith
  low_switch_item (SwitchStatement b) rest h = low_statement b rest h

  low_else_ifs : (u : ElseIfs) (o : Otherwise) (rest : List Token) → ProperElseIfs u o → height_else_ifs u + length rest ≤ length (spell_else_ifs u rest)
  low_else_ifs NoElseIfs o rest h = omega arith
  low_else_ifs (AndElseIf e a t b m) o rest h =
      let more = spell_else_ifs m rest in
      omega (arith, low_test t (spell_statement b more) h.0, low_statement b more h.2, low_else_ifs m o rest h.3, long_test t (spell_statement b more), long_statement b more, long_else_ifs m rest)

  low_otherwise : (u : Otherwise) (rest : List Token) → ProperOtherwise u → height_otherwise u + length rest ≤ length (spell_otherwise u rest)
  low_otherwise NoOtherwise rest h = omega arith
  low_otherwise (Else a b) rest h = omega (arith, low_statement b rest h.1)

low_external : (u : External) (rest : List Token) → ProperExternal u → 1 + height_external u + length rest ≤ length (spell_external u rest)
low_external (PragmaPart g) rest h = omega arith
low_external (DeclarationPart x) rest h = low_declaration x rest h
low_external (FunctionPart s q x r b) rest h =
    let body = spell_compound b rest in
    let named = name_token x ∷ spell_parameters r body in
    omega (arith, low_some_specs s (spell_pointers q named) h.0 h.1, low_pointers q named h.2, low_parameters r body h.3, low_compound b rest h.4, long_pointers q named, long_parameters r body, long_compound b rest)

low_externals : (u : List External) (rest : List Token) → ProperExternals u → height_externals u + length rest ≤ length (spell_externals u rest)
low_externals [] rest h = omega arith
low_externals (x ∷ m) rest h = omega (arith, low_external x (spell_externals m rest) h.0, low_externals m rest h.1, long_external x (spell_externals m rest))

pub low_unit : (u : List External) (rest : List Token) → IsFilled u → ProperExternals u → 1 + height_externals u + length rest ≤ length (spell_externals u rest)
low_unit [] rest some h = absurd some
low_unit (x ∷ m) rest some h = omega (arith, low_external x (spell_externals m rest) h.0, low_externals m rest h.1, long_external x (spell_externals m rest))
