-- The numbers among the nodes of a source are in the range of their kind where those among its tokens are.
use Rattle.std.proofs.Common.{ℕ, ◌≤◌, Bool, true, false, List, [], ◌∷◌, ◌++◌, map, Option, Some, None, sym, subst, arith}
use Rattle.std.proofs.Math.IntN.{pos}
use Rattle.std.proofs.lemmas.Int.{ints}
use Rattle.upc_text.specs.declared.place.Place.{Place}
use Rattle.integers.specs.Integers.{InKind}
use Rattle.upc_lexer.specs.declared.token.NumberKind.{NumberKind}
use Rattle.upc_lexer.specs.declared.token.NumberKind.TheVariants as number
use Rattle.upc_lexer.specs.declared.token.Token.{Token}
use Rattle.upc_lexer.specs.Numbers.{greatest, NumbersFit}
use Rattle.upc_tree.specs.declared.span.Name.{Name}
use Rattle.upc_tree.specs.declared.span.Pragma.{Pragma}
use Rattle.upc_tree.specs.declared.span.StringLiteral.{StringLiteral}
use Rattle.upc_tree.specs.Tokens.{spell_strings, spell_pragmas}
use Rattle.upc_tree.specs.Expression.{Expr, Named, Number, Character, Strings, Constant, Paren, Subscript, Call, MemberOf, Postfix, Unary, SizeOfExpr, SizeOfType, Cast, Binary, Assign, Conditional, Comma, Arguments, NoArguments, SomeArguments, NextExprs, NoNextExprs, AndExpr, TypeName, Typed, Specs, NoSpecs, AndSpec, Spec, WordSpec, QualSpec, TagSpec, StructSpec, Quals, NoQuals, AndQual, Qual, Const, Strict, Relaxed, Shared, Layout, NoLayout, IndefiniteLayout, StarLayout, BlockLayout, Pointers, NoPointers, AndPointer, Dimensions, NoDimensions, AndDimension, Members, NoMembers, AndMember, NextDeclarators, NoNextDeclarators, AndDeclarator, Declarator, ObjectDeclarator, FunctionDeclarator, Parameters, NoParameters, VoidParameters, SomeParameters, Parameter, Parametric, NextParameters, NoNextParameters, AndParameter, ParameterArray, NoArray, UnsizedArray, SizedArray}
use Rattle.upc_tree.specs.Expression.{spell_name, spell, spell_arguments, spell_next_exprs, spell_type, spell_specs, spell_spec, spell_quals, spell_qual, spell_layout, spell_pointers, spell_dimensions, spell_members, spell_next_declarators, spell_declarator, spell_parameters, spell_parameter, spell_next_parameters, spell_array}
use Rattle.upc_tree.specs.Declaration as d
use Rattle.upc_tree.specs.Declaration.{Declaration, Declares, DeclaredList, NoneDeclared, SomeDeclared, NextDeclareds, NoNextDeclareds, AndDeclared, DeclaredAs, spell_initial, spell_declared, spell_next_declareds, spell_declared_list, spell_declaration}
use Rattle.upc_tree.specs.Statement as s
use Rattle.upc_tree.specs.Statement.{Statement, Compound, Braces, BlockItems, NoBlockItems, AndBlockItem, DeclarationItem, StatementItem, SwitchItems, NoSwitchItems, AndSwitchItem, CaseItem, DefaultItem, SwitchStatement, ElseIfs, NoElseIfs, AndElseIf, Otherwise, NoOtherwise, Else, Test, Tests, First, FirstValue, FirstDeclaration, Affinity, NoAffinity, ContinueAffinity, ValueAffinity, ForHead, ForParts, ForallHead, ForallParts}
use Rattle.upc_tree.specs.Statement.{spell_value, spell_test, spell_first, spell_affinity, spell_for, spell_forall, spell_statement, spell_compound, spell_block_items, spell_switch_items, spell_else_ifs, spell_otherwise}
use Rattle.upc_tree.specs.Unit.{External, PragmaPart, DeclarationPart, FunctionPart, spell_external, spell_externals, tokens_of}
use Rattle.typing_rules.specs.Nodes as n
use Rattle.typing_rules.specs.Nodes.{Node}
use Rattle.typing_rules.specs.Faults.{Seen}
use Rattle.upc_checker_nodes.specs.Marks.{number_kind}
use Rattle.upc_checker_scopes.specs.Places.{at, specs_place}
use Rattle.upc_checker.specs.Units.{unit_nodes}
use Rattle.upc_checker.specs.code.Lines as l
use Rattle.upc_checker.specs.code.Lines.{Line, line_of}
use Rattle.upc_checker.specs.code.TreeNodes.{TreeNode, node, node_of, to_their_end, nodes, argument_nodes, next_nodes, type_nodes, specs_nodes, spec_nodes, quals_nodes, qual_nodes, layout_nodes, pointer_nodes, size_nodes, member_nodes, next_declarator_nodes, declarator_nodes, parameters_nodes, next_parameter_nodes, parameter_nodes, array_nodes, value_nodes, values_nodes, initial_nodes, declared_nodes, next_declared_nodes, declared_list_nodes, declaration_nodes, option_nodes, test_nodes, first_nodes, affinity_nodes, for_nodes, forall_nodes, return_nodes, barrier_nodes, statement_nodes, compound_nodes, item_nodes, switch_nodes, else_if_nodes, otherwise_nodes, external_nodes, externals_nodes, tree_nodes}
use Rattle.upc_checker.proofs.Passing.{NodeFits, SeenFit}
use Rattle.upc_checker.proofs.UnitSaid.{every_node}

-- A value that is at most the greatest of its type is in the range of its kind.
in_range : (kind : NumberKind) (value : ℕ) → value ≤ greatest kind → InKind (pos value) (number_kind kind)
in_range number.Int value h = record { low = omega (arith, ints); high = omega (arith, ints, h) }
in_range number.UInt value h = record { low = omega (arith, ints); high = omega (arith, ints, h) }
in_range number.Long value h = record { low = omega (arith, ints); high = omega (arith, ints, h) }
in_range number.ULong value h = record { low = omega (arith, ints); high = omega (arith, ints, h) }

-- ---- the nodes of a tree

abbrev LineFits : Line → Type 0
LineFits (l.Number kind value) = InKind (pos value) kind
LineFits line = Unit {0}

abbrev LinesFit : List TreeNode → Type 0
LinesFit [] = Unit {0}
LinesFit (x ∷ xs) = LineFits x.line × LinesFit xs

lines_both : (xs ys : List TreeNode) → LinesFit xs → LinesFit ys → LinesFit (xs ++ ys)
lines_both [] ys h i = i
lines_both (x ∷ xs) ys h i = (h.0, lines_both xs ys h.1 i)

-- The numbers of these nodes fit, and those of the tokens after them.
record Leaves (xs : List TreeNode) (rest : List Token) : Type 0 where
  nodes : LinesFit xs
  tokens : NumbersFit rest

only : {rest : List Token} → NumbersFit rest → Leaves [] rest
only h = record { nodes = tt {0}; tokens = h }

mark : {place : Place} {rest : List Token} (line : Line) → LineFits line → NumbersFit rest → Leaves (record { at = place; line = line } ∷ []) rest
mark line f h = record { nodes = (f, tt {0}); tokens = h }

past : {xs : List TreeNode} {t : Token} {rest : List Token} → Leaves xs (t ∷ rest) → Leaves xs rest
past h = record { nodes = h.nodes; tokens = h.tokens.1 }

behind : {xs ys : List TreeNode} {mid rest : List Token} → Leaves xs mid → (NumbersFit mid → Leaves ys rest) → Leaves (xs ++ ys) rest
behind {xs = xs} {ys = ys} h k = let r = k h.tokens in record { nodes = lines_both xs ys h.nodes r.nodes; tokens = r.tokens }

mark_then : {place : Place} {ys : List TreeNode} {rest : List Token} (line : Line) → LineFits line → Leaves ys rest → Leaves (record { at = place; line = line } ∷ ys) rest
mark_then line f r = record { nodes = (f, r.nodes); tokens = r.tokens }

-- Specifiers that end.
ended : {xs : List TreeNode} {rest : List Token} (place : Place) → Leaves xs rest → Leaves (to_their_end place xs) rest
ended place h = behind h (λ h. mark l.Specifies (tt {0}) h)

strings_left : (xs : List StringLiteral) (rest : List Token) → NumbersFit (spell_strings xs rest) → NumbersFit rest
strings_left [] rest h = h
strings_left (x ∷ xs) rest h = strings_left xs rest h.1

pragmas_left : (xs : List Pragma) (rest : List Token) → NumbersFit (spell_pragmas xs rest) → NumbersFit rest
pragmas_left [] rest h = h
pragmas_left (x ∷ xs) rest h = pragmas_left xs rest h.1

name_left : (x : Option Name) (rest : List Token) → NumbersFit (spell_name x rest) → NumbersFit rest
name_left None rest h = h
name_left (Some x) rest h = h.1

-- ---- expressions and types

mutual
  fits : (x : Expr) (rest : List Token) → NumbersFit (spell x rest) → Leaves (nodes x) rest
  fits (Named name) rest h = mark l.Name (tt {0}) h.1
  fits (Number value kind span) rest h = mark (l.Number (number_kind kind) value) (in_range kind value h.0) h.1
  fits (Character value span) rest h = mark l.Character (tt {0}) h.1
  fits (Strings first more) rest h = mark l.Strings (tt {0}) (strings_left more rest h.1)
  fits (Constant word span) rest h = mark l.Constant (tt {0}) h.1
  fits (Paren left inner right) rest h = past (fits inner _ h.1)
  fits (Subscript a left i right) rest h = behind (fits a _ h) (λ h. behind (fits i _ h.1) (λ h. mark l.Subscript (tt {0}) h.1))
  fits (Call callee left arguments) rest h = behind (fits callee _ h) (λ h. behind (arguments_fit arguments rest h.1) (λ h. mark l.Call (tt {0}) h))
  fits (MemberOf a mk dot name) rest h = behind (fits a _ h) (λ h. mark l.MemberOf (tt {0}) h.1.1)
  fits (Postfix a mk span) rest h = behind (fits a _ h) (λ h. mark l.Unary (tt {0}) h.1)
  fits (Unary mk span a) rest h = behind (fits a rest h.1) (λ h. mark l.Unary (tt {0}) h)
  fits (SizeOfExpr word span a) rest h = behind (fits a rest h.1) (λ h. mark l.SizeOf (tt {0}) h)
  fits (SizeOfType word span left type right) rest h = behind (type_fits (at span) type _ h.1.1) (λ h. mark l.SizeOfType (tt {0}) h.1)
  fits (Cast left type right a) rest h = behind (type_fits (at left) type _ h.1) (λ h. behind (fits a rest h.1) (λ h. mark l.Cast (tt {0}) h))
  fits (Binary a mk span b) rest h = behind (fits a _ h) (λ h. behind (fits b rest h.1) (λ h. mark l.Binary (tt {0}) h))
  fits (Assign a mk span b) rest h = behind (fits a _ h) (λ h. behind (fits b rest h.1) (λ h. mark l.Assign (tt {0}) h))
  fits (Conditional test question a colon b) rest h =
      behind (fits test _ h) (λ h. behind (fits a _ h.1) (λ h. behind (fits b rest h.1) (λ h. mark l.Conditional (tt {0}) h)))
  fits (Comma first more) rest h = behind (fits first _ h) (λ h. behind (next_fit more rest h) (λ h. mark l.Comma (tt {0}) h))

  arguments_fit : (x : Arguments) (rest : List Token) → NumbersFit (spell_arguments x rest) → Leaves (argument_nodes x) rest
  arguments_fit (NoArguments right) rest h = only h.1
  arguments_fit (SomeArguments first more right) rest h = past (behind (fits first _ h) (λ h. next_fit more _ h))

  next_fit : (x : NextExprs) (rest : List Token) → NumbersFit (spell_next_exprs x rest) → Leaves (next_nodes x) rest
  next_fit NoNextExprs rest h = only h
  next_fit (AndExpr comma value more) rest h = behind (fits value _ h.1) (λ h. next_fit more rest h)

  type_fits : (place : Place) (x : TypeName) (rest : List Token) → NumbersFit (spell_type x rest) → Leaves (type_nodes place x) rest
  type_fits place (Typed specs pointers sizes) rest h = behind (ended place (specs_fit specs _ h)) (λ h. behind (pointers_fit pointers _ h) (λ h. sizes_fit sizes rest h))

  specs_fit : (x : Specs) (rest : List Token) → NumbersFit (spell_specs x rest) → Leaves (specs_nodes x) rest
  specs_fit NoSpecs rest h = only h
  specs_fit (AndSpec spec more) rest h = behind (spec_fits spec _ h) (λ h. specs_fit more rest h)

  spec_fits : (x : Spec) (rest : List Token) → NumbersFit (spell_spec x rest) → Leaves (spec_nodes x) rest
  spec_fits (WordSpec word span) rest h = only h.1
  spec_fits (QualSpec qual) rest h = qual_fits qual rest h
  spec_fits (TagSpec word tag) rest h = only h.1.1
  spec_fits (StructSpec word tag left members right) rest h = behind (past (members_fit members _ h.1.1.1)) (λ h. mark l.Struct (tt {0}) h)

  quals_fit : (x : Quals) (rest : List Token) → NumbersFit (spell_quals x rest) → Leaves (quals_nodes x) rest
  quals_fit NoQuals rest h = only h
  quals_fit (AndQual qual more) rest h = behind (qual_fits qual _ h) (λ h. quals_fit more rest h)

  qual_fits : (x : Qual) (rest : List Token) → NumbersFit (spell_qual x rest) → Leaves (qual_nodes x) rest
  qual_fits (Const word) rest h = only h.1
  qual_fits (Strict word) rest h = only h.1
  qual_fits (Relaxed word) rest h = only h.1
  qual_fits (Shared word layout) rest h = layout_fits layout rest h.1

  layout_fits : (x : Layout) (rest : List Token) → NumbersFit (spell_layout x rest) → Leaves (layout_nodes x) rest
  layout_fits NoLayout rest h = only h
  layout_fits (IndefiniteLayout left right) rest h = only h.1.1
  layout_fits (StarLayout left star right) rest h = mark l.StarBlock (tt {0}) h.1.1.1
  layout_fits (BlockLayout left size right) rest h =
      behind (past (fits size _ h.1)) (λ h. mark_then l.Constantly (tt {0}) (mark l.Block (tt {0}) h))

  pointers_fit : (x : Pointers) (rest : List Token) → NumbersFit (spell_pointers x rest) → Leaves (pointer_nodes x) rest
  pointers_fit NoPointers rest h = only h
  pointers_fit (AndPointer star quals more) rest h = behind (quals_fit quals _ h.1) (λ h. pointers_fit more rest h)

  sizes_fit : (x : Dimensions) (rest : List Token) → NumbersFit (spell_dimensions x rest) → Leaves (size_nodes x) rest
  sizes_fit NoDimensions rest h = only h
  sizes_fit (AndDimension left size right more) rest h =
      behind (past (fits size _ h.1)) (λ h. mark_then l.Constantly (tt {0}) (sizes_fit more rest h))

  members_fit : (x : Members) (rest : List Token) → NumbersFit (spell_members x rest) → Leaves (member_nodes x) rest
  members_fit NoMembers rest h = only h
  members_fit (AndMember specs first next semicolon more) rest h =
      behind (ended (specs_place specs) (specs_fit specs _ h)) (λ h. behind (declarator_fits first _ h) (λ h. behind (past (next_declarators_fit next _ h)) (λ h.
      mark_then l.Specifies (tt {0}) (members_fit more rest h))))

  next_declarators_fit : (x : NextDeclarators) (rest : List Token) → NumbersFit (spell_next_declarators x rest) → Leaves (next_declarator_nodes x) rest
  next_declarators_fit NoNextDeclarators rest h = only h
  next_declarators_fit (AndDeclarator comma declarator more) rest h = behind (declarator_fits declarator _ h.1) (λ h. next_declarators_fit more rest h)

  declarator_fits : (x : Declarator) (rest : List Token) → NumbersFit (spell_declarator x rest) → Leaves (declarator_nodes x) rest
  declarator_fits (ObjectDeclarator pointers name sizes) rest h =
      behind (pointers_fit pointers _ h) (λ h. behind (sizes_fit sizes rest h.1) (λ h. mark l.Member (tt {0}) h))
  declarator_fits (FunctionDeclarator pointers name parameters) rest h =
      behind (pointers_fit pointers _ h) (λ h. behind (parameters_fit parameters rest h.1) (λ h. mark l.MemberFunction (tt {0}) h))

  parameters_fit : (x : Parameters) (rest : List Token) → NumbersFit (spell_parameters x rest) → Leaves (parameters_nodes x) rest
  parameters_fit (NoParameters left right) rest h = only h.1.1
  parameters_fit (VoidParameters left word right) rest h = only h.1.1.1
  parameters_fit (SomeParameters left first more right) rest h = past (behind (parameter_fits first _ h.1) (λ h. next_parameters_fit more _ h))

  parameter_fits : (x : Parameter) (rest : List Token) → NumbersFit (spell_parameter x rest) → Leaves (parameter_nodes x) rest
  parameter_fits (Parametric specs pointers name array) rest h =
      behind (ended (specs_place specs) (specs_fit specs _ h)) (λ h. behind (pointers_fit pointers _ h) (λ h. behind (array_fits array rest (name_left name _ h)) (λ h. mark l.Parameter (tt {0}) h)))

  next_parameters_fit : (x : NextParameters) (rest : List Token) → NumbersFit (spell_next_parameters x rest) → Leaves (next_parameter_nodes x) rest
  next_parameters_fit NoNextParameters rest h = only h
  next_parameters_fit (AndParameter comma parameter more) rest h = behind (parameter_fits parameter _ h.1) (λ h. next_parameters_fit more rest h)

  array_fits : (x : ParameterArray) (rest : List Token) → NumbersFit (spell_array x rest) → Leaves (array_nodes x) rest
  array_fits NoArray rest h = only h
  array_fits (UnsizedArray left right) rest h = only h.1.1
  array_fits (SizedArray left size right) rest h = behind (past (fits size _ h.1)) (λ h. mark l.Constantly (tt {0}) h)

-- ---- declarations

value_fits : (file : Bool) (x : Expr) (rest : List Token) → NumbersFit (spell x rest) → Leaves (value_nodes file x) rest
value_fits true x rest h = behind (fits x rest h) (λ h. mark l.Constantly (tt {0}) h)
value_fits false x rest h = fits x rest h

values_fit : (file : Bool) (x : NextExprs) (rest : List Token) → NumbersFit (spell_next_exprs x rest) → Leaves (values_nodes file x) rest
values_fit file NoNextExprs rest h = only h
values_fit file (AndExpr comma value more) rest h = behind (value_fits file value _ h.1) (λ h. values_fit file more rest h)

initial_fits : (file : Bool) (place : Place) (x : d.Initial) (rest : List Token) → NumbersFit (spell_initial x rest) → Leaves (initial_nodes file place x) rest
initial_fits file place d.NoInitial rest h = only h
initial_fits file place (d.ValueInitial equal value) rest h = behind (value_fits file value rest h.1) (λ h. mark l.InitialValue (tt {0}) h)
initial_fits file place (d.ListInitial equal left first more right) rest h =
    behind (value_fits file first _ h.1.1) (λ h. behind (past (values_fit file more _ h)) (λ h. mark l.InitialList (tt {0}) h))

declared_fits : (file : Bool) (x : d.Declared) (rest : List Token) → NumbersFit (spell_declared x rest) → Leaves (declared_nodes file x) rest
declared_fits file (DeclaredAs (ObjectDeclarator pointers name sizes) initial) rest h =
    behind (pointers_fit pointers _ h) (λ h. behind (sizes_fit sizes _ h.1) (λ h. mark_then l.DeclaresObject (tt {0}) (initial_fits file _ initial rest h)))
declared_fits file (DeclaredAs (FunctionDeclarator pointers name parameters) initial) rest h =
    behind (pointers_fit pointers _ h) (λ h. behind (parameters_fit parameters _ h.1) (λ h. mark_then l.DeclaresFunction (tt {0}) (initial_fits file _ initial rest h)))

next_declareds_fit : (file : Bool) (x : NextDeclareds) (rest : List Token) → NumbersFit (spell_next_declareds x rest) → Leaves (next_declared_nodes file x) rest
next_declareds_fit file NoNextDeclareds rest h = only h
next_declareds_fit file (AndDeclared comma x more) rest h = behind (declared_fits file x _ h.1) (λ h. next_declareds_fit file more rest h)

declared_list_fits : (file : Bool) (x : DeclaredList) (rest : List Token) → NumbersFit (spell_declared_list x rest) → Leaves (declared_list_nodes file x) rest
declared_list_fits file NoneDeclared rest h = only h
declared_list_fits file (SomeDeclared first more) rest h = behind (declared_fits file first _ h) (λ h. next_declareds_fit file more rest h)

declaration_fits : (file : Bool) (x : Declaration) (rest : List Token) → NumbersFit (spell_declaration x rest) → Leaves (declaration_nodes file x) rest
declaration_fits file (Declares specs list semicolon) rest h =
    behind (ended (specs_place specs) (specs_fit specs _ h)) (λ h. behind (past (declared_list_fits file list _ h)) (λ h. mark l.Specifies (tt {0}) h))

-- ---- statements

option_fits : (x : Option Expr) (rest : List Token) → NumbersFit (spell_value x rest) → Leaves (option_nodes x) rest
option_fits None rest h = only h
option_fits (Some x) rest h = fits x rest h

test_fits : (x : Test) (rest : List Token) → NumbersFit (spell_test x rest) → Leaves (test_nodes x) rest
test_fits (Tests left value right) rest h = past (fits value _ h.1)

first_fits : (x : First) (rest : List Token) → NumbersFit (spell_first x rest) → Leaves (first_nodes x) rest
first_fits (FirstValue value semicolon) rest h = past (option_fits value _ h)
first_fits (FirstDeclaration declaration) rest h = declaration_fits false declaration rest h

affinity_fits : (x : Affinity) (rest : List Token) → NumbersFit (spell_affinity x rest) → Leaves (affinity_nodes x) rest
affinity_fits NoAffinity rest h = only h
affinity_fits (ContinueAffinity word) rest h = only h.1
affinity_fits (ValueAffinity value) rest h = behind (fits value rest h) (λ h. mark l.Affinity (tt {0}) h)

for_fits : (x : ForHead) (rest : List Token) → NumbersFit (spell_for x rest) → Leaves (for_nodes x) rest
for_fits (ForParts left first test test_end step right) rest h =
    behind (first_fits first _ h.1) (λ h. behind (past (option_fits test _ h)) (λ h. past (option_fits step _ h)))

forall_fits : (x : ForallHead) (rest : List Token) → NumbersFit (spell_forall x rest) → Leaves (forall_nodes x) rest
forall_fits (ForallParts left first test test_end step step_end affinity right) rest h =
    behind (first_fits first _ h.1) (λ h. behind (past (option_fits test _ h)) (λ h. behind (past (option_fits step _ h)) (λ h. past (affinity_fits affinity _ h))))

return_fits : (place : Place) (x : Option Expr) (rest : List Token) → NumbersFit (spell_value x rest) → Leaves (return_nodes place x) rest
return_fits place None rest h = mark l.ReturnsNothing (tt {0}) h
return_fits place (Some x) rest h = behind (fits x rest h) (λ h. mark l.Returns (tt {0}) h)

barrier_fits : (place : Place) (x : Option Expr) (rest : List Token) → NumbersFit (spell_value x rest) → Leaves (barrier_nodes place x) rest
barrier_fits place None rest h = only h
barrier_fits place (Some x) rest h = behind (fits x rest h) (λ h. mark l.Barrier (tt {0}) h)

mutual
  statement_fits : (x : Statement) (rest : List Token) → NumbersFit (spell_statement x rest) → Leaves (statement_nodes x) rest
  statement_fits (s.Block compound) rest h = compound_fits compound rest h
  statement_fits (s.Value value semicolon) rest h = past (option_fits value _ h)
  statement_fits (s.If word test body more last) rest h =
      behind (test_fits test _ h.1) (λ h. behind (statement_fits body _ h) (λ h. behind (else_ifs_fit more _ h) (λ h. behind (otherwise_fits last rest h) (λ h.
      mark l.Tests (tt {0}) h))))
  statement_fits (s.Switch word test left items right) rest h =
      behind (test_fits test _ h.1) (λ h. behind (past (switch_fits items _ h.1)) (λ h. mark l.Switch (tt {0}) h))
  statement_fits (s.While word test body) rest h = behind (test_fits test _ h.1) (λ h. behind (statement_fits body rest h) (λ h. mark l.Tests (tt {0}) h))
  statement_fits (s.DoWhile word body until test semicolon) rest h =
      behind (statement_fits body _ h.1) (λ h. behind (past (test_fits test _ h.1)) (λ h. mark l.Tests (tt {0}) h))
  statement_fits (s.For word head body) rest h = behind (for_fits head _ h.1) (λ h. behind (statement_fits body rest h) (λ h. mark l.Tests (tt {0}) h))
  statement_fits (s.Forall word head body) rest h = behind (forall_fits head _ h.1) (λ h. behind (statement_fits body rest h) (λ h. mark l.Tests (tt {0}) h))
  statement_fits (s.Break word semicolon) rest h = mark l.Break (tt {0}) h.1.1
  statement_fits (s.Continue word semicolon) rest h = mark l.Continue (tt {0}) h.1.1
  statement_fits (s.Return word value semicolon) rest h = past (return_fits (at word) value _ h.1)
  statement_fits (s.Barrier kind word value semicolon) rest h = past (barrier_fits (at word) value _ h.1)
  statement_fits (s.Fence word semicolon) rest h = only h.1.1

  compound_fits : (x : Compound) (rest : List Token) → NumbersFit (spell_compound x rest) → Leaves (compound_nodes x) rest
  compound_fits (Braces left pragmas items right) rest h = past (items_fit items _ (pragmas_left pragmas _ h.1))

  items_fit : (x : BlockItems) (rest : List Token) → NumbersFit (spell_block_items x rest) → Leaves (item_nodes x) rest
  items_fit NoBlockItems rest h = only h
  items_fit (AndBlockItem (DeclarationItem declaration) more) rest h = behind (declaration_fits false declaration _ h) (λ h. items_fit more rest h)
  items_fit (AndBlockItem (StatementItem statement) more) rest h = behind (statement_fits statement _ h) (λ h. items_fit more rest h)

  switch_fits : (x : SwitchItems) (rest : List Token) → NumbersFit (spell_switch_items x rest) → Leaves (switch_nodes x) rest
  switch_fits NoSwitchItems rest h = only h
  switch_fits (AndSwitchItem (CaseItem word value colon) more) rest h =
      behind (past (fits value _ h.1)) (λ h. mark_then l.Constantly (tt {0}) (switch_fits more rest h))
  switch_fits (AndSwitchItem (DefaultItem word colon) more) rest h = switch_fits more rest h.1.1
  switch_fits (AndSwitchItem (SwitchStatement statement) more) rest h = behind (statement_fits statement _ h) (λ h. switch_fits more rest h)

  else_ifs_fit : (x : ElseIfs) (rest : List Token) → NumbersFit (spell_else_ifs x rest) → Leaves (else_if_nodes x) rest
  else_ifs_fit NoElseIfs rest h = only h
  else_ifs_fit (AndElseIf other word test body more) rest h =
      behind (test_fits test _ h.1.1) (λ h. behind (statement_fits body _ h) (λ h. else_ifs_fit more rest h))

  otherwise_fits : (x : Otherwise) (rest : List Token) → NumbersFit (spell_otherwise x rest) → Leaves (otherwise_nodes x) rest
  otherwise_fits NoOtherwise rest h = only h
  otherwise_fits (Else word body) rest h = statement_fits body rest h.1

-- ---- the source

external_fits : (x : External) (rest : List Token) → NumbersFit (spell_external x rest) → Leaves (external_nodes x) rest
external_fits (PragmaPart pragma) rest h = only h.1
external_fits (DeclarationPart declaration) rest h = declaration_fits true declaration rest h
external_fits (FunctionPart specs pointers name parameters body) rest h =
    behind (ended (specs_place specs) (specs_fit specs _ h)) (λ h. behind (pointers_fit pointers _ h) (λ h. behind (parameters_fit parameters _ h.1) (λ h. behind (compound_fits body rest h) (λ h.
    mark l.Defines (tt {0}) h))))

externals_fit : (xs : List External) (rest : List Token) → NumbersFit (spell_externals xs rest) → Leaves (externals_nodes xs) rest
externals_fit [] rest h = only h
externals_fit (x ∷ xs) rest h = behind (external_fits x _ h) (λ h. externals_fit xs rest h)

tree_fits : (unit : List External) → NumbersFit (tokens_of unit) → LinesFit (tree_nodes unit)
tree_fits unit h =
    let r : Leaves (tree_nodes unit) [] = behind (externals_fit unit [] h) (λ h. mark l.File (tt {0}) h) in
    r.nodes

-- ---- the nodes of a walk

node_fits : (x : Node) → LineFits (line_of x) → NodeFits x
node_fits (n.Number kind value) h = h
node_fits x h = tt {0}

seen_fit : (xs : List Seen) → LinesFit (map node_of xs) → SeenFit xs
seen_fit [] h = tt {0}
seen_fit (x ∷ xs) h = (node_fits x.node h.0, seen_fit xs h.1)

-- The numbers that are judged are in the range of their kind.
pub nodes_fit : (names : List (List ℕ)) (threads : ℕ) (unit : List External) → NumbersFit (tokens_of unit) → SeenFit (unit_nodes names threads unit)
nodes_fit names threads unit h = seen_fit (unit_nodes names threads unit) (subst LinesFit (sym (every_node names threads unit)) (tree_fits unit h))
